-- The length and the place that normalizing gives fit one result. Assumes nothing.
use Rattle.base.specs.declared.Refusal.TheVariants.{TooShort}
use Rattle.base.specs.Coded.{Fault}
use Rattle.std.specs.Prelude.{Err, Ok, Result}
use mathlib.Core.Path.{◌≡◌, refl, sym, subst⁻¹}
use mathlib.Core.Bool.{Bool, true, false}
use mathlib.Core.List.{List}
use Prim.Native.Nat.{ℕ, ◌≤◌}
use native.Mathlib.Omega.{arith}
use lib.ListN.{length}
use lib.Dec.{leb}
use Rattle.base.specs.Pick.{pick}
use Rattle.base.proofs.Parts.{Bytes}
use Rattle.field_checks.specs.Check.{check_of}
use Rattle.field_checks.proofs.WellFormedLaws.{good-well-formed}
use Rattle.rewrite.specs.Preferred.{preferred, given, rewrite_of}
use Rattle.rewrite.proofs.Rewriting.{preferred-limit}
use Rattle.capi.proofs.PlaceLaws.{check-near}
use Rattle.replies.specs.Small.{SmallLength}

rewrite-near : (f d : List ℕ) → Bytes f → SmallLength (rewrite_of f d)
unfolding rewrite_of
rewrite-near f d b = go (check_of f) refl
  where
    room : (t : Bool) → length (preferred f) ≤ 4194304 → SmallLength (pick t (Ok (length (preferred f))) (Err (TooShort, 0)))
    room true l = record { to = l }
    room false l = record { to = omega arith }

    go : (v : Result (Unit {0}) Fault) → v ≡ check_of f → SmallLength (given v (preferred f) d)
    go (Err (n, p)) e = record { to = (check-near f (Err (n, p)) e).to }
    go (Ok tt) e = room (leb (length (preferred f)) (length d)) (preferred-limit f (good-well-formed f (sym e)) b)

pub rewrite-small : (f d : List ℕ) (r : Result ℕ Fault) → Bytes f → r ≡ rewrite_of f d → SmallLength r
rewrite-small f d r b e = subst⁻¹ SmallLength e (rewrite-near f d b)
