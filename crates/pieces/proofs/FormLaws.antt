-- A code written where there is room for it. Assumes nothing.
use Rattle.base.specs.declared.Refusal.{Refusal}
use Rattle.std.specs.Prelude.{Err, Ok, Result}
use mathlib.Core.Path.{◌≡◌, sym, ◌∙◌}
use mathlib.Core.Bool.{true}
use mathlib.Core.List.{List}
use mathlib.Core.Logic.{inl, inr}
use Prim.Native.Nat.{ℕ, ◌≤◌}
use native.Mathlib.Omega.{arith}
use lib.ListN.{length}
use borrow.Author.Tests.{le-leb, ne_eqb}
use Rattle.base.specs.Moment.{end_of_time}
use Rattle.base.specs.Writing.{Form, bytes, wrote, placed, Writes}
use Rattle.base.proofs.MomentLaws.{Moment, finite-yes}
use Rattle.counts.specs.Count.{write_count, count_form}
use Rattle.transitions.specs.Transition.{write_moment, is_moment, moment_form}
use Rattle.pieces.specs.View.{Put}
use Rattle.base.proofs.Tests.{clash}

module _ (x : Form) (xs d e : List ℕ) (r : Result ℕ Refusal) (i : x ≡ bytes xs) (l : length xs ≤ length d) (w : Writes x d r e) where
  given : r ≡ Ok (length xs)
  unfolding wrote
  given = w.0 ∙ rw (i, le-leb (length xs) (length d) l)

  pub form-put : (n : ℕ) → r ≡ Ok n → Put xs d n e
  unfolding placed
  form-put n k =
      let z : Ok n ≡ Ok (length xs) = sym k ∙ given in
      record { size = cc; left = w.1 ∙ rw (i, le-leb (length xs) (length d) l) }

  pub form-refused : (n : Refusal) → r ≡ Err n → ⊥
  form-refused n k = let z : Err n ≡ Ok (length xs) = sym k ∙ given in clash cc

is-moment : (m : ℕ) → Moment m → is_moment m ≡ true
is-moment m (inl e) = rw e
is-moment m (inr (inl e)) = rw e
is-moment m (inr (inr f)) = rw (ne_eqb m 0 (omega arith), ne_eqb m end_of_time (omega arith), finite-yes m f)

pub moment-form : (p m : ℕ) → Moment m → moment_form p m ≡ bytes (write_moment p m)
moment-form p m h = rw (is-moment m h)

pub count-form : (v : ℕ) → v ≤ 2147483647 → count_form v ≡ bytes (write_count v)
count-form v h = rw (le-leb v 2147483647 h)
