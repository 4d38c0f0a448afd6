-- Writing a code: where there is no room, and stores from the front on. Assumes nothing.
use Rattle.base.specs.declared.Refusal.TheVariants.{TooShort}
use Rattle.base.specs.declared.Refusal.{Refusal}
use Rattle.std.specs.Prelude.{Err, Ok}
use mathlib.Core.Path.{◌≡◌, refl, ap, ◌∙◌}
use mathlib.Core.List.{List, ◌++◌}
use mathlib.Core.Bool.{Bool, true, false}
use Prim.Native.Nat.{ℕ, ◌≤◌, ◌<◌}
use native.Mathlib.Omega.{arith}
use native.Mathlib.Nat.{zero-add}
use lib.Dec.{leb}
use lib.ListN.{length, drop}
use lib.Seq.{sets, sets-eq}
use borrow.Author.Tests.{le-leb, lt-leb, leb-true}
use Rattle.base.specs.Pick.{pick}
use Rattle.base.specs.Writing.{Form, bytes, unfit, wrote, placed}
pub use Rattle.base.specs.Writing.{Writes}
use Rattle.base.proofs.Tests.{clash}

pub no_room : (xs d : List ℕ) → length d < length xs → Writes (bytes xs) d (Err TooShort) d
unfolding wrote placed
no_room xs d h = (rw (lt-leb (length xs) (length d) h), rw (lt-leb (length xs) (length d) h))

pub not_carried : (n : Refusal) (d : List ℕ) → Writes (unfit n) d (Err n) d
unfolding wrote placed
not_carried n d = (refl, refl)

-- stores in a row from the front on
pub stored : (xs d : List ℕ) → length xs ≤ length d → Writes (bytes xs) d (Ok (length xs)) (sets d 0 xs)
unfolding wrote placed
stored xs d h = (
  rw (le-leb (length xs) (length d) h),
  rw (le-leb (length xs) (length d) h) (sets-eq xs d 0 (omega arith) ∙ ap (λ (k : ℕ). xs ++ drop k d) (zero-add (length xs))),
)

-- what was written is within the output
pub wrote-le : (x : Form) (d : List ℕ) (n : ℕ) → Ok n ≡ wrote x d → n ≤ length d
unfolding wrote
wrote-le (bytes xs) d n = go (leb (length xs) (length d)) refl
  where
    go : (t : Bool) → leb (length xs) (length d) ≡ t → Ok n ≡ pick t (Ok (length xs)) (Err TooShort) → n ≤ length d
    go true l p = let m : n ≡ length xs = cc in omega (arith, leb-true (length xs) (length d) l)
    go false l p = clash cc
wrote-le (unfit k) d n = λ p. clash cc
