-- What the result means. Assumes nothing.
use Rattle.base.specs.declared.Refusal.TheVariants.{OutOfRange, TooShort}
use Rattle.base.specs.Coded.{Fault}
use Rattle.std.specs.Prelude.{Err, Ok, Result}
use mathlib.Core.Path.{◌≡◌, refl, ap}
use mathlib.Core.Bool.{Bool, true, false, not}
use mathlib.Core.List.{List}
use Prim.Native.Nat.{ℕ, ◌≤◌}
use native.Mathlib.Omega.{arith}
use lib.IntN.{ℤ, pos, negsuc}
use lib.Dec.{leb, eqb}
use lib.ListN.{length}
use borrow.Author.Tests.{leb-true, eqb-false, le-leb}
use Rattle.base.specs.Pick.{pick, both}
use Rattle.base.specs.Equal.{equal}
use Rattle.base.proofs.Tests.{clash, never, both_left, both_right}
use Rattle.base.proofs.EqualLaws.{equal-true, equal-refl}
use Rattle.signed.specs.Instant.{instant_of, InRange}
use Rattle.signed.proofs.IntegerLaws.{instant-finite}
use Rattle.answers.specs.Answers.{name_of}
use Rattle.answers.specs.declared.Found.{Found}
use Rattle.stretches.specs.Stretches.{Stretch}
use Rattle.stretches.proofs.StretchLaws.{stretches-list}
use Rattle.differences.specs.Difference.{ask_all, same_number, differ, differ_at, differences, listed, after_both, difference}
use Rattle.differences.specs.Means.{SameThree, Stretches}

-- the test of two numbers is equality
same-number : (a b : ℤ) → same_number a b ≡ true → a ≡ b
same-number (pos m) (pos n) e = ap pos (omega (arith, leb-true m n (both_left (leb m n) _ e), leb-true n m (both_right (leb m n) _ e)))
same-number (pos m) (negsuc n) e = never e refl
same-number (negsuc m) (pos n) e = never e refl
same-number (negsuc m) (negsuc n) e = ap negsuc (omega (arith, leb-true n m (both_left (leb n m) _ e), leb-true m n (both_right (leb n m) _ e)))

number_same : (a : ℤ) → same_number a a ≡ true
number_same (pos m) = rw (le-leb m m (omega arith))
number_same (negsuc m) = rw (le-leb m m (omega arith))

-- TWO ANSWERS DIFFER EXACTLY IF ONE OF THE THREE DOES
module _ (f : List ℕ) (x : Found) (g : List ℕ) (y : Found) where
  pub differ-false : differ f x g y ≡ false → SameThree f x g y
  unfolding differ
  differ-false e =
      let a : both (same_number x.wall y.wall) (both (same_number x.savings y.savings) (equal (name_of f x) (name_of g y))) ≡ true = undo _ e in
      let b = both_right (same_number x.wall y.wall) _ a in
      record {
        wall = same-number x.wall y.wall (both_left (same_number x.wall y.wall) _ a);
        savings = same-number x.savings y.savings (both_left (same_number x.savings y.savings) _ b);
        name = equal-true (name_of f x) (name_of g y) (both_right (same_number x.savings y.savings) _ b);
      }
    where
      undo : (b : Bool) → not b ≡ false → b ≡ true
      undo true h = refl
      undo false h = never {t = true} refl h

  pub differ-true : differ f x g y ≡ true → SameThree f x g y → ⊥
  unfolding differ
  differ-true e s =
      let a : differ f x g y ≡ false = rw (s.wall, s.savings, s.name, number_same y.wall, number_same y.savings, equal-refl (name_of g y)) in
      never e a

-- "a question's refusals": the two answers at the window's first instant
after-listed : (a b : Result Found Fault) (r : Result ℕ Fault) (n : ℕ) → after_both a b r ≡ Ok n → r ≡ Ok n
after-listed (Err (m, p)) b r n e = clash cc
after-listed (Ok x) (Err (m, p)) r n e = clash cc
after-listed (Ok x) (Ok y) r n e = e

-- WHAT A RESULT OF n STRETCHES MEANS
pub difference-means : (f g id : List ℕ) (first last : ℤ) (room n : ℕ) → difference f g id first last room ≡ Ok n → Stretches f g id first last room n
unfolding difference listed
difference-means f g id first last room n = go (eqb (instant_of first) 0) refl (eqb (instant_of last) 0) refl
  where
    all : List Stretch
    all = differences f g id first last

    fits : (b : Bool) → leb (length all) room ≡ b → pick {A = Result ℕ Fault} b (Ok (length all)) (Err (TooShort, 0)) ≡ Ok n → (length all ≡ n) × (n ≤ room)
    fits true h e = let q : length all ≡ n = cc in (q, omega (arith, leb-true (length all) room h))
    fits false h e = clash cc

    go : (s : Bool) → eqb (instant_of first) 0 ≡ s → (t : Bool) → eqb (instant_of last) 0 ≡ t
        → pick {A = Result ℕ Fault} s (Err (OutOfRange, 0)) (pick t (Err (OutOfRange, 0)) (after_both (ask_all f id first) (ask_all g id first) (pick (leb (length all) room) (Ok (length all)) (Err (TooShort, 0))))) ≡ Ok n
        → Stretches f g id first last room n
    go true a t b e = clash cc
    go false a true b e = clash cc
    go false a false b e =
        let i : InRange first = eqb-false (instant_of first) 0 a in
        let k = fits (leb (length all) room) refl (after-listed (ask_all f id first) (ask_all g id first) _ n e) in
        record {
          first-in = i;
          last-in = eqb-false (instant_of last) 0 b;
          list = all;
          lists = stretches-list (differ_at f g id) (instant_of first) (instant_of last) (omega (arith, (instant-finite (instant_of first) first refl i).low));
          many = k.0;
          fits = k.1;
        }
