-- The test says membership. Assumes nothing.
use mathlib.Core.Path.{◌≡◌, refl, sym}
use mathlib.Core.List.{List, [], ◌∷◌}
use mathlib.Core.Bool.{Bool, true, false}
use Prim.Native.Nat.{ℕ}
use Rattle.base.specs.Pick.{pick}
use Rattle.base.proofs.Tests.{never, pick_same}
use Rattle.base.specs.Equal.{equal}
use Rattle.base.proofs.EqualLaws.{equal-true, equal-refl}
use Rattle.ids.specs.Ids.{among, In, here, there}

pub among-true : (x : List ℕ) (ys : List (List ℕ)) → among x ys ≡ true → In x ys
unfolding among
among-true x [] e = never refl (sym e)
among-true x (y ∷ ys) e = go (equal y x) refl e (among-true x ys)
  where
    go : (t : Bool) → equal y x ≡ t → pick t true (among x ys) ≡ true → (among x ys ≡ true → In x ys) → In x (y ∷ ys)
    go true q h rec = rw (equal-true y x q) (here ys)
    go false q h rec = there y ys (rec h)

pub among_in : (x : List ℕ) (ys : List (List ℕ)) → In x ys → among x ys ≡ true
unfolding among
among_in x [] i = elim i [ ]
among_in x (y ∷ ys) (here ys') = rw (equal-refl x)
among_in x (y ∷ ys) (there y' ys' i) = rw (among_in x ys i) (pick_same (equal y x) true)

-- what is true exactly where x is y or among those of another list
pub among-or : (a b c : Bool) → (a ≡ true → pick b true c ≡ true) → (b ≡ true → a ≡ true) → (c ≡ true → a ≡ true) → a ≡ pick b true c
among-or true b c f g h = sym (f refl)
among-or false true c f g h = g refl
among-or false false true f g h = h refl
among-or false false false f g h = refl
