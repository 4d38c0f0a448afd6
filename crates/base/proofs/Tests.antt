-- Tests turned into facts. Assumes nothing.
use mathlib.Core.Path.{◌≡◌, refl, sym, ◌∙◌}
use mathlib.Core.Bool.{Bool, true, false}
use Prim.Native.Nat.{ℕ, ◌≤◌, ◌<◌}
use native.Mathlib.Omega.{arith}
use lib.Dec.{ltb}
use borrow.Author.Tests.{ltb-true, ltb-false}
use Rattle.base.specs.Pick.{pick, both}

-- what two different constructors that are equal come to: `clash cc`
pub clash : {A : Type 0} → ◌≡◌ {A = ℕ} 0 1 → A
clash e = absurd (omega arith)

pub never : {A : Type 0} {t : Bool} → t ≡ true → t ≡ false → A
never {A} {t} e f = let z : true ≡ false = sym e ∙ f in absurd (go z)
  where
    go : true ≡ false → ⊥
    go e = clash cc

-- a proof by cases on an order
pub by_order : (a b : ℕ) {G : Type 0} → (a < b → G) → (b ≤ a → G) → G
by_order a b {G} f g = go (ltb a b) refl
  where
    go : (t : Bool) → ltb a b ≡ t → G
    go true e = f (ltb-true a b e)
    go false e = g (ltb-false a b e)

-- P of a pick, from P of each side under its test
pub pick-holds : {A : Type 0} (P : A → Type 0) (t : Bool) {x y : A} → (t ≡ true → P x) → (t ≡ false → P y) → P (pick t x y)
pick-holds P true f g = f refl
pick-holds P false f g = g refl

pub pick_same : {A : Type 0} (t : Bool) (a : A) → pick t a a ≡ a
pick_same true a = refl
pick_same false a = refl

pub both_left : (a b : Bool) → both a b ≡ true → a ≡ true
both_left true b e = refl
both_left false b e = e

pub both_right : (a b : Bool) → both a b ≡ true → b ≡ true
both_right true b e = e
both_right false b e = never e refl
