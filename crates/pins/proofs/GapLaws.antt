-- The gap between a double and a fraction, in units of the smallest double and in the scale of `gap`. Assumes nothing.
use mathlib.Core.Path.{◌≡◌, refl, sym, ap, ◌∙◌}
use mathlib.Core.Bool.{Bool, true, false}
use Prim.Native.Nat.{ℕ, zero, suc, ◌+◌, ◌-◌, ◌*◌, ◌≤◌, ◌<◌}
use native.Mathlib.Nat.{add-mul, mul-sub, mul_comm, mul_assoc, mul_left_comm, mul_right_comm, mul-pos, mul-lt-mul_of_pos_right, lt_of_mul-lt-mul_right, eq_of_mul-eq-mul_right, zero-mul}
use native.Mathlib.Omega.{arith}
use lib.IntN.{nat_abs, sub_ℕ, ◌-ℤ◌}
use borrow.Author.Tests.{lt-ltb, le-ltb}
use Rattle.base.proofs.Tests.{by_order}
use Rattle.pins.specs.Nearest.{signed}
use Rattle.pins.proofs.ClosestLaws.{apart}

-- ---- the difference of two numbers with signs
abs-sub : (a b : ℕ) → nat_abs (sub_ℕ a b) ≡ apart a b
abs-sub a b = by_order a b (λ (h : a < b). rw (lt-ltb a b h) (omega arith)) (λ (h : b ≤ a). rw (le-ltb a b h) (omega arith))

apart-comm : (a b : ℕ) → apart a b ≡ apart b a
apart-comm a b = omega arith

pub alike : (s : Bool) (a b : ℕ) → nat_abs (signed s a -ℤ signed s b) ≡ apart a b
alike false a zero = omega arith
alike false a (suc b) = abs-sub a (suc b)
alike true zero zero = refl
alike true zero (suc b) = omega arith
alike true (suc a) zero = abs-sub 0 (suc a) ∙ apart-comm 0 (suc a)
alike true (suc a) (suc b) = abs-sub (suc b) (suc a) ∙ apart-comm (suc b) (suc a)

pub against : (a b : ℕ) → (nat_abs (signed false a -ℤ signed true b) ≡ a + b) × (nat_abs (signed true a -ℤ signed false b) ≡ a + b)
against zero zero = (refl, refl)
against zero (suc b) = (refl, abs-sub 0 (suc b) ∙ omega arith)
against (suc a) zero = (refl, abs-sub 0 (suc a) ∙ omega arith)
against (suc a) (suc b) = (refl, omega arith)

-- ---- a double x that is M / d, and R units of which l make 1
module _ (M d R l num : ℕ) (h : M * l ≡ R * d) where
  cross : M * 3600 * l ≡ R * 3600 * d
  cross = mul_right_comm M 3600 l ∙ ap (λ (x : ℕ). x * 3600) h ∙ mul_right_comm R d 3600

  sub-mul : (a b c : ℕ) → (a - b) * c ≡ a * c - b * c
  sub-mul a b c = mul_comm (a - b) c ∙ mul-sub c a b ∙ rw (mul_comm c a, mul_comm c b)

  apart-mul : (a b c : ℕ) → apart a b * c ≡ apart (a * c) (b * c)
  apart-mul a b c = add-mul (a - b) (b - a) c ∙ rw (sub-mul a b c, sub-mul b a c)

  pub gap-alike : apart (M * 3600) (num * d) * l ≡ d * apart (R * 3600) (num * l)
  gap-alike =
      apart-mul (M * 3600) (num * d) l
      ∙ rw (cross, mul_right_comm num d l) (sym (apart-mul (R * 3600) (num * l) d) ∙ mul_comm _ d)

  pub gap-against : (M * 3600 + num * d) * l ≡ d * (R * 3600 + num * l)
  gap-against =
      add-mul (M * 3600) (num * d) l
      ∙ rw (cross, mul_right_comm num d l) (sym (add-mul (R * 3600) (num * l) d) ∙ mul_comm _ d)

pub farther : (g h c d l x y : ℕ) → 0 < c → 0 < d → g * l ≡ c * x → h * l ≡ d * y → x < y → g * d < h * c
farther g h c d l x y C D e f k =
    let a : g * d * l ≡ x * (c * d) = mul_right_comm g d l ∙ ap (λ (z : ℕ). z * d) e ∙ simp (mul_assoc, mul_comm, mul_left_comm) in
    let b : h * c * l ≡ y * (c * d) = mul_right_comm h c l ∙ ap (λ (z : ℕ). z * c) f ∙ simp (mul_assoc, mul_comm, mul_left_comm) in
    lt_of_mul-lt-mul_right l (rw (a, b) (mul-lt-mul_of_pos_right k (mul-pos C D)))

pub nothing : (M l R d : ℕ) → 0 < l → M * l ≡ R * d → 0 ≡ R → M ≡ 0
nothing M l R d L e z = eq_of_mul-eq-mul_right l L M 0 (e ∙ ap (λ (x : ℕ). x * d) (sym z) ∙ zero-mul d ∙ sym (zero-mul l))

pub none : (x : ℕ) → x ≤ 0 → 0 ≡ x
none x h = omega arith

pub from_zero : (R y n : ℕ) → 0 ≡ R → 0 < y → apart (R * 3600) n < y * 3600 + n
from_zero R y n e h = omega arith

pub from_less : (x n y : ℕ) → x < apart 0 n → x < y + n
from_less x n y h = omega arith

pub same : (M N c d R l : ℕ) → 0 < l → M * l ≡ R * c → N * l ≡ R * d → M * d ≡ N * c
same M N c d R l L e f =
    eq_of_mul-eq-mul_right l L (M * d) (N * c)
    (mul_right_comm M d l ∙ ap (λ (z : ℕ). z * d) e ∙ mul_right_comm R c d ∙ ap (λ (z : ℕ). z * c) (sym f) ∙ mul_right_comm N l c)
