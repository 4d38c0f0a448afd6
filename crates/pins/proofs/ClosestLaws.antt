-- A fraction rounded to a multiple of 2 ^ k by the kit's `closest`: where it isn't half way between two multiples, every other number of as many digits as the format
-- keeps is farther from it. Assumes nothing.
use mathlib.Core.Path.{◌≡◌, sym, ap, ◌∙◌, subst}
use mathlib.Core.Logic.{◌⊎◌, inl, inr}
use mathlib.Core.Bool.{not}
use Prim.Native.Nat.{ℕ, suc, ◌+◌, ◌-◌, ◌*◌, ◌/◌, ◌%◌, ◌^◌, ◌≤◌, ◌<◌, compare, Ordering}
use native.Mathlib.Nat.{le_of_eq, le_of_lt, le_trans, eq-or-lt_of_le, suc-mul, mul_comm, mul_assoc, mul_left_comm, mul-pos, mul-le-mul_right, mul-lt-mul_of_pos_right, lt_of_lt_of_le, div-add-mod', mod-lt}
use native.Mathlib.Omega.{arith}
use lib.Dec.{T, is_le, compare_is_eq, leb→le, nleb→lt, eqb→eq}
use lib.Arith.{lt_of_le-ne}
use lib.Pow.{pow-add, pow_pos, pow_mono, shl_lt}
use lib.Ieee.{nearest}
use lib.Ieee.Digits.{back}
use lib.Ieee.Nearest.{closest}
use Rattle.base.proofs.Tests.{by_order}

-- the distance of two numbers
abbrev pub apart : ℕ → ℕ → ℕ
apart a b = a - b + (b - a)

-- q * u where q is below w
step : (q w u : ℕ) → q < w → q * u + u ≤ w * u
step q w u h = le_trans (le_of_eq (sym (suc-mul q u))) (mul-le-mul_right u h)

-- the multiple q of u is the rounded one, or farther from w * u + r
module _ (w u r q : ℕ) (h : r < u) (ne : r * 2 ≡ u → ⊥) where
  low : r * 2 < u → (q ≡ w) ⊎ (apart (w * u) (w * u + r) < apart (q * u) (w * u + r))
  low l =
      by_order q w
      (λ (k : q < w). let s = step q w u k in inr (omega arith))
      (λ (k : w ≤ q). elim (eq-or-lt_of_le k) [ inl e ↦ inl (sym e) | inr j ↦ let s = step w q u j in inr (omega arith) ])

  high : u < r * 2 → (q ≡ suc w) ⊎ (apart (w * u + u) (w * u + r) < apart (q * u) (w * u + r))
  high l =
      by_order w q
      (λ (k : w < q). elim (eq-or-lt_of_le k) [ inl e ↦ inl (sym e) | inr j ↦ let s : w * u + u + u ≤ q * u = rw suc-mul at (step (suc w) q u j) in inr (omega arith) ])
      (λ (k : q ≤ w). let s : q * u ≤ w * u = mul-le-mul_right u k in inr (omega arith))

  closer : (o : Ordering) → (T (is_le o) → r * 2 ≤ u) → (T (not (is_le o)) → u < r * 2) → (T (compare_is_eq o) → r * 2 ≡ u)
      → (q ≡ nearest w o) ⊎ (apart (nearest w o * u) (w * u + r) < apart (q * u) (w * u + r))
  closer Ordering.lt le gt eq = low (lt_of_le-ne (le tt) ne)
  closer Ordering.eq le gt eq = absurd (ne (eq tt))
  closer Ordering.gt le gt eq = rw (suc-mul w u) (high (gt tt))

multiple : (n u q : ℕ) → 0 < u → (n % u * 2 ≡ u → ⊥) → (q ≡ closest n u) ⊎ (apart (closest n u * u) n < apart (q * u) n)
multiple n u q U ne =
    subst (λ (x : ℕ). (q ≡ closest n u) ⊎ (apart (closest n u * u) x < apart (q * u) x)) (div-add-mod' n u)
    (closer (n / u) u (n % u) q (mod-lt n U) ne (compare (n % u * 2) u) (leb→le (n % u * 2) u) (nleb→lt (n % u * 2) u) (eqb→eq (n % u * 2) u))

no-farther : (n u q : ℕ) → 0 < u → (n % u * 2 ≡ u → ⊥) → apart (closest n u * u) n ≤ apart (q * u) n
no-farther n u q U ne = elim (multiple n u q U ne) [ inl e ↦ le_of_eq (ap (λ (x : ℕ). apart (x * u) n) (sym e)) | inr l ↦ le_of_lt l ]

-- m * 2 ^ i, where m has p + 1 digits at most, and the fraction at least as many above 2 ^ k
module _ (p n den k m i : ℕ) (D : 0 < den) (ne : n % (den * 2 ^ k) * 2 ≡ den * 2 ^ k → ⊥) (small : m < 2 ^ suc p) (large : 0 < k → 2 ^ (p + k) * den ≤ n) where
  abbrev rounded : ℕ
  rounded = closest n (den * 2 ^ k)

  U : 0 < den * 2 ^ k
  U = mul-pos D (pow_pos k)

  turn : (q : ℕ) → q * (den * 2 ^ k) ≡ q * 2 ^ k * den
  turn q = simp (mul_assoc, mul_comm, mul_left_comm)

  below : i < k → apart (rounded * 2 ^ k * den) n < apart (m * 2 ^ i * den) n
  below h =
      let a : m * 2 ^ i < 2 ^ (p + k) = lt_of_lt_of_le (shl_lt (suc p) i small) (pow_mono (omega arith)) in
      let b : m * 2 ^ i * den < 2 ^ (p + k) * den = mul-lt-mul_of_pos_right a D in
      let c : 2 ^ (p + k) * den ≤ n = large (omega arith) in
      let e : 2 ^ p * (den * 2 ^ k) ≡ 2 ^ (p + k) * den = turn (2 ^ p) ∙ ap (λ (x : ℕ). x * den) (sym (pow-add 2 p k)) in
      let f = rw (turn rounded, e) at (no-farther n (den * 2 ^ k) (2 ^ p) U ne) in
      omega arith

  pub nearest-unit : (m * 2 ^ i ≡ rounded * 2 ^ k) ⊎ (apart (rounded * 2 ^ k * den) n < apart (m * 2 ^ i * den) n)
  nearest-unit = by_order i k (λ (h : i < k). inr (below h)) (λ (h : k ≤ i).
      let e : m * 2 ^ (i - k) * 2 ^ k ≡ m * 2 ^ i = mul_assoc m (2 ^ (i - k)) (2 ^ k) ∙ ap (λ (x : ℕ). m * x) (sym (pow-add 2 (i - k) k) ∙ ap (λ (x : ℕ). 2 ^ x) (back i k h)) in
      elim (multiple n (den * 2 ^ k) (m * 2 ^ (i - k)) U ne) [
        | inl f ↦ inl (sym e ∙ ap (λ (x : ℕ). x * 2 ^ k) f)
        | inr l ↦ inr (rw (turn rounded, turn (m * 2 ^ (i - k)), e) at l)
      ])
