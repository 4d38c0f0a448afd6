-- The double that `degrees_of` gives is nearer to the quotient than every other finite double: none is equally near, so the rule for a tie decides nothing.
-- Assumes nothing.
use mathlib.Core.Path.{◌≡◌, sym, ap, ◌∙◌, subst}
use mathlib.Core.Logic.{◌⊎◌, inl, inr}
use mathlib.Core.Bool.{Bool, true, false, not, ◌&&◌, true≢false}
use Prim.Native.Nat.{ℕ, zero, suc, ◌+◌, ◌-◌, ◌*◌, ◌/◌, ◌%◌, ◌^◌, ◌≤◌, ◌<◌, compare}
use native.Mathlib.Nat.{le_trans, le_of_eq, lt_of_le_of_lt, add-mul, mul-one, mul_comm, mul_assoc, mul_left_comm, mul_right_comm, mul-le-mul_right, eq_of_mul-eq-mul_right, div-add-mod', div-le_self, div-div-eq-div-mul, le-div_iff_mul-le, zero-mul}
use native.Mathlib.Omega.{arith}
use lib.Dec.{T, ltb, leb, eqb, ltb→lt, leb→le}
use lib.IntN.{ℤ, pos, negsuc, nat_abs}
use lib.Signed.{mag}
use lib.Pow.{pow-add, pow_pos, pow-lt, shl_lt}
use lib.Ieee.{Float, nan, inf, fin, binary64, up, down, size, round, fits, eq, is_nan}
use lib.Ieee.Digits.{back, size-le, size_reaches}
use lib.Ieee.Exact.{HasValue, units_val}
use lib.Ieee.Fits.{and_i, and_l, and_r, eq→eqb, down_pos, kept-lt, nearest-le, round_is, round-fits}
use lib.Ieee.Nearest.{closest}
use lib.Ieee.Scale.{finite}
use Rattle.base.proofs.Tests.{by_order}
use Rattle.pins.specs.Degrees.{degrees_of}
use Rattle.pins.specs.Nearest.{Nearer}
use Rattle.pins.proofs.ClosestLaws.{apart, nearest-unit}
use Rattle.pins.proofs.GapLaws.{alike, against, gap-alike, gap-against, farther, nothing, none, from_zero, from_less, same}

-- ---- a double in units of the smallest: m * 2 ^ i, with m below 2 ^ 53
record Units (M d : ℕ) : Type 0 where
  digits : ℕ
  power : ℕ
  small : digits < 2 ^ 53
  is : M * 2 ^ 1074 ≡ digits * 2 ^ power * d

within : (i j : ℕ) → 2 ^ i ≤ 2 ^ j → i ≤ j
within i j h = by_order j i (λ (k : j < i). absurd (no (2 ^ i) (2 ^ j) h (pow-lt k))) (λ (k : i ≤ j). k)
  where
    no : (a b : ℕ) → a ≤ b → b < a → ⊥
    no a b g k = omega arith

places : (m l : ℕ) (e : ℤ) → down e ≤ 2 ^ l → (i : ℕ) × (m * up e * 2 ^ l ≡ m * 2 ^ i * down e)
places m l (pos j) h = (j + l, mul_assoc m (2 ^ j) (2 ^ l) ∙ ap (λ (x : ℕ). m * x) (sym (pow-add 2 j l)) ∙ sym (mul-one _))
places m l (negsuc j) h = (
  l - suc j,
  rw (mul-one m) (sym (mul_assoc m (2 ^ (l - suc j)) (2 ^ suc j) ∙ ap (λ (x : ℕ). m * x) (sym (pow-add 2 (l - suc j) (suc j)) ∙ ap (λ (x : ℕ). 2 ^ x) (back l (suc j) (within (suc j) l h))))),
)

in-units : (t : Bool) (m : ℕ) (e : ℤ) → T (fits binary64 (fin t m e)) → Units (m * up e) (down e)
unfolding fits
in-units t zero e f = record { digits = 0; power = 0; small = pow_pos 53; is = simp zero-mul }
in-units t (suc m) e f =
    let a = eqb (suc m % 2) 1 in
    let b = ltb (suc m) (2 ^ 53) in
    let c = leb (down e) (2 ^ 1074) in
    let g : T (a && b && c) = and_l (a && b && c) (ltb (suc m * up e) (2 ^ 1024 * down e)) f in
    let p = places (suc m) 1074 e (leb→le (down e) (2 ^ 1074) (and_r (a && b) c g)) in
    record { digits = suc m; power = p.0; small = ltb→lt (suc m) (2 ^ 53) (and_r a b (and_l (a && b) c g)); is = p.1 }

-- ---- no fraction over 3600 lies half way: the units are multiples of 16, and half of 3600 is not
half : (N Q r P n : ℕ) → n ≡ N * 16 * P → Q * (3600 * P) + r ≡ n → r * 2 ≡ 3600 * P → N * 32 * P ≡ (Q * 7200 + 3600) * P
half N Q r P n e f g =
    let a : N * 16 * P ≡ N * P * 16 = mul_right_comm N 16 P in
    let b : N * 32 * P ≡ N * P * 32 = mul_right_comm N 32 P in
    let c : Q * (3600 * P) ≡ Q * P * 3600 = simp (mul_assoc, mul_comm, mul_left_comm) in
    let d : (Q * 7200 + 3600) * P ≡ Q * P * 7200 + 3600 * P = add-mul (Q * 7200) 3600 P ∙ ap (λ (x : ℕ). x + 3600 * P) (mul_right_comm Q 7200 P) in
    omega arith

no_tie : (n k N : ℕ) → n ≡ N * 16 * 2 ^ k → n % (3600 * 2 ^ k) * 2 ≡ 3600 * 2 ^ k → ⊥
no_tie n k N e t =
    let u = 3600 * 2 ^ k in
    let a = half N (n / u) (n % u) (2 ^ k) n e (div-add-mod' n u) t in
    let b : N * 32 ≡ n / u * 7200 + 3600 = eq_of_mul-eq-mul_right (2 ^ k) (pow_pos k) (N * 32) (n / u * 7200 + 3600) a in
    omega arith

units_of : (num k l : ℕ) → k ≤ l → num * 2 ^ (l + 4) ≡ num * 2 ^ (l - k) * 16 * 2 ^ k
units_of num k l h =
    let e : 2 ^ l ≡ 2 ^ (l - k) * 2 ^ k = ap (λ (x : ℕ). 2 ^ x) (sym (back l k h)) ∙ pow-add 2 (l - k) k in
    let f : 2 ^ (l + 4) ≡ 2 ^ l * 16 = pow-add 2 l 4 in
    rw (f, e) (simp (mul_assoc, mul_comm, mul_left_comm))

has-finite : (x : Float) (s : Bool) (a c : ℕ) → HasValue x s a c → T (finite x)
has-finite nan s a c v = v
has-finite (inf t) s a c v = v
has-finite (fin t m e) s a c v = tt

-- ---- num / 3600 in units, and what `round` makes of it
module _ (num : ℕ) (few : num < 2 ^ 32) where
  abbrev n : ℕ
  n = num * 2 ^ 1074

  abbrev k : ℕ
  k = size (n / 3600) - 53

  abbrev result : ℕ
  result = closest n (3600 * 2 ^ k)

  spare : (z : ℕ) → z ≤ 1106 → z - 53 ≤ 1053
  spare z h = omega arith

  k-most : k ≤ 1053
  k-most = spare (size (n / 3600)) (size-le (n / 3600) 1106 (lt_of_le_of_lt (div-le_self n 3600) (shl_lt 32 1074 few)))

  not-half : n % (3600 * 2 ^ k) * 2 ≡ 3600 * 2 ^ k → ⊥
  not-half = no_tie n k (num * 2 ^ (1070 - k)) (units_of num k 1070 (le_trans k-most (leb→le 1053 1070 tt)))

  reach : (z : ℕ) → 0 < z - 53 → 52 + (z - 53) < z
  reach z h = omega arith

  large : 0 < k → 2 ^ (52 + k) * 3600 ≤ n
  large h = (le-div_iff_mul-le (leb→le 1 3600 tt)).0 (size_reaches (n / 3600) (52 + k) (reach (size (n / 3600)) h))

  at_most : result ≤ 2 ^ 53
  at_most =
      let u = 3600 * 2 ^ k in
      le_trans (nearest-le (n / u) (compare (n % u * 2) u)) (subst (λ (x : ℕ). x < 2 ^ 53) (div-div-eq-div-mul n 3600 (2 ^ k)) (kept-lt 53 (n / 3600)))

  room : (j : ℕ) → j ≤ 1053 → 53 + j < 2098
  room j h = omega arith

  value : (s : Bool) → HasValue (round binary64 s num 3600) s (result * 2 ^ k) (2 ^ 1074)
  value s =
      let a : result * 2 ^ k ≤ 2 ^ (53 + k) = le_trans (mul-le-mul_right (2 ^ k) at_most) (le_of_eq (sym (pow-add 2 53 k))) in
      let b : 2 ^ (53 + k) < 2 ^ 2098 = pow-lt (room k k-most) in
      subst (λ (x : Float). HasValue x s (result * 2 ^ k) (2 ^ 1074)) (sym (round_is binary64 s num 3600)) (units_val binary64 s result k (lt_of_le_of_lt a b))

  held : (s : Bool) → T (fits binary64 (round binary64 s num 3600)) × T (finite (round binary64 s num 3600))
  held s = (round-fits binary64 s num 3600, has-finite (round binary64 s num 3600) s (result * 2 ^ k) (2 ^ 1074) (value s))

  -- a double of the same sign, and one of the other: they are the same number, or farther
  module _ (s : Bool) (m : ℕ) (e : ℤ) (r : HasValue (fin s m e) s (result * 2 ^ k) (2 ^ 1074)) (N d : ℕ) (D : 0 < d) (y : Units N d) where
    abbrev Y : ℕ
    Y = y.digits * 2 ^ y.power

    same_sign : (m * up e * d ≡ N * down e) ⊎ (apart (m * up e * 3600) (num * down e) * d < apart (N * 3600) (num * d) * down e)
    same_sign = elim (nearest-unit 52 n 3600 k y.digits y.power (leb→le 1 3600 tt) not-half y.small large) [
      | inl f ↦ inl (same (m * up e) N (down e) d (result * 2 ^ k) (2 ^ 1074) (pow_pos 1074) r.1 (y.is ∙ ap (λ (x : ℕ). x * d) f))
      | inr l ↦ inr (farther _ _ (down e) d (2 ^ 1074) _ _ (down_pos e) D (gap-alike (m * up e) (down e) (result * 2 ^ k) (2 ^ 1074) num r.1) (gap-alike N d Y (2 ^ 1074) num y.is) l)
    ]

    other_sign : ((m * up e ≡ 0) × (N ≡ 0)) ⊎ (apart (m * up e * 3600) (num * down e) * d < (N * 3600 + num * d) * down e)
    other_sign = elim (nearest-unit 52 n 3600 k 0 0 (leb→le 1 3600 tt) not-half (pow_pos 53) large) [
      | inl f ↦
          by_order 0 Y
          (λ (h : 0 < Y). inr (apply (from_zero (result * 2 ^ k) Y n f h)))
          (λ (h : Y ≤ 0). inl (nothing (m * up e) (2 ^ 1074) (result * 2 ^ k) (down e) (pow_pos 1074) r.1 f, nothing N (2 ^ 1074) Y d (pow_pos 1074) y.is (none Y h)))
      | inr l ↦ inr (apply (from_less _ n (Y * 3600) l))
    ]
      where
        apply : apart (result * 2 ^ k * 3600) n < Y * 3600 + n → apart (m * up e * 3600) (num * down e) * d < (N * 3600 + num * d) * down e
        apply l = farther _ _ (down e) d (2 ^ 1074) _ _ (down_pos e) D (gap-alike (m * up e) (down e) (result * 2 ^ k) (2 ^ 1074) num r.1) (gap-against N d Y (2 ^ 1074) num y.is) l

-- ---- the law
abbrev negative : ℤ → Bool
negative (pos n) = false
negative (negsuc n) = true

zeros : (M N c d : ℕ) → M ≡ 0 → N ≡ 0 → T (eqb (M * d) (N * c) && eqb (M * d) 0)
zeros M N c d e f =
    let a : M * d ≡ 0 = rw e (zero-mul d) in
    let b : N * c ≡ 0 = rw f (zero-mul c) in
    and_i (eqb (M * d) (N * c)) (eqb (M * d) 0) (eq→eqb (a ∙ sym b)) (eq→eqb a)

equal : (a b : ℕ) (t : Bool) → a ≡ b → T t → T (eqb a b && t)
equal a b t e h = and_i (eqb a b) t (eq→eqb e) h

judged : (z : ℤ) (few : nat_abs z < 2 ^ 32) (x y : Float) → HasValue x (negative z) (result (nat_abs z) few * 2 ^ k (nat_abs z) few) (2 ^ 1074)
    → T (fits binary64 y) → T (finite y) → T (eq x y) ⊎ Nearer z x y
unfolding eq
judged z few nan y v f g = absurd v
judged z few (inf t) y v f g = absurd v
judged z few (fin t m e) nan v f g = absurd g
judged z few (fin t m e) (inf u) v f g = absurd g
judged (pos n) few (fin true m e) (fin u o d) v f g = absurd (true≢false v.0)
judged (negsuc n) few (fin false m e) (fin u o d) v f g = absurd (true≢false (sym v.0))
judged (pos n) few (fin false m e) (fin false o d) v f g =
    elim (same_sign n few false m e v (o * up d) (down d) (down_pos d) (in-units false o d f)) [
      | inl h ↦ inl (equal (m * up e * down d) (o * up d * down e) _ h tt)
      | inr l ↦ inr (rw (alike false (m * up e * 3600) (n * down e), alike false (o * up d * 3600) (n * down d)) l)
    ]
judged (negsuc n) few (fin true m e) (fin true o d) v f g =
    elim (same_sign (suc n) few true m e v (o * up d) (down d) (down_pos d) (in-units true o d f)) [
      | inl h ↦ inl (equal (m * up e * down d) (o * up d * down e) _ h tt)
      | inr l ↦ inr (rw (alike true (m * up e * 3600) (suc n * down e), alike true (o * up d * 3600) (suc n * down d)) l)
    ]
judged (pos n) few (fin false m e) (fin true o d) v f g =
    elim (other_sign n few false m e v (o * up d) (down d) (down_pos d) (in-units true o d f)) [
      | inl h ↦ inl (zeros (m * up e) (o * up d) (down e) (down d) h.0 h.1)
      | inr l ↦ inr (rw (alike false (m * up e * 3600) (n * down e), (against (o * up d * 3600) (n * down d)).1) l)
    ]
judged (negsuc n) few (fin true m e) (fin false o d) v f g =
    elim (other_sign (suc n) few true m e v (o * up d) (down d) (down_pos d) (in-units false o d f)) [
      | inl h ↦ inl (zeros (m * up e) (o * up d) (down e) (down d) h.0 h.1)
      | inr l ↦ inr (rw (alike true (m * up e * 3600) (suc n * down e), (against (o * up d * 3600) (suc n * down d)).0) l)
    ]

pub nearest-double : (z : ℤ) → mag z < 2 ^ 31 → (y : Float) → T (fits binary64 y) → T (finite y) → T (eq (degrees_of z) y) ⊎ Nearer z (degrees_of z) y
unfolding degrees_of
nearest-double (pos n) h y f g =
    let few : n < 2 ^ 32 = omega arith in
    judged (pos n) few (round binary64 false n 3600) y (value n few false) f g
nearest-double (negsuc n) h y f g =
    let few : suc n < 2 ^ 32 = omega arith in
    judged (negsuc n) few (round binary64 true (suc n) 3600) y (value (suc n) few true) f g

pub finite-double : (z : ℤ) → mag z < 2 ^ 31 → T (fits binary64 (degrees_of z)) × T (finite (degrees_of z))
unfolding degrees_of
finite-double (pos n) h = held n (omega arith) false
finite-double (negsuc n) h = held (suc n) (omega arith) true

number : (x : Float) → T (finite x) → T (not (is_nan x))
unfolding is_nan
number nan h = h
number (inf t) h = tt
number (fin t m e) h = tt

-- so it has a bit pattern
pub not-nan : (z : ℤ) → mag z < 2 ^ 31 → T (not (is_nan (degrees_of z)))
not-nan z h = number (degrees_of z) (finite-double z h).1
