-- A whole number's double divided by 3600 is the double nearest to the quotient; at a multiple of 225 nothing is rounded off, and sixteen times it is a whole
-- number again. Assumes nothing.
use mathlib.Core.Path.{◌≡◌, refl, sym, ap, ◌∙◌}
use mathlib.Core.Bool.{Bool, true, false}
use Prim.Native.Nat.{ℕ, zero, suc, ◌*◌, ◌/◌, ◌%◌, ◌^◌, ◌<◌}
use native.Mathlib.Nat.{mul_assoc, mul_comm, mul-pos, mul-one, lt_of_lt_of_le}
use native.Mathlib.Omega.{arith}
use lib.IntN.{ℤ, pos, negsuc, neg_ℤ}
use lib.Signed.{mag, quot_z}
use lib.Dec.{T, leb→le, le→leb, lt→ltb}
use lib.Pow.{shl_lt}
use mir.Syntax.{w32}
use mir.Val.{SFits}
use lib.Ieee.{Float, nan, inf, fin, binary64, up, down, unlike, round, div, mul, of_int, to_signed, in_signed, in_float}
use lib.Ieee.Exact.{HasValue, round_exact}
use lib.Ieee.Fits.{down_pos}
use lib.Ieee.Back.{round_whole, positive_back, negative_back}
use lib.Ieee.Scale.{round_same}
use Rattle.pins.specs.declared.Pin.{Pin}
use Rattle.pins.specs.Degrees.{degrees_of, pin_of, sixteen, IsSixteenths, Sixteenfold}

-- 3600 as a double: 225 * 2 ^ 4
abbrev pub hour : Float
hour = fin false 225 (pos 4)

unlike-false : (t : Bool) → unlike t false ≡ t
unlike-false true = refl
unlike-false false = refl

times : (a b v : ℕ) → a * 1 ≡ b * v → a * 1 * 3600 ≡ b * (3600 * v)
times a b v h = ap (λ (x : ℕ). x * 3600) h ∙ mul_assoc b v 3600 ∙ ap (λ (x : ℕ). b * x) (mul_comm v 3600)

-- an x that is n / 1, divided by 3600
div-whole : (x : Float) (s : Bool) (n : ℕ) → HasValue x s n 1 → div binary64 x hour ≡ round binary64 s n 3600
unfolding div
div-whole nan s n v = absurd v
div-whole (inf t) s n v = absurd v
div-whole (fin t m e) s n v =
    ap (λ (b : Bool). round binary64 b (m * up e * 1) (3600 * down e)) (unlike-false t ∙ v.0)
    ∙ round_same binary64 s (m * up e * 1) (3600 * down e) n 3600 (mul-pos (omega arith) (down_pos e)) (omega arith) (times (m * up e) n (down e) v.1)

-- an x that is k / 16, times 16
mul-sixteen : (x : Float) (s : Bool) (k : ℕ) → HasValue x s k 16 → mul binary64 x sixteen ≡ round binary64 s k 1
unfolding mul
mul-sixteen nan s k v = absurd v
mul-sixteen (inf t) s k v = absurd v
mul-sixteen (fin t m e) s k v =
    ap (λ (b : Bool). round binary64 b (m * up e * 16) (down e * 1)) (unlike-false t ∙ v.0)
    ∙ round_same binary64 s (m * up e * 16) (down e * 1) k 1 (mul-pos (down_pos e) (omega arith)) (omega arith) (simp mul-one v.1)

-- n / 3600 is n / 225 sixteenths, which a double holds
held : (s : Bool) (n : ℕ) → n % 225 ≡ 0 → n < 2 ^ 53 → HasValue (round binary64 s n 3600) s (n / 225) 16
held s n z h =
    let k : ℕ = n / 225 in
    let b : k < 2 ^ 53 = omega arith in
    rw (round_same binary64 s n 3600 k 16 (omega arith) (omega arith) (omega arith))
    (round_exact binary64 s k 16 k 1070 (omega arith) b (lt_of_lt_of_le (shl_lt 53 1070 b) (leb→le (2 ^ 1123) (2 ^ 2098) tt)) (sym (mul_assoc k (2 ^ 1070) 16)))

-- for every 32-bit number
pub nearest : (z : ℤ) → mag z < 2 ^ 31 → div binary64 (of_int binary64 z) hour ≡ degrees_of z
unfolding degrees_of of_int
nearest (pos n) h = div-whole _ false n (round_whole binary64 false n (omega arith))
nearest (negsuc n) h = div-whole _ true (suc n) (round_whole binary64 true (suc n) (omega arith))

negative : (x : Float) (q : ℕ) → 0 < q → HasValue x true q 16 → IsSixteenths (neg_ℤ (pos q)) x × (mul binary64 x sixteen ≡ of_int binary64 (neg_ℤ (pos q)))
unfolding of_int
negative x zero h v = absurd (omega arith)
negative x (suc q) h v = (v, mul-sixteen x true (suc q) v)

pub exact : (z : ℤ) → mag z < 2 ^ 31 → Sixteenfold z (degrees_of z)
unfolding of_int degrees_of
exact (pos n) h e = let v = held false n e (omega arith) in (v, mul-sixteen _ false (n / 225) v)
exact (negsuc n) h e = negative _ (suc n / 225) (omega arith) (held true (suc n) e (omega arith))

-- a 32-bit number comes back from its double
back : (z : ℤ) → mag z < 2 ^ 31 → T (in_signed binary64 31 (of_int binary64 z)) × (to_signed 31 (of_int binary64 z) ≡ z)
back (pos n) h = positive_back binary64 31 n (unfold in_float in le→leb n (2 ^ 53) (omega arith)) h
back (negsuc n) h = negative_back binary64 31 n (unfold in_float in lt→ltb n (2 ^ 53) (omega arith)) h

mag-neg : (q b : ℕ) → q < b → mag (neg_ℤ (pos q)) < b
mag-neg zero b h = h
mag-neg (suc q) b h = omega arith

mag-over : (z : ℤ) → mag z < 2 ^ 31 → mag (quot_z z (pos 225)) < 2 ^ 31
mag-over (pos n) h = omega arith
mag-over (negsuc n) h = mag-neg (suc n / 225) (2 ^ 31) (omega arith)

-- sixteen times the degrees, as a 32-bit number
pub record Whole (z : ℤ) (x : Float) : Type 0 where
  pub range : SFits w32 (quot_z z (pos 225))
  pub whole : T (in_signed binary64 31 x)
  pub is : to_signed 31 x ≡ quot_z z (pos 225)

pub whole : (z : ℤ) (x : Float) → SFits w32 z → x ≡ of_int binary64 (quot_z z (pos 225)) → Whole z x
whole z x f e =
    let r = mag-over z f.sfits in
    let b = back (quot_z z (pos 225)) r in
    record { range = record { sfits = r }; whole = rw e b.0; is = rw e b.1 }

-- the pin from its two numbers
pub pair : (a b : Float) (x y : ℤ) → a ≡ degrees_of x → b ≡ degrees_of y → ◌≡◌ {A = Pin} (record { latitude = a; longitude = b }) (pin_of x y)
pair a b x y e f = rw (e, f)
