-- Laws of the offset code: how a reading goes on, what a sum that reads is, and that reading and writing undo one another.
-- Assumes nothing.
use Rattle.base.specs.declared.Refusal.{Refusal}
use Rattle.std.specs.Prelude.{Err, Ok}
use Rattle.base.specs.Coded.{Coded}
use Rattle.base.specs.declared.Refusal.TheVariants.{BadCode, BadData}
use mathlib.Core.Path.{◌≡◌, refl, ap, sym, ◌∙◌, subst, subst⁻¹}
use mathlib.Core.List.{List, [], ◌∷◌, ◌++◌}
use mathlib.Core.Bool.{Bool, true, false}
use Prim.Native.Nat.{ℕ, suc, ◌+◌, ◌*◌, ◌-◌, ◌/◌, ◌%◌, ◌^◌, ◌≤◌, ◌<◌}
use native.Mathlib.Omega.{arith}
use native.Mathlib.Numerals.{add-one}
use native.Mathlib.Nat.{one-le-pow, mul-le-mul, div-lt_iff_lt-mul}
use lib.Dec.{ltb, leb, eqb, lit≤}
use lib.IntN.{ℤ}
use lib.ListN.{length, get_or, take, drop}
use borrow.Author.Tests.{lt-ltb, le-ltb, le-leb, lt-leb, eq-eqb, ne_eqb, ltb-true, ltb-false, leb-true, eqb-true, eqb-false}
use Rattle.base.proofs.Tests.{pick-holds, both_left, both_right}
use Rattle.base.proofs.Parts.{Bytes, part-from}
use Rattle.counts.specs.Fixed.{fixed_from, read_fixed, fixed_bytes, prefixed}
use Rattle.counts.proofs.FixedLaws.{prefixed-written, prefixed-form, length-prefixed}
use Rattle.signed.specs.Number.{number}
use Rattle.signed.specs.OffsetSum.{sum_of, milliseconds_of}
use Rattle.signed.proofs.NumberLaws.{number-of}
use Rattle.signed.proofs.IntegerLaws.{sum-milliseconds, milliseconds-sum, sum-range}
use Rattle.offsets.specs.Offset.{in_day, offset_of, in_units, read_sum, write_sum, read_offset}
pub use Rattle.offsets.specs.Facts.{Fine, Level, SumRead, SumWritten, SumSize, OffsetRead}

-- a number of units of a form fits
pub product : (v unit : ℕ) → v < 536870912 → unit ≤ 60000 → v * unit < 2 ^ 64
product v unit hv hu =
    let a : v ≤ 536870912 = omega arith in
    omega (arith, mul-le-mul a hu)

-- each way out of the test of a sum
pub sum-small : (n coarser sum : ℕ) → sum < 1 → Err BadCode ≡ offset_of n coarser sum
sum-small n coarser sum h = rw (lt-leb 1 sum h)

pub sum-large : (n coarser sum : ℕ) → 1 ≤ sum → 172799999 < sum → Err BadCode ≡ offset_of n coarser sum
sum-large n coarser sum l h = rw (le-leb 1 sum l, lt-leb sum 172799999 h)

pub sum-later : (n coarser sum : ℕ) → 1 ≤ sum → sum ≤ 172799999 → sum % coarser ≡ 0 → Err BadCode ≡ offset_of n coarser sum
sum-later n coarser sum l h e = rw (le-leb 1 sum l, le-leb sum 172799999 h, eq-eqb (sum % coarser) 0 e)

-- how a reading goes on
pub offset-none : (s : List ℕ) → length s ≡ 0 → Err BadData ≡ read_sum s
unfolding read_sum
offset-none [] h = refl
offset-none (b ∷ s) h = absurd (omega arith)

pub offset-half : (s : List ℕ) (r : Coded ℕ) → 0 < length s → get_or s 0 0 < 128 → r ≡ offset_of 1 172800000 (get_or s 0 0 * 1800000) → r ≡ read_sum s
unfolding read_sum
offset-half [] r h l e = absurd (omega arith)
offset-half (b ∷ s) r h l e = rw (lt-ltb b 128 l) e

pub offset-prefix : (s : List ℕ) → 0 < length s → 224 ≤ get_or s 0 0 → Err BadCode ≡ read_sum s
unfolding read_sum
offset-prefix [] h l = absurd (omega arith)
offset-prefix (b ∷ s) h l =
    rw (le-ltb b 128 (omega arith), le-ltb b 160 (omega arith), le-ltb b 192 (omega arith), le-ltb b 224 l)

pub fine_of : (n coarser sum : ℕ) → Fine coarser sum → offset_of n coarser sum ≡ Ok (sum, n)
fine_of n coarser sum h = rw (le-leb 1 sum h.least, le-leb sum 172799999 h.most, ne_eqb (sum % coarser) 0 h.fine)

-- no multiple of a coarser unit where none of a finer one
pub not-half-hours : (sum : ℕ) → (sum % 60000 ≡ 0 → ⊥) → sum % 1800000 ≡ 0 → ⊥
not-half-hours sum n e = n (omega arith)

pub not-minutes : (sum : ℕ) → (sum % 1000 ≡ 0 → ⊥) → sum % 60000 ≡ 0 → ⊥
not-minutes sum n e = n (omega arith)

not-days : (sum : ℕ) → 1 ≤ sum → sum ≤ 172799999 → sum % 172800000 ≡ 0 → ⊥
not-days sum l h e = omega arith

pub minutes : Level 1 128 60000 1800000
unfolding read_sum write_sum
minutes = record {
  most = omega arith;
  aligned = refl;
  reads = λ b s l h. rw (le-ltb b 128 l, lt-ltb b 160 h);
  writes = λ v f.
      let d : v * 60000 / 60000 ≡ v = omega arith in
      rw (ne_eqb (v * 60000 % 1800000) 0 f.fine, eq-eqb (v * 60000 % 60000) 0 (omega arith), d);
}

pub seconds : Level 2 160 1000 60000
unfolding read_sum write_sum
seconds = record {
  most = omega arith;
  aligned = refl;
  reads = λ b s l h. rw (le-ltb b 128 (omega arith), le-ltb b 160 l, lt-ltb b 192 h);
  writes = λ v f.
      let d : v * 1000 / 1000 ≡ v = omega arith in
      rw (ne_eqb (v * 1000 % 1800000) 0 (not-half-hours (v * 1000) f.fine), ne_eqb (v * 1000 % 60000) 0 f.fine, eq-eqb (v * 1000 % 1000) 0 (omega arith), d);
}

pub milliseconds : Level 3 192 1 1000
unfolding read_sum write_sum
milliseconds = record {
  most = omega arith;
  aligned = refl;
  reads = λ b s l h. rw (le-ltb b 128 (omega arith), le-ltb b 160 (omega arith), le-ltb b 192 l, lt-ltb b 224 h);
  writes = λ v f.
      let d : v * 1 ≡ v = omega arith in
      let n : v * 1 % 60000 ≡ 0 → ⊥ = not-minutes (v * 1) f.fine in
      rw (ne_eqb (v * 1 % 1800000) 0 (not-half-hours (v * 1) n), ne_eqb (v * 1 % 60000) 0 n, ne_eqb (v * 1 % 1000) 0 f.fine, d);
}

pub offset-level : {n p unit coarser : ℕ} → Level n p unit coarser → (s : List ℕ) (r : Coded ℕ) → 0 < length s → p ≤ get_or s 0 0 → get_or s 0 0 < p + 32
    → r ≡ in_units unit coarser (read_fixed n (get_or s 0 0 % 32) (take (length s - 1) (drop 1 s))) → r ≡ read_sum s
offset-level l [] r h lo hi e = absurd (omega arith)
offset-level {n} {p} {unit} {coarser} l (b ∷ s) r h lo hi e =
    e ∙ ap (λ (x : List ℕ). in_units unit coarser (read_fixed n (b % 32) x)) (part-from 1 (b ∷ s)) ∙ sym (l.reads b s lo hi)

-- P of what is read, from P of each form
module _ (P : Coded ℕ → Type 0) (refused : (k : Refusal) → P (Err k)) where
  pub offset-holds : (n coarser sum : ℕ) → (Fine coarser sum → P (Ok (sum, n))) → P (offset_of n coarser sum)
  offset-holds n coarser sum f =
      pick-holds P (in_day sum) (λ t. pick-holds P (eqb (sum % coarser) 0) (λ _. refused BadCode) (λ u. f (record {
        least = leb-true 1 sum (both_left (leb 1 sum) (leb sum 172799999) t);
        most = leb-true sum 172799999 (both_right (leb 1 sum) (leb sum 172799999) t);
        fine = eqb-false (sum % coarser) 0 u;
      }))) (λ _. refused BadCode)

  units-holds : (n high unit coarser : ℕ) (s : List ℕ)
      → (n ≤ length s → Fine coarser (fixed_from n high s * unit) → P (Ok (fixed_from n high s * unit, n + 1)))
      → P (in_units unit coarser (read_fixed n high s))
  units-holds n high unit coarser s f =
      pick-holds (λ (r : Coded ℕ). P (in_units unit coarser r)) (leb n (length s))
      (λ t. offset-holds (n + 1) coarser (fixed_from n high s * unit) (f (leb-true n (length s) t)))
      (λ _. refused BadData)

  sum-holds : (s : List ℕ)
      → ((b : ℕ) (r : List ℕ) → s ≡ b ∷ r → Fine 172800000 (b * 1800000) → P (Ok (b * 1800000, 1)))
      → ((n p unit coarser : ℕ) → Level n p unit coarser → (b : ℕ) (r : List ℕ) → s ≡ b ∷ r → p ≤ b → b < p + 32 → n ≤ length r
      → Fine coarser (fixed_from n (b % 32) r * unit) → P (Ok (fixed_from n (b % 32) r * unit, n + 1)))
      → P (read_sum s)
  unfolding read_sum
  sum-holds [] f g = refused BadData
  sum-holds (b ∷ s) f g =
      pick-holds P (ltb b 128) (λ t. offset-holds 1 172800000 (b * 1800000) (f b s refl)) (λ t.
      pick-holds P (ltb b 160) (λ u. units-holds 1 (b % 32) 60000 1800000 s (g 1 128 60000 1800000 minutes b s refl (ltb-false b 128 t) (ltb-true b 160 u))) (λ u.
      pick-holds P (ltb b 192) (λ w. units-holds 2 (b % 32) 1000 60000 s (g 2 160 1000 60000 seconds b s refl (ltb-false b 160 u) (ltb-true b 192 w))) (λ w.
      pick-holds P (ltb b 224) (λ x. units-holds 3 (b % 32) 1 1000 s (g 3 192 1 1000 milliseconds b s refl (ltb-false b 192 w) (ltb-true b 224 x))) (λ _. refused BadCode))))

abbrev IsSum : List ℕ → Coded ℕ → Type 0
IsSum s (Ok (v, n)) = SumRead s v n
IsSum s (Err k) = Unit

is_sum : (s : List ℕ) → IsSum s (read_sum s)
is_sum s =
    sum-holds (IsSum s) (λ k. tt) s
    (λ b r e f. rw e (record { least = f.least; most = f.most; some = omega arith; size = omega arith; within = omega arith }))
    (λ n p unit coarser l b r e lo hi w f. rw e (record {
      least = f.least;
      most = f.most;
      some = omega arith;
      size = omega (arith, l.most);
      within = omega arith;
    }))

pub sum-read : (s : List ℕ) {sum n : ℕ} → Ok (sum, n) ≡ read_sum s → SumRead s sum n
sum-read s e = subst⁻¹ (IsSum s) e (is_sum s)

abbrev IsSumWritten : List ℕ → Coded ℕ → Type 0
IsSumWritten s (Ok (v, n)) = SumWritten s v n
IsSumWritten s (Err k) = Unit

half-written : (b : ℕ) (r : List ℕ) → SumWritten (b ∷ r) (b * 1800000) 1
unfolding write_sum
half-written b r =
    let d : b * 1800000 / 1800000 ≡ b = omega arith in
    record { form = rw (eq-eqb (b * 1800000 % 1800000) 0 (omega arith), d); size = rw (eq-eqb (b * 1800000 % 1800000) 0 (omega arith)) }

level-form : {n p unit coarser : ℕ} → Level n p unit coarser → (b : ℕ) (r : List ℕ) → Bytes r → p ≤ b → b < p + 32 → n ≤ length r
    → Fine coarser (fixed_from n (b % 32) r * unit) → SumWritten (b ∷ r) (fixed_from n (b % 32) r * unit) (n + 1)
level-form {n} {p} {unit} {coarser} l b r hs lo hi w f =
    let v : ℕ = fixed_from n (b % 32) r in
    let a : p % 32 ≡ 0 = l.aligned in
    let h : p + b % 32 ≡ b = omega arith in
    record {
      form = rw (l.writes v f, add-one) (subst (λ (x : ℕ). x ∷ r ≡ prefixed n p v ++ drop n r) h (prefixed-form n p (b % 32) r hs w));
      size = rw (l.writes v f) (sym (length-prefixed n p v));
    }

is-sum-written : (s : List ℕ) → Bytes s → IsSumWritten s (read_sum s)
is-sum-written s hs =
    sum-holds (IsSumWritten s) (λ k. tt) s
    (λ b r e f. rw e (half-written b r))
    (λ n p unit coarser l b r e lo hi w f. rw e (level-form l b r (rest b r e) lo hi w f))
  where
    rest : (b : ℕ) (r : List ℕ) → s ≡ b ∷ r → Bytes r
    rest b r e i = let h : Bytes (b ∷ r) = rw e at hs in h (suc i)

pub sum-form : (s : List ℕ) {sum n : ℕ} → Bytes s → Ok (sum, n) ≡ read_sum s → SumWritten s sum n
sum-form s hs e = subst⁻¹ (IsSumWritten s) e (is-sum-written s hs)

-- a sum that was written is read back, whatever follows
abbrev Back : ℕ → List ℕ → Type 0
Back sum rest = read_sum (write_sum sum ++ rest) ≡ Ok (sum, length (write_sum sum))

half_back : (b : ℕ) (rest : List ℕ) → Fine 172800000 (b * 1800000) → Back (b * 1800000) rest
unfolding read_sum write_sum
half_back b rest f =
    let d : b * 1800000 / 1800000 ≡ b = omega arith in
    let m : b < 128 = omega (arith, f.most) in
    rw (eq-eqb (b * 1800000 % 1800000) 0 (omega arith), d, lt-ltb b 128 m) (fine_of 1 172800000 (b * 1800000) f)

level-back : {n p unit coarser : ℕ} → Level n p unit coarser → (v : ℕ) (rest : List ℕ) → v < 32 * 256 ^ n → Fine coarser (v * unit) → Back (v * unit) rest
level-back {n} {p} {unit} {coarser} l v rest h f =
    let q : ℕ = v / 256 ^ n in
    let m : q < 32 = (div-lt_iff_lt-mul (one-le-pow n 256 (lit≤ tt))).1 h in
    let a : p % 32 ≡ 0 = l.aligned in
    let e : (p + q) % 32 ≡ q = omega arith in
    rw (l.writes v f, l.reads (p + q) (fixed_bytes n v ++ rest) (omega arith) (omega arith), prefixed-written n ((p + q) % 32) v rest (sym e), fine_of (n + 1) coarser (v * unit) f)
    (ap (λ (m : ℕ). Ok (v * unit, m)) (sym (length-prefixed n p v)))

pub sum-written : (sum : ℕ) (rest : List ℕ) → 1 ≤ sum → sum ≤ 172799999 → Back sum rest
sum-written sum rest lo hi = half (eqb (sum % 1800000) 0) refl
  where
    on : (v unit : ℕ) → v * unit ≡ sum → Back (v * unit) rest → Back sum rest
    on v unit e = subst (λ (x : ℕ). Back x rest) e

    sec : (t : Bool) → (sum % 60000 ≡ 0 → ⊥) → eqb (sum % 1000) 0 ≡ t → Back sum rest
    sec true f e =
        let m : sum % 1000 ≡ 0 = eqb-true (sum % 1000) 0 e in
        let d : sum / 1000 * 1000 ≡ sum = omega arith in
        on (sum / 1000) 1000 d (level-back seconds (sum / 1000) rest (omega arith) (record { least = omega arith; most = omega arith; fine = rw d f }))
    sec false f e =
        let n : sum % 1000 ≡ 0 → ⊥ = eqb-false (sum % 1000) 0 e in
        let d : sum * 1 ≡ sum = omega arith in
        on sum 1 d (level-back milliseconds sum rest (omega arith) (record { least = omega arith; most = omega arith; fine = rw d n }))

    minute : (t : Bool) → (sum % 1800000 ≡ 0 → ⊥) → eqb (sum % 60000) 0 ≡ t → Back sum rest
    minute true f e =
        let m : sum % 60000 ≡ 0 = eqb-true (sum % 60000) 0 e in
        let d : sum / 60000 * 60000 ≡ sum = omega arith in
        on (sum / 60000) 60000 d (level-back minutes (sum / 60000) rest (omega arith) (record { least = omega arith; most = omega arith; fine = rw d f }))
    minute false f e = sec (eqb (sum % 1000) 0) (eqb-false (sum % 60000) 0 e) refl

    half : (t : Bool) → eqb (sum % 1800000) 0 ≡ t → Back sum rest
    half true e =
        let m : sum % 1800000 ≡ 0 = eqb-true (sum % 1800000) 0 e in
        let d : sum / 1800000 * 1800000 ≡ sum = omega arith in
        on (sum / 1800000) 1800000 d (half_back (sum / 1800000) rest (record { least = omega arith; most = omega arith; fine = rw d (not-days sum lo hi) }))
    half false e = minute (eqb (sum % 60000) 0) (eqb-false (sum % 1800000) 0 e) refl

pub sum-size : (sum : ℕ) → 1 ≤ sum → sum ≤ 172799999 → SumSize sum
sum-size sum l h =
    let r = sum-read (write_sum sum ++ []) (sym (sum-written sum [] l h)) in
    record { some = r.some; most = r.size }

module _ (s : List ℕ) {z : ℤ} {n : ℕ} (e : Ok (z, n) ≡ read_offset s) where
  sum-of : SumRead s (number-of milliseconds_of (read_sum s) e).value n
  sum-of = sum-read s (number-of milliseconds_of (read_sum s) e).read

  same_sum : (number-of milliseconds_of (read_sum s) e).value ≡ sum_of z
  same_sum =
      let o = number-of milliseconds_of (read_sum s) e in
      sym (ap sum_of o.is ∙ sum-milliseconds o.value sum-of.least sum-of.most)

  pub offset_read : OffsetRead s z n
  offset_read = record { inside = omega (arith, sum-of.least, same_sum); some = sum-of.some; size = sum-of.size; within = sum-of.within }

  pub offset-form : Bytes s → SumWritten s (sum_of z) n
  offset-form h = rw same_sum at (sum-form s h (number-of milliseconds_of (read_sum s) e).read)

pub offset-written : (z : ℤ) (rest : List ℕ) → 1 ≤ sum_of z → read_offset (write_sum (sum_of z) ++ rest) ≡ Ok (z, length (write_sum (sum_of z)))
offset-written z rest h =
    ap (number milliseconds_of) (sum-written (sum_of z) rest h (sum-range z))
    ∙ ap (λ (y : ℤ). Ok (y, length (write_sum (sum_of z)))) (milliseconds-sum z h)
