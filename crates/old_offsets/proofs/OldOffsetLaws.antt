-- Laws of the older offset: what each form reads and writes, how a reading goes on, and that reading and writing undo one another.
-- Assumes nothing.
use Rattle.base.specs.declared.Refusal.{Refusal}
use Rattle.std.specs.Prelude.{Err, Ok}
use Rattle.base.specs.Coded.{Coded}
use Rattle.base.specs.declared.Refusal.TheVariants.{BadCode, BadData}
use mathlib.Core.Path.{◌≡◌, refl, ap, sym, ◌∙◌, subst, subst⁻¹}
use mathlib.Core.List.{List, [], ◌∷◌, ◌++◌}
use mathlib.Core.Bool.{Bool, true, false}
use Prim.Native.Nat.{ℕ, suc, ◌+◌, ◌*◌, ◌-◌, ◌/◌, ◌%◌, ◌^◌, ◌≤◌, ◌<◌}
use native.Mathlib.Omega.{arith}
use native.Mathlib.Numerals.{add-one}
use native.Mathlib.Nat.{one-le-pow, mul-le-mul_right, div-lt_iff_lt-mul}
use lib.Dec.{ltb, leb, eqb, lit≤}
use lib.IntN.{ℤ}
use lib.ListN.{length, get_or, take, drop}
use borrow.Author.Tests.{lt-ltb, le-ltb, le-leb, eq-eqb, ne_eqb, ltb-true, leb-true, eqb-true, eqb-false}
use Rattle.base.proofs.Tests.{pick-holds}
use Rattle.base.proofs.Parts.{Bytes, part-from}
use Rattle.counts.specs.Fixed.{fixed_from, read_fixed, fixed_bytes}
use Rattle.counts.proofs.FixedLaws.{fixed-between, prefixed-written, prefixed-form, length-prefixed}
use Rattle.signed.specs.Number.{number}
use Rattle.signed.specs.OffsetSum.{sum_of, milliseconds_of}
use Rattle.signed.proofs.NumberLaws.{number-of}
use Rattle.signed.proofs.IntegerLaws.{sum-milliseconds, milliseconds-sum, sum-range}
use Rattle.offsets.specs.Offset.{offset_of}
use Rattle.offsets.specs.Facts.{Fine}
use Rattle.offsets.proofs.OffsetLaws.{sum-small, fine_of, offset-holds}
use Rattle.old_counts.specs.Facts.{StartsWith}
use Rattle.old_offsets.specs.OldOffset.{by_half_hours, by_seconds, by_milliseconds, judged, read_old_sum, write_old_sum, read_old_offset}
pub use Rattle.old_offsets.specs.Facts.{Level}

-- the forms
not-half-hours : (sum : ℕ) → (sum % 1000 ≡ 0 → ⊥) → sum % 1800000 ≡ 0 → ⊥
not-half-hours sum n e = n (omega arith)

pub half-hours : Level 0 0x00 0x10 0x6f 172800000 by_half_hours
unfolding read_old_sum write_old_sum
half-hours = record {
  most = omega arith;
  reads = λ high s l h.
      let d : 0x00 + high ≡ high = omega arith in
      rw (d, le-ltb high 0x10 l, lt-ltb high 0x6f h);
  inside = λ v h f. omega (arith, f.least);
  writes = λ v h f.
      let d : (v + 48 - 0x3f) * 1800000 / 1800000 + 0x3f - 48 ≡ v = omega (arith, f.least) in
      rw (eq-eqb ((v + 48 - 0x3f) * 1800000 % 1800000) 0 (omega arith), d);
}

pub seconds : Level 2 0x00 0x82 0x86 1800000 by_seconds
unfolding read_old_sum write_old_sum
seconds = record {
  most = omega arith;
  reads = λ high s l h.
      let d : 0x00 + high ≡ high = omega arith in
      rw (d, le-ltb high 0x10 (omega arith), le-ltb high 0x6f (omega arith), le-ltb high 0x82 l, lt-ltb high 0x86 h);
  inside = λ v h f. omega (arith, f.least);
  writes = λ v h f.
      let d : (v + 86400 - 0x83ffff) * 1000 / 1000 + 0x83ffff - 86400 ≡ v = omega (arith, f.least) in
      rw (ne_eqb ((v + 86400 - 0x83ffff) * 1000 % 1800000) 0 f.fine, eq-eqb ((v + 86400 - 0x83ffff) * 1000 % 1000) 0 (omega arith), d);
}

-- adding and taking away again
turned : (v : ℕ) → v < 0x100000000 → ((v + 86400000) % 0x100000000 + 0x100000000 - 86400000) % 0x100000000 ≡ v
turned v h = omega arith

pub milliseconds : Level 4 0xfd 0 1 1000 by_milliseconds
unfolding read_old_sum write_old_sum
milliseconds = record {
  most = omega arith;
  reads = λ high s l h.
      let z : high ≡ 0 = omega arith in
      rw z;
  inside = λ v h f. omega arith;
  writes = λ v h f.
      let sum : ℕ = (v + 86400000) % 0x100000000 in
      rw (ne_eqb (sum % 1800000) 0 (not-half-hours sum f.fine), ne_eqb (sum % 1000) 0 f.fine, turned v (omega arith));
}

-- how a reading goes on
pub offset-none : (s : List ℕ) → length s ≡ 0 → Err BadData ≡ read_old_sum s
unfolding read_old_sum
offset-none [] h = refl
offset-none (b ∷ s) h = absurd (omega arith)

pub offset-below : (s : List ℕ) → 0 < length s → get_or s 0 0 < 0x10 → Err BadCode ≡ read_old_sum s
unfolding read_old_sum
offset-below [] h l = absurd (omega arith)
offset-below (b ∷ s) h l = rw (lt-ltb b 0x10 l)

pub offset-between : (s : List ℕ) → 0 < length s → 0x6f ≤ get_or s 0 0 → get_or s 0 0 < 0x82 → Err BadCode ≡ read_old_sum s
unfolding read_old_sum
offset-between [] h l m = absurd (omega arith)
offset-between (b ∷ s) h l m = rw (le-ltb b 0x10 (omega arith), le-ltb b 0x6f l, lt-ltb b 0x82 m)

pub offset-above : (s : List ℕ) → 0 < length s → 0x86 ≤ get_or s 0 0 → (get_or s 0 0 ≡ 0xfd → ⊥) → Err BadCode ≡ read_old_sum s
unfolding read_old_sum
offset-above [] h l m = absurd (omega arith)
offset-above (b ∷ s) h l m =
    rw (le-ltb b 0x10 (omega arith), le-ltb b 0x6f (omega arith), le-ltb b 0x82 (omega arith), le-ltb b 0x86 l, ne_eqb b 0xfd m)

pub offset-half : (s : List ℕ) (r : Coded ℕ) → 0 < length s → 0x10 ≤ get_or s 0 0 → get_or s 0 0 < 0x6f → r ≡ offset_of 1 172800000 (by_half_hours (get_or s 0 0)) → r ≡ read_old_sum s
unfolding read_old_sum fixed_from
offset-half [] r h lo hi e = absurd (omega arith)
offset-half (b ∷ s) r h lo hi e = rw (le-ltb b 0x10 lo, lt-ltb b 0x6f hi, le-leb 0 (length s) (omega arith)) e

pub offset-seconds : (s : List ℕ) (r : Coded ℕ) → 0 < length s → 0x82 ≤ get_or s 0 0 → get_or s 0 0 < 0x86
    → r ≡ judged by_seconds 1800000 (read_fixed 2 (get_or s 0 0) (take (length s - 1) (drop 1 s))) → r ≡ read_old_sum s
offset-seconds [] r h lo hi e = absurd (omega arith)
offset-seconds (b ∷ s) r h lo hi e =
    let d : 0x00 + b ≡ b = omega arith in
    e ∙ ap (λ (x : List ℕ). judged by_seconds 1800000 (read_fixed 2 b x)) (part-from 1 (b ∷ s)) ∙ sym (rw d at (seconds.reads b s lo hi))

pub offset-milliseconds : (s : List ℕ) (r : Coded ℕ) → 0 < length s → get_or s 0 0 ≡ 0xfd
    → r ≡ judged by_milliseconds 1000 (read_fixed 4 0 (take (length s - 1) (drop 1 s))) → r ≡ read_old_sum s
offset-milliseconds [] r h l e = absurd (omega arith)
offset-milliseconds (b ∷ s) r h l e =
    e
    ∙ ap (λ (x : List ℕ). judged by_milliseconds 1000 (read_fixed 4 0 x)) (part-from 1 (b ∷ s))
    ∙ sym (milliseconds.reads 0 s (omega arith) (omega arith))
    ∙ ap (λ (x : ℕ). read_old_sum (x ∷ s)) (sym l)

-- what is too small for its day, in seconds
pub seconds-small : (v n : ℕ) → v + 86400 < 0x83ffff → Err BadCode ≡ judged by_seconds 1800000 (Ok (v, n))
seconds-small v n h = sum-small (n + 1) 1800000 (by_seconds v) (omega arith)

-- P of what is read, from P of each form
module _ (P : Coded ℕ → Type 0) (refused : (k : Refusal) → P (Err k)) where
  judged-holds : (n high coarser : ℕ) (sum : ℕ → ℕ) (s : List ℕ)
      → (n ≤ length s → Fine coarser (sum (fixed_from n high s)) → P (Ok (sum (fixed_from n high s), n + 1)))
      → P (judged sum coarser (read_fixed n high s))
  judged-holds n high coarser sum s f =
      pick-holds (λ (r : Coded ℕ). P (judged sum coarser r)) (leb n (length s))
      (λ t. offset-holds P refused (n + 1) coarser (sum (fixed_from n high s)) (f (leb-true n (length s) t)))
      (λ _. refused BadData)

  sum-holds : (s : List ℕ)
      → ((n prefix least wide coarser : ℕ) (sum : ℕ → ℕ) → Level n prefix least wide coarser sum → (high : ℕ) (r : List ℕ) → s ≡ (prefix + high) ∷ r
      → high < wide → n ≤ length r → Fine coarser (sum (fixed_from n high r)) → P (Ok (sum (fixed_from n high r), n + 1)))
      → P (read_old_sum s)
  unfolding read_old_sum
  sum-holds [] f = refused BadData
  sum-holds (b ∷ s) f =
      let d : b ≡ 0x00 + b = omega arith in
      let e : b ∷ s ≡ (0x00 + b) ∷ s = ap (λ (x : ℕ). x ∷ s) d in
      pick-holds P (ltb b 0x10) (λ _. refused BadCode) (λ t.
      pick-holds P (ltb b 0x6f) (λ u. judged-holds 0 b 172800000 by_half_hours s (f 0 0x00 0x10 0x6f 172800000 by_half_hours half-hours b s e (ltb-true b 0x6f u))) (λ u.
      pick-holds P (ltb b 0x82) (λ _. refused BadCode) (λ w.
      pick-holds P (ltb b 0x86) (λ x. judged-holds 2 b 1800000 by_seconds s (f 2 0x00 0x82 0x86 1800000 by_seconds seconds b s e (ltb-true b 0x86 x))) (λ x.
      pick-holds P (eqb b 0xfd)
      (λ y. judged-holds 4 0 1000 by_milliseconds s (f 4 0xfd 0 1 1000 by_milliseconds milliseconds 0 s (ap (λ (x : ℕ). x ∷ s) (eqb-true b 0xfd y)) (omega arith)))
      (λ _. refused BadCode)))))

-- a sum that reads is in its range
abbrev IsRange : List ℕ → Coded ℕ → Type 0
IsRange s (Ok (sum, n)) = (1 ≤ sum) × (sum ≤ 172799999)
IsRange s (Err k) = Unit

pub sum-range-read : (s : List ℕ) {sum n : ℕ} → Ok (sum, n) ≡ read_old_sum s → (1 ≤ sum) × (sum ≤ 172799999)
sum-range-read s e =
    subst⁻¹ (IsRange s) e (sum-holds (IsRange s) (λ k. tt) s (λ n prefix least wide coarser sum l high r q h w f. (f.least, f.most)))

abbrev IsWritten : List ℕ → Coded ℕ → Type 0
IsWritten s (Ok (sum, n)) = StartsWith s (write_old_sum sum) n
IsWritten s (Err k) = Unit

level-form : {n prefix least wide coarser : ℕ} {sum : ℕ → ℕ} → Level n prefix least wide coarser sum → (high : ℕ) (r : List ℕ) → Bytes r → high < wide
    → n ≤ length r → Fine coarser (sum (fixed_from n high r)) → StartsWith ((prefix + high) ∷ r) (write_old_sum (sum (fixed_from n high r))) (n + 1)
level-form {n} {prefix} {least} {wide} {coarser} {sum} l high r hs h w f =
    let v : ℕ = fixed_from n high r in
    let a : high + 1 ≤ wide = omega arith in
    let q : v < wide * 256 ^ n = omega (arith, (fixed-between n high r hs w).below, mul-le-mul_right (256 ^ n) a) in
    record {
      form = rw (l.writes v q f, add-one) (prefixed-form n prefix high r hs w);
      size = rw (l.writes v q f) (sym (length-prefixed n prefix v));
    }

pub sum-form : (s : List ℕ) {sum n : ℕ} → Bytes s → Ok (sum, n) ≡ read_old_sum s → StartsWith s (write_old_sum sum) n
sum-form s hs e =
    subst⁻¹ (IsWritten s) e (sum-holds (IsWritten s) (λ k. tt) s
    (λ n prefix least wide coarser sum l high r q h w f. rw q (level-form l high r (λ i. (rw q at hs) (suc i)) h w f)))

-- a sum that was written is read back, whatever follows
abbrev Back : ℕ → List ℕ → Type 0
Back sum rest = read_old_sum (write_old_sum sum ++ rest) ≡ Ok (sum, length (write_old_sum sum))

level-back : {n prefix least wide coarser : ℕ} {sum : ℕ → ℕ} → Level n prefix least wide coarser sum → (v : ℕ) (rest : List ℕ) → v < wide * 256 ^ n
    → Fine coarser (sum v) → Back (sum v) rest
level-back {n} {prefix} {least} {wide} {coarser} {sum} l v rest h f =
    let m : v / 256 ^ n < wide = (div-lt_iff_lt-mul (one-le-pow n 256 (lit≤ tt))).1 h in
    rw (l.writes v h f, l.reads (v / 256 ^ n) (fixed_bytes n v ++ rest) (l.inside v h f) m, prefixed-written n (v / 256 ^ n) v rest refl, fine_of (n + 1) coarser (sum v) f)
    (ap (λ (m : ℕ). Ok (sum v, m)) (sym (length-prefixed n prefix v)))

not-days : (sum : ℕ) → 1 ≤ sum → sum ≤ 172799999 → sum % 172800000 ≡ 0 → ⊥
not-days sum l h e = omega arith

pub sum-written : (sum : ℕ) (rest : List ℕ) → 1 ≤ sum → sum ≤ 172799999 → Back sum rest
sum-written sum rest lo hi = half (eqb (sum % 1800000) 0) refl
  where
    on : {n prefix least wide coarser : ℕ} {by : ℕ → ℕ} → Level n prefix least wide coarser by → (v : ℕ) → by v ≡ sum → v < wide * 256 ^ n
        → (sum % coarser ≡ 0 → ⊥) → Back sum rest
    on {n} {prefix} {least} {wide} {coarser} {by} l v e h f =
        subst (λ (x : ℕ). Back x rest) e
        (level-back l v rest h (subst (λ (x : ℕ). Fine coarser x) (sym e) (record { least = lo; most = hi; fine = f })))

    second : (t : Bool) → (sum % 1800000 ≡ 0 → ⊥) → eqb (sum % 1000) 0 ≡ t → Back sum rest
    second true f e =
        let m : sum % 1000 ≡ 0 = eqb-true (sum % 1000) 0 e in
        on seconds (sum / 1000 + 0x83ffff - 86400) (omega arith) (omega arith) f
    second false f e =
        on milliseconds ((sum + 0x100000000 - 86400000) % 0x100000000) (omega arith) (omega arith) (eqb-false (sum % 1000) 0 e)

    half : (t : Bool) → eqb (sum % 1800000) 0 ≡ t → Back sum rest
    half true e =
        let m : sum % 1800000 ≡ 0 = eqb-true (sum % 1800000) 0 e in
        on half-hours (sum / 1800000 + 0x3f - 48) (omega arith) (omega arith) (not-days sum lo hi)
    half false e = second (eqb (sum % 1000) 0) (eqb-false (sum % 1800000) 0 e) refl

-- the same of the offset in milliseconds
pub offset-form : (s : List ℕ) {z : ℤ} {n : ℕ} → Bytes s → Ok (z, n) ≡ read_old_offset s → (1 ≤ sum_of z) × StartsWith s (write_old_sum (sum_of z)) n
offset-form s {z} {n} hs e =
    let o = number-of milliseconds_of (read_old_sum s) e in
    let q = sum-range-read s o.read in
    let same : sum_of z ≡ o.value = ap sum_of o.is ∙ sum-milliseconds o.value q.0 q.1 in
    rw same (q.0, sum-form s hs o.read)

pub offset-written : (z : ℤ) (rest : List ℕ) → 1 ≤ sum_of z → read_old_offset (write_old_sum (sum_of z) ++ rest) ≡ Ok (z, length (write_old_sum (sum_of z)))
offset-written z rest h =
    ap (number milliseconds_of) (sum-written (sum_of z) rest h (sum-range z))
    ∙ ap (λ (y : ℤ). Ok (y, length (write_old_sum (sum_of z)))) (milliseconds-sum z h)
