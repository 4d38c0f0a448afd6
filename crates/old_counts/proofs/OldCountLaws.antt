-- Laws of the older count: what each form reads and writes, how a reading goes on, and that reading and writing undo one another.
-- Assumes nothing.
use Rattle.base.specs.declared.Refusal.{Refusal}
use Rattle.std.specs.Prelude.{Err, Ok}
use Rattle.base.specs.Coded.{Coded}
use Rattle.base.specs.declared.Refusal.TheVariants.{BadCode, BadData}
use mathlib.Core.Path.{◌≡◌, refl, ap, sym, ◌∙◌, subst, subst⁻¹}
use mathlib.Core.List.{List, [], ◌∷◌, ◌++◌}
use Prim.Native.Nat.{ℕ, suc, ◌+◌, ◌*◌, ◌-◌, ◌/◌, ◌^◌, ◌≤◌, ◌<◌}
use native.Mathlib.Omega.{arith}
use native.Mathlib.Numerals.{add-one}
use native.Mathlib.Nat.{one-le-pow, mul-le-mul_right, div-lt_iff_lt-mul}
use lib.Dec.{ltb, leb, lit≤}
use lib.ListN.{length, get_or, take, drop}
use borrow.Author.Tests.{lt-ltb, le-ltb, le-leb, lt-leb, ltb-true, ltb-false, leb-true}
use Rattle.base.specs.Pick.{both}
use Rattle.base.proofs.Tests.{by_order, pick-holds, both_left, both_right}
use Rattle.base.proofs.Parts.{Bytes, part-from}
use Rattle.counts.specs.Fixed.{fixed_from, read_fixed, fixed_bytes, prefixed}
use Rattle.counts.proofs.FixedLaws.{fixed-between, prefixed-written, prefixed-form, length-prefixed}
use Rattle.old_counts.specs.OldCount.{value_from, largest, read_old_count, write_old_count}
pub use Rattle.old_counts.specs.Facts.{Level, Sized, StartsWith}

-- the forms
pub smallest : Level 0 0xf0 15 0
unfolding read_old_count write_old_count
smallest = record {
  most = omega arith;
  fits = λ v h. omega arith;
  reads = λ high s h.
      let d : 0xf0 + high - 0xf0 ≡ high = omega arith in
      rw (le-ltb (0xf0 + high) 0x80 (omega arith), le-ltb (0xf0 + high) 0xc0 (omega arith), le-ltb (0xf0 + high) 0xe0 (omega arith), le-ltb (0xf0 + high) 0xf0 (omega arith), lt-ltb (0xf0 + high) 0xff (omega arith), d);
  writes = λ v h. let z : 0 + v ≡ v = omega arith in rw (z, lt-ltb v 0x0f (omega arith));
}

pub one_byte : Level 0 0x00 128 0x0f
unfolding read_old_count write_old_count
one_byte = record {
  most = omega arith;
  fits = λ v h. omega arith;
  reads = λ high s h. let d : 0x00 + high ≡ high = omega arith in rw (d, lt-ltb high 0x80 h);
  writes = λ v h.
      let d : 0x0f + v - 0x0f ≡ v = omega arith in
      rw (le-ltb (0x0f + v) 0x0f (omega arith), lt-ltb (0x0f + v) 0x8f (omega arith), d);
}

pub two-bytes : Level 1 0x80 64 0x8f
unfolding read_old_count write_old_count
two-bytes = record {
  most = omega arith;
  fits = λ v h. omega arith;
  reads = λ high s h.
      let d : 0x80 + high - 0x80 ≡ high = omega arith in
      rw (le-ltb (0x80 + high) 0x80 (omega arith), lt-ltb (0x80 + high) 0xc0 (omega arith), d);
  writes = λ v h.
      let d : 0x8f + v - 0x8f ≡ v = omega arith in
      rw (le-ltb (0x8f + v) 0x0f (omega arith), le-ltb (0x8f + v) 0x8f (omega arith), lt-ltb (0x8f + v) 0x408f (omega arith), d);
}

pub three-bytes : Level 2 0xc0 32 0x408f
unfolding read_old_count write_old_count
three-bytes = record {
  most = omega arith;
  fits = λ v h. omega arith;
  reads = λ high s h.
      let d : 0xc0 + high - 0xc0 ≡ high = omega arith in
      rw (le-ltb (0xc0 + high) 0x80 (omega arith), le-ltb (0xc0 + high) 0xc0 (omega arith), lt-ltb (0xc0 + high) 0xe0 (omega arith), d);
  writes = λ v h.
      let d : 0x408f + v - 0x408f ≡ v = omega arith in
      rw (le-ltb (0x408f + v) 0x0f (omega arith), le-ltb (0x408f + v) 0x8f (omega arith), le-ltb (0x408f + v) 0x408f (omega arith), lt-ltb (0x408f + v) 0x20408f (omega arith), d);
}

pub four_bytes : Level 3 0xe0 16 0x20408f
unfolding read_old_count write_old_count
four_bytes = record {
  most = omega arith;
  fits = λ v h. omega arith;
  reads = λ high s h.
      let d : 0xe0 + high - 0xe0 ≡ high = omega arith in
      rw (le-ltb (0xe0 + high) 0x80 (omega arith), le-ltb (0xe0 + high) 0xc0 (omega arith), le-ltb (0xe0 + high) 0xe0 (omega arith), lt-ltb (0xe0 + high) 0xf0 (omega arith), d);
  writes = λ v h.
      let d : 0x20408f + v - 0x20408f ≡ v = omega arith in
      rw (
        le-ltb (0x20408f + v) 0x0f (omega arith),
        le-ltb (0x20408f + v) 0x8f (omega arith),
        le-ltb (0x20408f + v) 0x408f (omega arith),
        le-ltb (0x20408f + v) 0x20408f (omega arith),
        lt-ltb (0x20408f + v) 0x1020408f (omega arith),
        d,
      );
}

pub reads-largest : (b : ℕ) (s : List ℕ) → 0xff ≤ b → read_old_count (b ∷ s) ≡ largest (read_fixed 4 0 s)
unfolding read_old_count
reads-largest b s h =
    rw (le-ltb b 0x80 (omega arith), le-ltb b 0xc0 (omega arith), le-ltb b 0xe0 (omega arith), le-ltb b 0xf0 (omega arith), le-ltb b 0xff h)

pub writes-largest : (v : ℕ) → 0x1020408f ≤ v → write_old_count v ≡ prefixed 4 0xff v
unfolding write_old_count
writes-largest v h =
    rw (le-ltb v 0x0f (omega arith), le-ltb v 0x8f (omega arith), le-ltb v 0x408f (omega arith), le-ltb v 0x20408f (omega arith), le-ltb v 0x1020408f h)

-- how a reading goes on
pub count_none : (s : List ℕ) → length s ≡ 0 → Err BadData ≡ read_old_count s
unfolding read_old_count
count_none [] h = refl
count_none (b ∷ s) h = absurd (omega arith)

pub count-level : {n prefix wide first : ℕ} → Level n prefix wide first → (s : List ℕ) (r : Coded ℕ) → 0 < length s → prefix ≤ get_or s 0 0
    → get_or s 0 0 < prefix + wide → r ≡ value_from first (read_fixed n (get_or s 0 0 - prefix) (take (length s - 1) (drop 1 s))) → r ≡ read_old_count s
count-level l [] r h lo hi e = absurd (omega arith)
count-level {n} {prefix} {wide} {first} l (b ∷ s) r h lo hi e =
    let d : prefix + (b - prefix) ≡ b = omega arith in
    e
    ∙ ap (λ (x : List ℕ). value_from first (read_fixed n (b - prefix) x)) (part-from 1 (b ∷ s))
    ∙ sym (l.reads (b - prefix) s (omega arith))
    ∙ ap (λ (x : ℕ). read_old_count (x ∷ s)) d

-- the forms of one byte
pub count-one : (s : List ℕ) → 0 < length s → get_or s 0 0 < 0x80 → Ok (0x0f + get_or s 0 0, 1) ≡ read_old_count s
unfolding read_old_count fixed_from
count-one [] h l = absurd (omega arith)
count-one (b ∷ s) h l = rw (lt-ltb b 0x80 l, le-leb 0 (length s) (omega arith))

pub count-smallest : (s : List ℕ) → 0 < length s → 0xf0 ≤ get_or s 0 0 → get_or s 0 0 < 0xff → Ok (get_or s 0 0 - 0xf0, 1) ≡ read_old_count s
unfolding fixed_from
count-smallest s h lo hi =
    let r : List ℕ = take (length s - 1) (drop 1 s) in
    let z : 0 + (get_or s 0 0 - 0xf0) ≡ get_or s 0 0 - 0xf0 = omega arith in
    count-level smallest s _ h lo (omega arith) (rw (le-leb 0 (length r) (omega arith), z) refl)

-- the value of five bytes
pub largest-below : (v n : ℕ) → v < 0x1020408f → Err BadCode ≡ largest (Ok (v, n))
largest-below v n h = rw (lt-leb 0x1020408f v h)

pub largest-above : (v n : ℕ) → 0x1020408f ≤ v → 0x7fffffff < v → Err BadCode ≡ largest (Ok (v, n))
largest-above v n l h = rw (le-leb 0x1020408f v l, lt-leb v 0x7fffffff h)

pub largest-in : (v n : ℕ) → 0x1020408f ≤ v → v ≤ 0x7fffffff → Ok (v, n + 1) ≡ largest (Ok (v, n))
largest-in v n l h = rw (le-leb 0x1020408f v l, le-leb v 0x7fffffff h)

pub count-largest : (s : List ℕ) (r : Coded ℕ) → 0 < length s → 0xff ≤ get_or s 0 0 → r ≡ largest (read_fixed 4 0 (take (length s - 1) (drop 1 s))) → r ≡ read_old_count s
count-largest [] r h l e = absurd (omega arith)
count-largest (b ∷ s) r h l e = e ∙ ap (λ (x : List ℕ). largest (read_fixed 4 0 x)) (part-from 1 (b ∷ s)) ∙ sym (reads-largest b s l)

-- P of what is read, from P of each form
module _ (P : Coded ℕ → Type 0) (refused : (k : Refusal) → P (Err k)) where
  level_holds : (n high first : ℕ) (s : List ℕ) → (n ≤ length s → P (Ok (first + fixed_from n high s, n + 1))) → P (value_from first (read_fixed n high s))
  level_holds n high first s f =
      pick-holds (λ (r : Coded ℕ). P (value_from first r)) (leb n (length s)) (λ t. f (leb-true n (length s) t)) (λ _. refused BadData)

  largest-holds : (s : List ℕ)
      → (4 ≤ length s → 0x1020408f ≤ fixed_from 4 0 s → fixed_from 4 0 s ≤ 0x7fffffff → P (Ok (fixed_from 4 0 s, 5))) → P (largest (read_fixed 4 0 s))
  largest-holds s f =
      let v : ℕ = fixed_from 4 0 s in
      pick-holds (λ (r : Coded ℕ). P (largest r)) (leb 4 (length s))
      (λ t. pick-holds P (both (leb 0x1020408f v) (leb v 0x7fffffff))
      (λ u. f (leb-true 4 (length s) t) (leb-true 0x1020408f v (both_left (leb 0x1020408f v) (leb v 0x7fffffff) u)) (leb-true v 0x7fffffff (both_right (leb 0x1020408f v) (leb v 0x7fffffff) u)))
      (λ _. refused BadCode))
      (λ _. refused BadData)

  count-holds : (s : List ℕ)
      → ((n prefix wide first : ℕ) → Level n prefix wide first → (high : ℕ) (r : List ℕ) → s ≡ (prefix + high) ∷ r → high < wide → n ≤ length r
      → P (Ok (first + fixed_from n high r, n + 1)))
      → ((b : ℕ) (r : List ℕ) → s ≡ b ∷ r → 0xff ≤ b → 4 ≤ length r → 0x1020408f ≤ fixed_from 4 0 r → fixed_from 4 0 r ≤ 0x7fffffff → P (Ok (fixed_from 4 0 r, 5)))
      → P (read_old_count s)
  unfolding read_old_count
  count-holds [] f g = refused BadData
  count-holds (b ∷ s) f g =
      pick-holds P (ltb b 0x80) (λ t. subst (λ (x : ℕ). P (value_from 0x0f (read_fixed 0 x s))) (let d : b - 0x00 ≡ b = omega arith in d) (on one_byte (omega arith) (omega (arith, ltb-true b 0x80 t)))) (λ t.
      pick-holds P (ltb b 0xc0) (λ u. on two-bytes (ltb-false b 0x80 t) (ltb-true b 0xc0 u)) (λ u.
      pick-holds P (ltb b 0xe0) (λ w. on three-bytes (ltb-false b 0xc0 u) (ltb-true b 0xe0 w)) (λ w.
      pick-holds P (ltb b 0xf0) (λ x. on four_bytes (ltb-false b 0xe0 w) (ltb-true b 0xf0 x)) (λ x.
      pick-holds P (ltb b 0xff) (λ y. on smallest (ltb-false b 0xf0 x) (ltb-true b 0xff y)) (λ y.
      largest-holds s (g b s refl (ltb-false b 0xff y)))))))
    where
      on : {n prefix wide first : ℕ} → Level n prefix wide first → prefix ≤ b → b < prefix + wide → P (value_from first (read_fixed n (b - prefix) s))
      on {n} {prefix} {wide} {first} l lo hi =
          let d : b ≡ prefix + (b - prefix) = omega arith in
          level_holds n (b - prefix) first s (f n prefix wide first l (b - prefix) s (ap (λ (x : ℕ). x ∷ s) d) (omega arith))

abbrev IsSized : List ℕ → Coded ℕ → Type 0
IsSized s (Ok (v, n)) = Sized s n
IsSized s (Err k) = Unit

is-sized : (s : List ℕ) → IsSized s (read_old_count s)
is-sized s =
    count-holds (IsSized s) (λ k. tt) s
    (λ n prefix wide first l high r e h w. rw e (record { some = omega arith; size = omega (arith, l.most); within = omega arith }))
    (λ b r e h w lo hi. rw e (record { some = omega arith; size = omega arith; within = omega arith }))

pub count-sized : (s : List ℕ) {v n : ℕ} → Ok (v, n) ≡ read_old_count s → Sized s n
count-sized s e = subst⁻¹ (IsSized s) e (is-sized s)

-- what reads as v is the written form of v
abbrev IsWritten : List ℕ → Coded ℕ → Type 0
IsWritten s (Ok (v, n)) = (v ≤ 2147483647) × StartsWith s (write_old_count v) n
IsWritten s (Err k) = Unit

level-form : {n prefix wide first : ℕ} → Level n prefix wide first → (high : ℕ) (r : List ℕ) → Bytes r → high < wide → n ≤ length r
    → IsWritten ((prefix + high) ∷ r) (Ok (first + fixed_from n high r, n + 1))
level-form {n} {prefix} {wide} {first} l high r hs h w =
    let v : ℕ = fixed_from n high r in
    let a : high + 1 ≤ wide = omega arith in
    let q : v < wide * 256 ^ n = omega (arith, (fixed-between n high r hs w).below, mul-le-mul_right (256 ^ n) a) in (
      l.fits v q,
      record {
        form = rw (l.writes v q, add-one) (prefixed-form n prefix high r hs w);
        size = rw (l.writes v q) (sym (length-prefixed n prefix v));
      },
    )

largest-form : (b : ℕ) (r : List ℕ) → Bytes (b ∷ r) → 0xff ≤ b → 4 ≤ length r → 0x1020408f ≤ fixed_from 4 0 r → fixed_from 4 0 r ≤ 0x7fffffff
    → IsWritten (b ∷ r) (Ok (fixed_from 4 0 r, 5))
largest-form b r hs h w lo hi =
    let c : b < 256 = hs 0 in
    let d : 0xff + 0 ≡ b = omega arith in (
      omega arith,
      record {
        form = rw (writes-largest (fixed_from 4 0 r) lo) (subst (λ (x : ℕ). x ∷ r ≡ prefixed 4 0xff (fixed_from 4 0 r) ++ drop 4 r) d (prefixed-form 4 0xff 0 r (λ i. hs (suc i)) w));
        size = rw (writes-largest (fixed_from 4 0 r) lo) (sym (length-prefixed 4 0xff (fixed_from 4 0 r)));
      },
    )

is-written : (s : List ℕ) → Bytes s → IsWritten s (read_old_count s)
is-written s hs =
    count-holds (IsWritten s) (λ k. tt) s
    (λ n prefix wide first l high r e h w. rw e (level-form l high r (λ i. (rw e at hs) (suc i)) h w))
    (λ b r e h w lo hi. rw e (largest-form b r (rw e at hs) h w lo hi))

pub count_small : (s : List ℕ) {v n : ℕ} → Bytes s → Ok (v, n) ≡ read_old_count s → v ≤ 2147483647
count_small s hs e = (subst⁻¹ (IsWritten s) e (is-written s hs)).0

pub count-form : (s : List ℕ) {v n : ℕ} → Bytes s → Ok (v, n) ≡ read_old_count s → StartsWith s (write_old_count v) n
count-form s hs e = (subst⁻¹ (IsWritten s) e (is-written s hs)).1

-- a count that was written is read back, whatever follows
abbrev Back : ℕ → List ℕ → Type 0
Back v rest = read_old_count (write_old_count v ++ rest) ≡ Ok (v, length (write_old_count v))

level-back : {n prefix wide first : ℕ} → Level n prefix wide first → (v : ℕ) (rest : List ℕ) → v < wide * 256 ^ n → Back (first + v) rest
level-back {n} {prefix} {wide} {first} l v rest h =
    let m : v / 256 ^ n < wide = (div-lt_iff_lt-mul (one-le-pow n 256 (lit≤ tt))).1 h in
    rw (l.writes v h, l.reads (v / 256 ^ n) (fixed_bytes n v ++ rest) m, prefixed-written n (v / 256 ^ n) v rest refl)
    (ap (λ (m : ℕ). Ok (first + v, m)) (sym (length-prefixed n prefix v)))

largest-back : (v : ℕ) (rest : List ℕ) → 0x1020408f ≤ v → v ≤ 2147483647 → Back v rest
largest-back v rest lo hi =
    let d : v / 256 ^ 4 ≡ 0 = omega arith in
    rw (writes-largest v lo, reads-largest (0xff + v / 256 ^ 4) (fixed_bytes 4 v ++ rest) (omega arith), prefixed-written 4 0 v rest d, le-leb 0x1020408f v lo, le-leb v 0x7fffffff hi)
    (ap (λ (m : ℕ). Ok (v, m)) (sym (length-prefixed 4 0xff v)))

-- the form of each value: P of a value, from P of each form
pub by_form : (P : ℕ → Type 0) → ((n prefix wide first : ℕ) → Level n prefix wide first → (v : ℕ) → v < wide * 256 ^ n → P (first + v))
    → ((v : ℕ) → 0x1020408f ≤ v → P v) → (v : ℕ) → P v
by_form P f g v =
    by_order v 0x0f (λ (h : v < 0x0f). on smallest (omega arith) (omega arith)) (λ (a : 0x0f ≤ v).
    by_order v 0x8f (λ (h : v < 0x8f). on one_byte a (omega arith)) (λ (b : 0x8f ≤ v).
    by_order v 0x408f (λ (h : v < 0x408f). on two-bytes b (omega arith)) (λ (c : 0x408f ≤ v).
    by_order v 0x20408f (λ (h : v < 0x20408f). on three-bytes c (omega arith)) (λ (d : 0x20408f ≤ v).
    by_order v 0x1020408f (λ (h : v < 0x1020408f). on four_bytes d (omega arith)) (g v)))))
  where
    on : {n prefix wide first : ℕ} → Level n prefix wide first → first ≤ v → v - first < wide * 256 ^ n → P v
    on {n} {prefix} {wide} {first} l a h =
        let d : first + (v - first) ≡ v = omega arith in
        subst P d (f n prefix wide first l (v - first) h)

pub count-written : (v : ℕ) (rest : List ℕ) → v ≤ 2147483647 → Back v rest
count-written v rest =
    by_form (λ (x : ℕ). x ≤ 2147483647 → Back x rest) (λ n prefix wide first l w h _. level-back l w rest h) (λ w lo hi. largest-back w rest lo hi) v

-- the written form is 1 to 5 bytes
pub count-size : (v : ℕ) → (1 ≤ length (write_old_count v)) × (length (write_old_count v) ≤ 5)
count-size v =
    by_form (λ (x : ℕ). (1 ≤ length (write_old_count x)) × (length (write_old_count x) ≤ 5))
    (λ n prefix wide first l w h. rw (l.writes w h, length-prefixed n prefix w) (omega arith, omega (arith, l.most)))
    (λ w lo. rw (writes-largest w lo, length-prefixed 4 0xff w) (omega arith, omega arith)) v

pub level-length : {n prefix wide first : ℕ} → Level n prefix wide first → (v : ℕ) → first ≤ v → v < first + wide * 256 ^ n → length (write_old_count v) ≡ n + 1
level-length {n} {prefix} {wide} {first} l v a h =
    let d : first + (v - first) ≡ v = omega arith in
    ap (λ (x : ℕ). length (write_old_count x)) (sym d) ∙ ap length (l.writes (v - first) (omega arith)) ∙ length-prefixed n prefix (v - first)

pub single-length : (v : ℕ) → v < 0x8f → length (write_old_count v) ≡ 1
single-length v h = by_order v 0x0f (λ (l : v < 0x0f). level-length smallest v (omega arith) (omega arith)) (λ (l : 0x0f ≤ v). level-length one_byte v l (omega arith))

pub largest-length : (v : ℕ) → 0x1020408f ≤ v → length (write_old_count v) ≡ 5
largest-length v h = ap length (writes-largest v h) ∙ length-prefixed 4 0xff v
