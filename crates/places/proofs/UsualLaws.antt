-- Offsets at a place: a law for each way out of their reader. Assumes nothing.
use Rattle.std.specs.Prelude.{Ok}
use mathlib.Core.Path.{◌≡◌, refl, sym, ◌∙◌}
use mathlib.Core.List.{List}
use Prim.Native.Nat.{ℕ, suc, ◌+◌, ◌*◌, ◌/◌, ◌%◌, ◌≤◌, ◌<◌}
use native.Mathlib.Omega.{arith}
use native.Mathlib.Numerals.{add-one}
use native.Mathlib.Nat.{mul-mod_right}
use lib.Dec.{ltb}
use lib.ListN.{length, drop, get_or, length-drop}
use lib.Seq.{drop-cons}
use borrow.Author.Tests.{lt-ltb, le-ltb, le-leb}
use Rattle.base.specs.Parsed.{parse}
use Rattle.base.proofs.Tests.{pick-holds}
use Rattle.counts.specs.Fixed.{fixed_from}
use Rattle.offsets.specs.Offset.{read_sum}
use Rattle.offsets.proofs.OffsetLaws.{Fine, Level, minutes, seconds, milliseconds, fine_of}
use Rattle.places.specs.Placed.{at, Stands}
use Rattle.places.proofs.ShortLaws.{reads, half-hours}
use Rattle.places.specs.Usual.{usual_size, UsualAt}

pub size-one : (b : ℕ) → b < 128 → 1 ≡ usual_size b
unfolding usual_size
size-one b h = rw (lt-ltb b 128 h)

pub size-two : (b : ℕ) → 128 ≤ b → b < 160 → 2 ≡ usual_size b
unfolding usual_size
size-two b l h = rw (le-ltb b 128 l, lt-ltb b 160 h)

pub size-three : (b : ℕ) → 160 ≤ b → b < 192 → 3 ≡ usual_size b
unfolding usual_size
size-three b l h = rw (le-ltb b 128 (omega arith), le-ltb b 160 l, lt-ltb b 192 h)

pub size-four : (b : ℕ) → 192 ≤ b → 4 ≡ usual_size b
unfolding usual_size
size-four b h = rw (le-ltb b 128 (omega arith), le-ltb b 160 (omega arith), le-ltb b 192 h)

pub size-most : (b n : ℕ) → n ≡ usual_size b → n ≤ 4
unfolding usual_size
size-most b n e =
    rw e (pick-holds (λ (k : ℕ). k ≤ 4) (ltb b 128) (λ _. omega arith) (λ _.
    pick-holds (λ (k : ℕ). k ≤ 4) (ltb b 160) (λ _. omega arith) (λ _.
    pick-holds (λ (k : ℕ). k ≤ 4) (ltb b 192) (λ _. omega arith) (λ _. omega arith))))

pub other : (s : List ℕ) (place : ℕ) → UsualAt s place 0
other s place = record { stands = λ n. absurd (n refl) }

multiple : (v k q : ℕ) → v ≡ k * q → v % k ≡ 0
multiple v k q e = rw e (mul-mod_right k q)

module _ (s : List ℕ) (place : ℕ) where
  usual-at : (v n : ℕ) → n ≡ usual_size (get_or s place 0) → read_sum (drop place s) ≡ Ok (v, n) → place + n ≤ length s → UsualAt s place v
  usual-at v n e r w = record { stands = λ _. rw e at (reads read_sum s place v n r w) }

  -- what a reader goes on with
  pub usual-stands : {v : ℕ} → UsualAt s place v → (v ≡ 0 → ⊥) → (n : ℕ) → n ≡ usual_size (get_or s place 0)
      → Stands s (parse read_sum (drop place s)) (at v (place + n))
  usual-stands u z n e = rw e (u.stands z)

  pub half-hours-at : place + 3 ≤ length s → get_or s place 0 < 96 → UsualAt s place (get_or s place 0 * 1800000)
  half-hours-at w h = record {
    stands = λ n.
        let z : get_or s place 0 ≡ 0 → ⊥ = λ e. n (omega arith) in
        (usual-at (get_or s place 0 * 1800000) 1 (size-one (get_or s place 0) (omega arith)) (half-hours s place (omega arith) z h) (omega arith)).stands n;
  }

  -- a number of units behind the first byte
  level-at : {n p unit coarser : ℕ} → Level n p unit coarser → place + n < length s → p ≤ get_or s place 0 → get_or s place 0 < p + 32
      → Fine coarser (fixed_from n (get_or s place 0 % 32) (drop (suc place) s) * unit)
      → read_sum (drop place s) ≡ Ok (fixed_from n (get_or s place 0 % 32) (drop (suc place) s) * unit, n + 1)
  level-at {n} {p} {unit} {coarser} l w lo hi f =
      let k : n ≤ length (drop (suc place) s) = rw length-drop (omega arith) in
      rw (drop-cons s place 0 (omega arith), l.reads (get_or s place 0) (drop (suc place) s) lo hi, le-leb n (length (drop (suc place) s)) k)
      (fine_of (n + 1) coarser (fixed_from n (get_or s place 0 % 32) (drop (suc place) s) * unit) f)

  one_more : (high : ℕ) → place + 2 ≤ length s → fixed_from 1 high (drop (suc place) s) ≡ high * 256 + get_or s (place + 1) 0
  unfolding fixed_from
  one_more high w = rw (drop-cons s (suc place) 0 (omega arith), add-one place)

  two-more : (high : ℕ) → place + 3 ≤ length s
      → fixed_from 2 high (drop (suc place) s) ≡ (high * 256 + get_or s (place + 1) 0) * 256 + get_or s (place + 2) 0
  unfolding fixed_from
  two-more high w =
      let k : place + 2 ≡ suc (suc place) = omega arith in
      rw (drop-cons s (suc place) 0 (omega arith), drop-cons s (suc (suc place)) 0 (omega arith), add-one place, k)

  three-more : (high : ℕ) → place + 4 ≤ length s
      → fixed_from 3 high (drop (suc place) s) ≡ ((high * 256 + get_or s (place + 1) 0) * 256 + get_or s (place + 2) 0) * 256 + get_or s (place + 3) 0
  unfolding fixed_from
  three-more high w =
      let k : place + 2 ≡ suc (suc place) = omega arith in
      let q : place + 3 ≡ suc (suc (suc place)) = omega arith in
      rw (
        drop-cons s (suc place) 0 (omega arith),
        drop-cons s (suc (suc place)) 0 (omega arith),
        drop-cons s (suc (suc (suc place))) 0 (omega arith),
        add-one place,
        k,
        q,
      )

  module _ (v : ℕ) where
    pub minutes-are : place + 2 ≤ length s → 128 ≤ get_or s place 0 → get_or s place 0 < 160 → v ≡ get_or s place 0 % 32 * 256 + get_or s (place + 1) 0
        → v ≤ 2879 → (v % 30 ≡ 0 → ⊥) → UsualAt s place (v * 60000)
    minutes-are w lo hi e most fine =
        let r : fixed_from 1 (get_or s place 0 % 32) (drop (suc place) s) ≡ v = one_more (get_or s place 0 % 32) w ∙ sym e in
        let f : Fine 1800000 (v * 60000) =
        record { least = omega arith; most = omega arith; fine = λ z. fine (multiple v 30 (v * 60000 / 1800000) (omega arith)) } in
        usual-at (v * 60000) 2 (size-two (get_or s place 0) lo hi) (rw r at (level-at minutes (omega arith) lo hi (rw r f))) w

    pub seconds-are : place + 3 ≤ length s → 160 ≤ get_or s place 0 → get_or s place 0 < 192
        → v ≡ (get_or s place 0 % 32 * 256 + get_or s (place + 1) 0) * 256 + get_or s (place + 2) 0
        → v ≤ 172799 → (v % 60 ≡ 0 → ⊥) → UsualAt s place (v * 1000)
    seconds-are w lo hi e most fine =
        let r : fixed_from 2 (get_or s place 0 % 32) (drop (suc place) s) ≡ v = two-more (get_or s place 0 % 32) w ∙ sym e in
        let f : Fine 60000 (v * 1000) =
        record { least = omega arith; most = omega arith; fine = λ z. fine (multiple v 60 (v * 1000 / 60000) (omega arith)) } in
        usual-at (v * 1000) 3 (size-three (get_or s place 0) lo hi) (rw r at (level-at seconds (omega arith) lo hi (rw r f))) w

    pub milliseconds-are : place + 4 ≤ length s → 192 ≤ get_or s place 0 → get_or s place 0 < 224
        → v ≡ ((get_or s place 0 % 32 * 256 + get_or s (place + 1) 0) * 256 + get_or s (place + 2) 0) * 256 + get_or s (place + 3) 0
        → v ≤ 172799999 → (v % 1000 ≡ 0 → ⊥) → UsualAt s place v
    milliseconds-are w lo hi e most fine =
        let r : fixed_from 3 (get_or s place 0 % 32) (drop (suc place) s) ≡ v = three-more (get_or s place 0 % 32) w ∙ sym e in
        let one : v * 1 ≡ v = omega arith in
        let f : Fine 1000 (v * 1) = rw one (record { least = omega arith; most = most; fine = fine }) in
        usual-at v 4 (size-four (get_or s place 0) lo) (rw (r, one) at (level-at milliseconds (omega arith) lo hi (rw r f))) w
