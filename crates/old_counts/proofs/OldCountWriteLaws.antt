-- How the older count is written: the loop that stores a number behind a prefix, and a law for each way out of the writer. Assumes nothing.
use Rattle.base.specs.declared.Refusal.{Refusal}
use Rattle.std.specs.Prelude.{Err, Ok, Result}
use Rattle.base.specs.declared.Refusal.TheVariants.{BadCode}
use mathlib.Core.Path.{◌≡◌, refl, ap, sym, ◌∙◌}
use mathlib.Core.List.{List, [], ◌∷◌}
use Prim.Native.Nat.{ℕ, suc, ◌+◌, ◌*◌, ◌-◌, ◌/◌, ◌%◌, ◌^◌, ◌≤◌, ◌<◌}
use native.Mathlib.Omega.{arith}
use native.Mathlib.Numerals.{add-one}
use native.Mathlib.Nat.{pow-suc, div-div-eq-div-mul}
use lib.ListN.{length, set}
use lib.Seq.{sets, set_comm, length-sets}
use borrow.Author.Tests.{le-leb, lt-leb}
use Rattle.base.specs.Writing.{bytes, Writes}
use Rattle.base.proofs.WriteLaws.{not_carried, stored}
use Rattle.counts.specs.Fixed.{fixed_bytes, prefixed}
use Rattle.counts.proofs.FixedLaws.{length-prefixed}
use Rattle.old_counts.specs.OldCount.{write_old_count, old_count_form}
use Rattle.old_counts.specs.Facts.{Level}
use Rattle.old_counts.proofs.OldCountLaws.{writes-largest}

-- a store before others
set-sets : (xs d : List ℕ) (i j b : ℕ) → i < j → set (sets d j xs) i b ≡ sets (set d i b) j xs
set-sets [] d i j b h = refl
set-sets (x ∷ xs) d i j b h =
    set-sets xs (set d j x) i (suc j) b (omega arith)
    ∙ ap (λ (e : List ℕ). sets e (suc j) xs) (set_comm d j i x b (λ e. omega arith))

-- where the loop stands: the n - i low bytes of v are stored behind the place i, and rest is what they leave. d₀ is the output before the loop
pub record Storing (n v : ℕ) (d₀ : List ℕ) (rest i : ℕ) (d : List ℕ) : Type 0 where
  pub inside : i ≤ n
  pub left : rest ≡ v / 256 ^ (n - i)
  pub kept : d ≡ sets d₀ (i + 1) (fixed_bytes (n - i) v)

pub storing-size : {n v : ℕ} {d₀ : List ℕ} {rest i : ℕ} {d : List ℕ} → Storing n v d₀ rest i d → length d ≡ length d₀
storing-size {n} {v} {d₀} {rest} {i} {d} s = ap length s.kept ∙ length-sets d₀ (i + 1) (fixed_bytes (n - i) v)

pub storing-start : (n v : ℕ) (d : List ℕ) → Storing n v d v n d
unfolding fixed_bytes
storing-start n v d =
    let e : n - n ≡ 0 = omega arith in
    record { inside = omega arith; left = rw e (omega arith); kept = rw e refl }

module _ (n v : ℕ) (d₀ : List ℕ) (rest i : ℕ) (d : List ℕ) (s : Storing n v d₀ rest i d) where
  pub storing-next : 0 < i → Storing n v d₀ (rest / 256) (i - 1) (set d i (rest % 256))
  unfolding fixed_bytes
  storing-next h =
      let e : n - (i - 1) ≡ suc (n - i) = omega arith in
      let z : i - 1 + 1 ≡ i = omega arith in
      let p : 256 ^ suc (n - i) ≡ 256 ^ (n - i) * 256 = rw pow-suc (omega arith) in
      record {
        inside = omega arith;
        left = rw (e, p, s.left) (div-div-eq-div-mul v (256 ^ (n - i)) 256);
        kept = rw (e, z, s.kept, s.left) (rw (add-one i) (set-sets (fixed_bytes (n - i) v) d₀ i (suc i) (v / 256 ^ (n - i) % 256) (omega arith)));
      }

  pub storing-rest : i ≤ 0 → rest ≡ v / 256 ^ n
  storing-rest h =
      let z : i ≡ 0 = omega arith in
      let e : n - 0 ≡ n = omega arith in
      rw (z, e) at s.left

  pub storing-end : (prefix : ℕ) → i ≤ 0 → n < length d₀ → Writes (bytes (prefixed n prefix v)) d₀ (Ok (n + 1)) (set d 0 (prefix + rest))
  storing-end prefix h l =
      let z : i ≡ 0 = omega arith in
      let e : n - 0 ≡ n = omega arith in
      let k : d ≡ sets d₀ 1 (fixed_bytes n v) = rw (z, e) at s.kept in
      let m = storing-rest h in
      let w = stored (prefixed n prefix v) d₀ (rw (length-prefixed n prefix v) (omega arith)) in
      rw (sym (length-prefixed n prefix v)) (w.0, rw (k, m) (set-sets (fixed_bytes n v) d₀ 0 1 (prefix + v / 256 ^ n) (omega arith)) ∙ w.1)

-- the ways out of the writer
pub too_large : (v : ℕ) (d : List ℕ) → 2147483647 < v → Writes (old_count_form v) d (Err BadCode) d
too_large v d h = rw (lt-leb v 2147483647 h) (not_carried BadCode d)

carried : (v : ℕ) (d : List ℕ) (r : Result ℕ Refusal) (e xs : List ℕ) → v ≤ 2147483647 → write_old_count v ≡ xs → Writes (bytes xs) d r e → Writes (old_count_form v) d r e
carried v d r e xs h q w = rw (le-leb v 2147483647 h, q) w

pub as-level : {n prefix wide first : ℕ} → Level n prefix wide first → (v w : ℕ) (d : List ℕ) (r : Result ℕ Refusal) (e : List ℕ) → first + w ≡ v
    → w < wide * 256 ^ n → Writes (bytes (prefixed n prefix w)) d r e → Writes (old_count_form v) d r e
as-level {n} {prefix} {wide} {first} l v w d r e z h q =
    carried v d r e (prefixed n prefix w) (omega (arith, l.fits w h)) (ap write_old_count (sym z) ∙ l.writes w h) q

pub as-largest : (v : ℕ) (d : List ℕ) (r : Result ℕ Refusal) (e : List ℕ) → v ≤ 2147483647 → 0x1020408f ≤ v → Writes (bytes (prefixed 4 0xff v)) d r e → Writes (old_count_form v) d r e
as-largest v d r e m h w = carried v d r e (prefixed 4 0xff v) m (writes-largest v h) w
