-- Laws of the written groups: how a writing goes on, one byte at a time, and the length and the bytes of the form. Assumes nothing.
use Rattle.std.specs.Prelude.{Ok}
use mathlib.Core.Path.{◌≡◌, refl, ◌∙◌}
use mathlib.Core.List.{List, [], ◌∷◌}
use Prim.Native.Nat.{ℕ, zero, suc, ◌+◌, ◌-◌, ◌/◌, ◌%◌, ◌^◌, ◌≤◌, ◌<◌}
use native.Mathlib.Omega.{arith}
use native.Mathlib.Numerals.{add-one, sub-one}
use native.Mathlib.Nat.{pow-suc, one-le-pow}
use lib.Dec.{ltb, lit≤}
use lib.ListN.{length, set, length-set}
use lib.Seq.{sets}
use borrow.Author.Tests.{lt-ltb, le-ltb, ltb-true}
use Rattle.base.specs.Writing.{bytes, Writes}
use Rattle.base.proofs.Tests.{by_order, pick-holds}
use Rattle.base.proofs.Parts.{Bytes}
use Rattle.base.proofs.ByteLaws.{no-bytes, cons-bytes}
use Rattle.base.proofs.WriteLaws.{stored}
use Rattle.counts.specs.Groups.{write_groups}

-- the form is at least one byte
pub write-some : (k v : ℕ) → 1 ≤ length (write_groups k v)
unfolding write_groups
write-some zero v = omega arith
write-some (suc k) v = pick-holds (λ (xs : List ℕ). 1 ≤ length xs) (ltb v 128) (λ _. omega arith) (λ _. omega arith)

pub write-size : (k v : ℕ) → length (write_groups k v) ≤ k + 1
unfolding write_groups
write-size zero v = omega arith
write-size (suc k) v =
    pick-holds (λ (xs : List ℕ). length xs ≤ suc k + 1) (ltb v 128) (λ _. omega arith) (λ _. omega (arith, write-size k (v / 128)))

-- a larger number has no shorter form
pub write-mono : (k v w : ℕ) → v ≤ w → length (write_groups k v) ≤ length (write_groups k w)
unfolding write_groups
write-mono zero v w h = omega arith
write-mono (suc k) v w h =
    by_order v 128
    (λ (l : v < 128). rw (lt-ltb v 128 l) (write-some (suc k) w))
    (λ (l : 128 ≤ v). rw (le-ltb v 128 l, le-ltb w 128 (omega arith)) (omega (arith, write-mono k (v / 128) (w / 128) (omega arith))))

-- a number of j + 1 groups at most has at most j + 1 bytes
pub write-most : (j k v : ℕ) → v < 128 ^ suc j → length (write_groups k v) ≤ suc j
unfolding write_groups
write-most j zero v h = omega arith
write-most zero (suc k) v h = rw (lt-ltb v 128 (omega (arith, rw pow-suc at h))) (omega arith)
write-most (suc j) (suc k) v h =
    by_order v 128
    (λ (l : v < 128). rw (lt-ltb v 128 l) (omega arith))
    (λ (l : 128 ≤ v). rw (le-ltb v 128 l) (omega (arith, write-most j k (v / 128) (omega (arith, rw pow-suc at h)))))

-- a number of more than j groups has more than j bytes
pub write-least : (j k v : ℕ) → j ≤ k → 128 ^ j ≤ v → j < length (write_groups k v)
unfolding write_groups
write-least zero k v hj h = omega (arith, write-some k v)
write-least (suc j) zero v hj h = absurd (omega arith)
write-least (suc j) (suc k) v hj h =
    let l : 128 ≤ v = omega (arith, rw pow-suc at h, one-le-pow j 128 (lit≤ tt)) in
    rw (le-ltb v 128 l) (omega (arith, write-least j k (v / 128) (omega arith) (omega (arith, rw pow-suc at h))))

pub write_bytes : (k v : ℕ) → Bytes (write_groups k v)
unfolding write_groups
write_bytes zero v = cons-bytes (v % 128) [] (omega arith) no-bytes
write_bytes (suc k) v =
    pick-holds Bytes (ltb v 128)
    (λ t. cons-bytes v [] (omega (arith, ltb-true v 128 t)) no-bytes)
    (λ _. cons-bytes (128 + v % 128) (write_groups k (v / 128)) (omega arith) (write_bytes k (v / 128)))

-- a form of one byte, and of more
write-last : (k v : ℕ) → length (write_groups k v) ≤ 1 → write_groups k v ≡ (v % 128) ∷ []
unfolding write_groups
write-last zero v h = refl
write-last (suc k) v h =
    by_order v 128
    (λ (l : v < 128). let m : v % 128 ≡ v = omega arith in rw (lt-ltb v 128 l, m))
    (λ (l : 128 ≤ v). absurd (omega (arith, rw (le-ltb v 128 l) at h, write-some k (v / 128))))

write_step : (k v : ℕ) → 1 < length (write_groups k v) → write_groups k v ≡ (128 + v % 128) ∷ write_groups (k - 1) (v / 128)
unfolding write_groups
write_step zero v h = absurd (omega arith)
write_step (suc k) v h =
    by_order v 128
    (λ (l : v < 128). absurd (omega (arith, rw (lt-ltb v 128 l) at h)))
    (λ (l : 128 ≤ v). rw (le-ltb v 128 l, sub-one (suc k)))

-- where the writer's loop stands: i bytes are stored, and the groups of rest are left. d₀ is the output before the loop, d now
pub record Storing (v : ℕ) (d₀ : List ℕ) (rest i : ℕ) (d : List ℕ) : Type 0 where
  pub size : length d ≡ length d₀
  pub inside : i < length (write_groups 4 v)
  pub left : i + length (write_groups (4 - i) rest) ≡ length (write_groups 4 v)
  pub kept : sets d i (write_groups (4 - i) rest) ≡ sets d₀ 0 (write_groups 4 v)

pub storing-start : (v : ℕ) (d : List ℕ) → Storing v d v 0 d
storing-start v d = record { size = refl; inside = write-some 4 v; left = omega arith; kept = refl }

module _ (v : ℕ) (d₀ : List ℕ) (rest i : ℕ) (d : List ℕ) (s : Storing v d₀ rest i d) where
  pub storing-next : i + 1 < length (write_groups 4 v) → Storing v d₀ (rest / 128) (i + 1) (set d i (128 + rest % 128))
  storing-next h =
      let e = write_step (4 - i) rest (omega (arith, s.left)) in
      let z : 4 - i - 1 ≡ 4 - (i + 1) = omega arith in
      record {
        size = length-set d i (128 + rest % 128) ∙ s.size;
        inside = h;
        left = omega (arith, rw (e, z) at s.left);
        kept = rw (add-one i) (rw (e, z, add-one i) at s.kept);
      }

  pub storing-end : (n : ℕ) → n ≡ length (write_groups 4 v) → n ≤ i + 1 → n ≤ length d₀
      → Writes (bytes (write_groups 4 v)) d₀ (Ok n) (set d i (rest % 128))
  storing-end n m h l =
      let e = write-last (4 - i) rest (omega (arith, s.left)) in
      let w = stored (write_groups 4 v) d₀ (omega arith) in
      rw m (w.0, (rw e at s.kept) ∙ w.1)
