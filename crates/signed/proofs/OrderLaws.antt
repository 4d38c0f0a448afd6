-- Differences of numbers as integers: their order, sum and product, and what the kit's order of integers leaves out. Assumes nothing.
use mathlib.Core.Path.{◌≡◌, refl, sym, ap, ◌∙◌}
use Prim.Native.Nat.{ℕ, zero, suc, ◌+◌, ◌-◌, ◌*◌, ◌≤◌, ◌<◌}
use native.Mathlib.Omega.{arith}
use lib.Dec.{T, ltb, leb, ltb→lt, le→leb}
use lib.IntN.{ℤ, pos, negsuc, sub_ℕ, neg_ℤ, ◌+ℤ◌, ◌*ℤ◌}
use lib.Signed.{le_z, lt_z, ◌≤ℤ◌, ◌<ℤ◌, <ℤ-≤ℤ_trans}
use borrow.Author.Tests.{lt-ltb, le-ltb, le-leb, lt-leb}
use Rattle.base.proofs.Tests.{by_order}

-- a smaller integer is at most the larger, and order is handed on
weaker : (a b : ℤ) → T (lt_z a b) → T (le_z a b)
weaker (pos a) (pos b) h = le→leb a b (omega (arith, ltb→lt a b h))
weaker (pos a) (negsuc b) h = h
weaker (negsuc a) (pos b) h = tt
weaker (negsuc a) (negsuc b) h = le→leb b a (omega (arith, ltb→lt b a h))

pub lt-le : {a b : ℤ} → a <ℤ b → a ≤ℤ b
lt-le {a} {b} h = record { le = weaker a b h.lt }

pub lt_trans : {a b c : ℤ} → a <ℤ b → b <ℤ c → a <ℤ c
lt_trans h k = <ℤ-≤ℤ_trans h (lt-le k)

-- a difference by its sign
pub sub_low : (a b : ℕ) → a < b → sub_ℕ a b ≡ negsuc (b - suc a)
sub_low a b h = rw (lt-ltb a b h)

pub sub-high : (a b : ℕ) → b ≤ a → sub_ℕ a b ≡ pos (a - b)
sub-high a b h = rw (le-ltb a b h)

-- two differences to one number stand in the order of the numbers
module _ (a b c : ℕ) where
  pub sub-le : le_z (sub_ℕ a c) (sub_ℕ b c) ≡ leb a b
  sub-le =
      by_order a c
      (λ (h : a < c). by_order b c
      (λ (k : b < c). rw (lt-ltb a c h, lt-ltb b c k) (by_order b a
      (λ (l : b < a). lt-leb (c - suc b) (c - suc a) (omega arith) ∙ sym (lt-leb a b l))
      (λ (l : a ≤ b). le-leb (c - suc b) (c - suc a) (omega arith) ∙ sym (le-leb a b l))))
      (λ (k : c ≤ b). rw (lt-ltb a c h, le-ltb b c k) (sym (le-leb a b (omega arith)))))
      (λ (h : c ≤ a). by_order b c
      (λ (k : b < c). rw (le-ltb a c h, lt-ltb b c k) (sym (lt-leb a b (omega arith))))
      (λ (k : c ≤ b). rw (le-ltb a c h, le-ltb b c k) (by_order b a
      (λ (l : b < a). lt-leb (a - c) (b - c) (omega arith) ∙ sym (lt-leb a b l))
      (λ (l : a ≤ b). le-leb (a - c) (b - c) (omega arith) ∙ sym (le-leb a b l)))))

  pub sub-lt : lt_z (sub_ℕ a c) (sub_ℕ b c) ≡ ltb a b
  sub-lt =
      by_order a c
      (λ (h : a < c). by_order b c
      (λ (k : b < c). rw (lt-ltb a c h, lt-ltb b c k) (by_order a b
      (λ (l : a < b). lt-ltb (c - suc b) (c - suc a) (omega arith) ∙ sym (lt-ltb a b l))
      (λ (l : b ≤ a). le-ltb (c - suc b) (c - suc a) (omega arith) ∙ sym (le-ltb a b l))))
      (λ (k : c ≤ b). rw (lt-ltb a c h, le-ltb b c k) (sym (lt-ltb a b (omega arith)))))
      (λ (h : c ≤ a). by_order b c
      (λ (k : b < c). rw (le-ltb a c h, lt-ltb b c k) (sym (le-ltb a b (omega arith))))
      (λ (k : c ≤ b). rw (le-ltb a c h, le-ltb b c k) (by_order a b
      (λ (l : a < b). lt-ltb (a - c) (b - c) (omega arith) ∙ sym (lt-ltb a b l))
      (λ (l : b ≤ a). le-ltb (a - c) (b - c) (omega arith) ∙ sym (le-ltb a b l)))))

-- equal differences, sums and multiples of differences
pub sub_same : (a b c d : ℕ) → a + d ≡ c + b → sub_ℕ a b ≡ sub_ℕ c d
sub_same a b c d e =
    by_order a b
    (λ (h : a < b). rw (lt-ltb a b h, lt-ltb c d (omega arith)) (ap negsuc (omega arith)))
    (λ (h : b ≤ a). rw (le-ltb a b h, le-ltb c d (omega arith)) (ap pos (omega arith)))

pub sub-add : (a b c d : ℕ) → sub_ℕ a b +ℤ sub_ℕ c d ≡ sub_ℕ (a + c) (b + d)
sub-add a b c d =
    by_order a b
    (λ (h : a < b). by_order c d
    (λ (k : c < d). rw (sub_low a b h, sub_low c d k, sub_low (a + c) (b + d) (omega arith)) (ap negsuc (omega arith)))
    (λ (k : d ≤ c). rw (sub_low a b h, sub-high c d k) (sub_same (c - d) (suc (b - suc a)) (a + c) (b + d) (omega arith))))
    (λ (h : b ≤ a). by_order c d
    (λ (k : c < d). rw (sub-high a b h, sub_low c d k) (sub_same (a - b) (suc (d - suc c)) (a + c) (b + d) (omega arith)))
    (λ (k : d ≤ c). rw (sub-high a b h, sub-high c d k, sub-high (a + c) (b + d) (omega arith)) (ap pos (omega arith))))

neg-pos : (n : ℕ) → neg_ℤ (pos n) ≡ sub_ℕ 0 n
neg-pos zero = refl
neg-pos (suc n) = sym (sub_low 0 (suc n) (omega arith) ∙ ap negsuc (omega arith))

-- by the ticks of a millisecond
pub sub-times : (c d : ℕ) → sub_ℕ c d *ℤ pos 10000 ≡ sub_ℕ (c * 10000) (d * 10000)
sub-times c d =
    by_order c d
    (λ (h : c < d). rw (sub_low c d h) (neg-pos (suc (d - suc c) * 10000) ∙ sub_same 0 (suc (d - suc c) * 10000) (c * 10000) (d * 10000) (omega arith)))
    (λ (h : d ≤ c). rw (sub-high c d h, sub-high (c * 10000) (d * 10000) (omega arith)) (ap pos (omega arith)))
