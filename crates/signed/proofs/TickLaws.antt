-- Signed ticks stand in the order of their moments. Assumes nothing.
use mathlib.Core.Path.{◌≡◌, sym, ◌∙◌, subst}
use mathlib.Core.Bool.{true, false}
use Prim.Native.Nat.{ℕ, suc, ◌-◌, ◌≤◌, ◌<◌}
use native.Mathlib.Omega.{arith}
use lib.Dec.{ltb, leb}
use lib.IntN.{ℤ, pos, negsuc, sub_ℕ}
use lib.Signed.{le_z, lt_z}
use borrow.Author.Tests.{lt-ltb, le-ltb, le-leb, lt-leb, eq-eqb, ne_eqb}
use Rattle.base.specs.Moment.{Finite, epoch, end_of_time}
use Rattle.base.proofs.Tests.{by_order}
use Rattle.signed.specs.Instant.{ticks_of}
use Rattle.signed.proofs.OrderLaws.{sub-le, sub-lt}

-- the marks stand outside
module _ (t : ℕ) (f : Finite t) where
  least-le : le_z (negsuc 9223372036854775807) (sub_ℕ t epoch) ≡ true
  least-le = by_order t epoch (λ (h : t < epoch). rw (lt-ltb t epoch h) (le-leb (epoch - suc t) 9223372036854775807 (omega arith))) (λ (h : epoch ≤ t). rw (le-ltb t epoch h))

  least_lt : lt_z (sub_ℕ t epoch) (negsuc 9223372036854775807) ≡ false
  least_lt = by_order t epoch (λ (h : t < epoch). rw (lt-ltb t epoch h) (le-ltb 9223372036854775807 (epoch - suc t) (omega arith))) (λ (h : epoch ≤ t). rw (le-ltb t epoch h))

  most-le : le_z (pos 9223372036854775807) (sub_ℕ t epoch) ≡ false
  most-le = by_order t epoch (λ (h : t < epoch). rw (lt-ltb t epoch h)) (λ (h : epoch ≤ t). rw (le-ltb t epoch h) (lt-leb 9223372036854775807 (t - epoch) (omega (arith, f.high))))

  most-lt : lt_z (sub_ℕ t epoch) (pos 9223372036854775807) ≡ true
  most-lt = by_order t epoch (λ (h : t < epoch). rw (lt-ltb t epoch h)) (λ (h : epoch ≤ t). rw (le-ltb t epoch h) (lt-ltb (t - epoch) 9223372036854775807 (omega (arith, f.high))))

pub ticks-plain : (m : ℕ) → 0 < m → m < end_of_time → ticks_of m ≡ sub_ℕ m epoch
ticks-plain m l h = rw (ne_eqb m 0 (omega arith), lt-ltb m end_of_time h)

ticks-start : (m : ℕ) → m ≡ 0 → ticks_of m ≡ negsuc 9223372036854775807
ticks-start m e = rw (eq-eqb m 0 e)

ticks-end : (m : ℕ) → end_of_time ≤ m → ticks_of m ≡ pos 9223372036854775807
ticks-end m h = rw (ne_eqb m 0 (omega arith), le-ltb m end_of_time h)

-- a moment, or any other number, against an instant
module _ (m t : ℕ) (f : Finite t) where
  now : ticks_of t ≡ sub_ℕ t epoch
  now = ticks-plain t (omega (arith, f.low)) (omega (arith, f.high))

  by_kind : (G : ℤ → Type 0) → (m ≡ 0 → G (negsuc 9223372036854775807)) → (0 < m → m < end_of_time → G (sub_ℕ m epoch))
      → (end_of_time ≤ m → G (pos 9223372036854775807)) → G (ticks_of m)
  by_kind G a b c =
      by_order 0 m
      (λ (h : 0 < m). by_order m end_of_time
      (λ (k : m < end_of_time). subst G (sym (ticks-plain m h k)) (b h k))
      (λ (k : end_of_time ≤ m). subst G (sym (ticks-end m k)) (c k)))
      (λ (h : m ≤ 0). subst G (sym (ticks-start m (omega arith))) (a (omega arith)))

  pub ticks-le : le_z (ticks_of m) (ticks_of t) ≡ leb m t
  ticks-le = subst (λ (u : ℤ). le_z (ticks_of m) u ≡ leb m t) (sym now) (by_kind (λ u. le_z u (sub_ℕ t epoch) ≡ leb m t)
      (λ e. least-le t f ∙ sym (le-leb m t (omega arith)))
      (λ l h. sub-le m t epoch)
      (λ h. most-le t f ∙ sym (lt-leb m t (omega (arith, f.high)))))

  pub ticks-lt : lt_z (ticks_of t) (ticks_of m) ≡ ltb t m
  ticks-lt = subst (λ (u : ℤ). lt_z u (ticks_of m) ≡ ltb t m) (sym now) (by_kind (λ u. lt_z (sub_ℕ t epoch) u ≡ ltb t m)
      (λ e. least_lt t f ∙ sym (le-ltb t m (omega arith)))
      (λ l h. sub-lt t m epoch)
      (λ h. most-lt t f ∙ sym (lt-ltb t m (omega (arith, f.high)))))
