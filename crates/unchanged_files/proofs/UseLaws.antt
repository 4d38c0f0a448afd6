-- Uses that descend. Assumes nothing.
use mathlib.Core.Path.{◌≡◌, refl, subst}
use mathlib.Core.Bool.{Bool, true, false}
use mathlib.Core.List.{List}
use Prim.Native.Nat.{ℕ, zero, suc, ◌+◌, ◌-◌, ◌≤◌, ◌<◌}
use native.Mathlib.Omega.{arith}
use lib.ListN.{length, get_or, get_or-eq_default}
use Rattle.base.proofs.Tests.{clash, by_order}
use Rattle.closed_files.proofs.OrderLaws.{Falls}
use Rattle.unchanged_files.specs.View.{NotBelow, DescendsWhere, LastUsed, UsedUpTo, ClosedWhere}

pub is_below : (a b bad : ℕ) → NotBelow a b bad 1
is_below a b bad = record { order = λ e. absurd (omega arith); earlier = λ e. absurd (omega arith) }

pub not-below : (a b bad : ℕ) → b ≤ a → NotBelow a b bad bad
not-below a b bad h = record { order = λ e. h; earlier = λ e. e }

-- the first i uses descend where bad is 0
pub record Descending (l : List ℕ) (i bad : ℕ) : Type 0 where
  pub some : 1 ≤ i
  pub descends : bad ≡ 0 → (j : ℕ) → suc j < i → get_or l (suc j) 0 ≤ get_or l j 0

pub descending-start : (l : List ℕ) → Descending l 1 0
descending-start l = record { some = omega arith; descends = λ e j h. absurd (omega arith) }

module _ (l : List ℕ) (i bad : ℕ) (d : Descending l i bad) where
  pub descending-next : (r : ℕ) → NotBelow (get_or l (i - 1) 0) (get_or l i 0) bad r → Descending l (i + 1) r
  descending-next r n =
      record {
        some = omega arith;
        descends = λ e j h.
            by_order (suc j) i (λ k. d.descends (n.earlier e) j k)
            (λ k. let y : suc j ≡ i = omega arith in let z : j ≡ i - 1 = omega arith in rw (y, z) (n.order e));
      }

  pub descending-end : length l ≤ i → bad ≡ 0 → DescendsWhere true l
  descending-end h e = record { descends = λ t j k. d.descends e j (omega arith) }

pub descends-not : (l : List ℕ) → DescendsWhere false l
descends-not l = record { descends = λ t j k. clash cc }

-- ---- how far they go
pub last_none : (uses : List ℕ) (n : ℕ) → n ≡ 0 → LastUsed true uses n
last_none uses n e = record { last = λ t j h. absurd (omega arith) }

pub last_some : (uses : List ℕ) (n : ℕ) → (n ≡ 0 → ⊥) → (get_or uses (n - 1) 0 ≡ 0 → ⊥) → LastUsed true uses n
last_some uses n e h = record { last = λ t j k. let z : j ≡ n - 1 = omega arith in rw z (omega (arith, h)) }

pub last-not : (uses : List ℕ) (n : ℕ) → LastUsed false uses n
last-not uses n = record { last = λ t j k. clash cc }

pub used-not : (uses : List ℕ) (n : ℕ) → UsedUpTo false uses n
used-not uses n = record { within = λ t. clash cc; last = λ t j k. clash cc; next = λ t k. clash cc }

module _ (r : Bool) (uses : List ℕ) (n : ℕ) (l : LastUsed r uses n) (w : n ≤ length uses) where
  pub used-inside : get_or uses n 0 ≡ 0 → UsedUpTo r uses n
  used-inside e = record { within = λ t. w; last = l.last; next = λ t k. e }

  pub used-whole : length uses ≤ n → UsedUpTo r uses n
  used-whole h = record { within = λ t. w; last = l.last; next = λ t k. absurd (omega arith) }

-- ---- together
module _ (l : List ℕ) (d : DescendsWhere true l) where
  down : (j k : ℕ) → j + k < length l → get_or l (j + k) 0 ≤ get_or l j 0
  down j zero h = let z : j + 0 ≡ j = omega arith in rw z (omega arith)
  down j (suc k) h =
      let r = down j k (omega arith) in
      let z : j + suc k ≡ suc (j + k) = omega arith in
      let s = d.descends refl (j + k) (omega arith) in
      rw z (omega arith)

  down_to : (j i : ℕ) → j ≤ i → i < length l → get_or l i 0 ≤ get_or l j 0
  down_to j i h k = let z : j + (i - j) ≡ i = omega arith in subst (λ (n : ℕ). get_or l n 0 ≤ get_or l j 0) z (down j (i - j) (omega arith))

  pub falls : (n : ℕ) → UsedUpTo true l n → Falls n l
  falls n u =
      record {
        some = λ j h.
            let z : suc (n - 1) ≡ n = omega arith in
            let a = u.last refl (n - 1) z in
            let b = down_to j (n - 1) (omega arith) (omega (arith, u.within refl)) in
            omega arith;
        none = λ j h.
            by_order j (length l)
            (λ k. let a = u.next refl (omega arith) in let b = down_to n j h k in omega arith)
            (λ k. get_or-eq_default l 0 {n = j} k);
        fall = λ j h. let a = d.descends refl j (omega (arith, u.within refl)) in omega arith;
      }

-- ---- whether a file is its own closed file
pub closed-not : (plain : Bool) (uses : List ℕ) (n : ℕ) → ClosedWhere false plain uses n
closed-not plain uses n = record { plain = λ t. clash cc; descends = λ t. clash cc; used = λ t. clash cc }

module _ (plain : Bool) (uses : List ℕ) (n : ℕ) (p : plain ≡ true) (d : Bool) (h : DescendsWhere d uses) (e : d ≡ true) where
  pub closed-so : (r : Bool) → UsedUpTo r uses n → ClosedWhere r plain uses n
  closed-so r u = record { plain = λ t. p; descends = λ t. subst (λ (x : Bool). DescendsWhere x uses) e h; used = λ t. subst (λ (x : Bool). UsedUpTo x uses n) t u }
