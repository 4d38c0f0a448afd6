-- Pairs of intervals of five bytes with the same names, and many uses at once. Assumes nothing.
use mathlib.Core.Path.{◌≡◌, refl, sym, ap, ap₂, ◌∙◌}
use mathlib.Core.Bool.{Bool, true, false}
use mathlib.Core.List.{List}
use Prim.Native.Nat.{ℕ, zero, suc, ◌+◌, ◌-◌, ◌*◌, ◌/◌, ◌%◌, ◌≤◌, ◌<◌}
use native.Mathlib.Omega.{arith}
use lib.Bits.{bit_and, and_block, and_mask, and_high}
use lib.Dec.{eqb}
use lib.ListN.{length, get_or, set}
use lib.Seq.{set_out, set-get_or, set-set, set_comm, get_or-set_same, get_or-set_other}
use borrow.Author.Tests.{eqb-true, eqb-false}
use Rattle.base.proofs.Tests.{clash, by_order}
use Rattle.use_order.specs.Order.{mention, mention_all}
use Rattle.use_order.proofs.NumberLaws.{length-mention, mention-most}
use Rattle.mention_runs.specs.Run.{Room}
use Rattle.counted_zones.specs.Steps.{moment_end, number_at, interval_end, list_names, list_end}
use Rattle.counted_zones.specs.Going.{mention_times, Going, IsFive, Pairs}
use Rattle.counted_zones.proofs.StepLaws.{number-one, five-ends}

-- ---- one test of four bytes: three top bits and a whole byte
top_bit : (a : ℕ) → bit_and a 128 ≡ (a / 128 % 2) * 128
top_bit a = and_high a 1 7

parts : (a b c d k : ℕ) → a < 2 → b < 256 → c < 2 → d < 2 → k < 128 → ((d * 128 * 256 + c * 128) * 256 + b) * 256 + a * 128 ≡ 256 * k
    → (a ≡ 0) × (b ≡ k) × (c ≡ 0) × (d ≡ 0)
parts a b c d k ha hb hc hd hk e =
    let x : ℕ = (d * 128 * 256 + c * 128) * 256 + b in
    let n : (a ≡ 1 → ⊥) = λ z. by_order x k (λ l. omega arith) (λ l. omega arith) in
    let y : a ≡ 0 = omega (arith, n) in
    let w : d ≡ 0 = omega arith in
    let v : c ≡ 0 = omega arith in
    (y, omega arith, v, w)

low : (a : ℕ) → a < 256 → a / 128 % 2 ≡ 0 → a < 128
low a h e = omega arith

bit : (a : ℕ) → a / 128 % 2 < 2
bit a = omega arith

module _ (a b c d k : ℕ) (ha : a < 256) (hb : b < 256) (hc : c < 256) (hd : d < 256) (hk : k < 128) where
  masked : bit_and (a + 256 * b + 65536 * c + 16777216 * d) 2155937664 ≡ ((bit_and d 128 * 256 + bit_and c 128) * 256 + bit_and b 255) * 256 + bit_and a 128
  masked =
      let x : a + 256 * b + 65536 * c + 16777216 * d ≡ ((d * 256 + c) * 256 + b) * 256 + a = omega arith in
      ap (λ (y : ℕ). bit_and y 2155937664) x
      ∙ and_block 8 ((d * 256 + c) * 256 + b) 8421631 a 128 ha (omega arith)
      ∙ ap (λ (y : ℕ). y * 256 + bit_and a 128)
      (and_block 8 (d * 256 + c) 32896 b 255 hb (omega arith) ∙ ap (λ (y : ℕ). y * 256 + bit_and b 255) (and_block 8 d 128 c 128 hc (omega arith)))

  -- what the test tells
  pub told : bit_and (a + 256 * b + 65536 * c + 16777216 * d) 2155937664 ≡ 256 * k → (a < 128) × (b ≡ k) × (c < 128) × (d < 128)
  told e =
      let w : b % 256 ≡ b = omega arith in
      let n : ((d / 128 % 2 * 128 * 256 + c / 128 % 2 * 128) * 256 + b) * 256 + a / 128 % 2 * 128 ≡ 256 * k =
      sym (ap₂ (λ (y z : ℕ). ((y * 256 + z) * 256 + b) * 256 + a / 128 % 2 * 128) (top_bit d) (top_bit c))
      ∙ sym (ap₂ (λ (y z : ℕ). ((bit_and d 128 * 256 + bit_and c 128) * 256 + y) * 256 + z) (and_mask b 8 ∙ w) (top_bit a))
      ∙ sym masked ∙ e in
      let q = parts (a / 128 % 2) b (c / 128 % 2) (d / 128 % 2) k (bit a) hb (bit c) (bit d) hk n in
      (low a ha q.0, q.1, low c hc q.2, low d hd q.3)

-- ---- many uses at once
mention-comm : (j k : ℕ) (u : List ℕ) → mention j (mention k u) ≡ mention k (mention j u)
unfolding mention
mention-comm j k u = go (eqb j k) refl
  where
    go : (t : Bool) → eqb j k ≡ t → mention j (mention k u) ≡ mention k (mention j u)
    go true e = rw (eqb-true j k e) refl
    go false e =
        let n = eqb-false j k e in
        ap (λ (x : ℕ). set (set u k (get_or u k 0 + 1)) j (x + 1)) (get_or-set_other u k j (get_or u k 0 + 1) 0 n)
        ∙ set_comm u k j (get_or u k 0 + 1) (get_or u j 0 + 1) (λ z. n (sym z))
        ∙ sym (ap (λ (x : ℕ). set (set u j (get_or u j 0 + 1)) k (x + 1)) (get_or-set_other u j k (get_or u j 0 + 1) 0 (λ z. n (sym z))))

times-comm : (n j k : ℕ) (u : List ℕ) → mention j (mention_times k n u) ≡ mention_times k n (mention j u)
unfolding mention_times
times-comm zero j k u = refl
times-comm (suc n) j k u = mention-comm j k (mention_times k n u) ∙ ap (mention k) (times-comm n j k u)

-- a pair more
pair-more : (n j k : ℕ) (u : List ℕ) → mention k (mention j (mention_times k n (mention_times j n u))) ≡ mention_times k (suc n) (mention_times j (suc n) u)
unfolding mention_times
pair-more n j k u = ap (mention k) (times-comm n j k (mention_times j n u))

pub times-most : (n k i : ℕ) (u : List ℕ) → get_or (mention_times k n u) i 0 ≤ get_or u i 0 + n
unfolding mention_times
times-most zero k i u = omega arith
times-most (suc n) k i u = let r = times-most n k i u in let m = mention-most k i (mention_times k n u) in omega arith

pub length-times : (n k : ℕ) (u : List ℕ) → length (mention_times k n u) ≡ length u
unfolding mention_times
length-times zero k u = refl
length-times (suc n) k u = length-mention k (mention_times k n u) ∙ length-times n k u

pub times_none : (n k : ℕ) (u : List ℕ) → length u ≤ k → u ≡ mention_times k n u
unfolding mention_times mention
times_none zero k u h = refl
times_none (suc n) k u h = times_none n k u h ∙ sym (set_out (mention_times k n u) k _ (omega (arith, length-times n k u)))

pub times-some : (n k : ℕ) (u : List ℕ) → k < length u → set u k (get_or u k 0 + n) ≡ mention_times k n u
unfolding mention_times mention
times-some zero k u h = ap (set u k) (let z : get_or u k 0 + 0 ≡ get_or u k 0 = omega arith in z) ∙ set-get_or u k 0
times-some (suc n) k u h =
    let r = times-some n k u h in
    ap (set u k) (let z : get_or u k 0 + suc n ≡ get_or u k 0 + n + 1 = omega arith in z)
    ∙ sym (set-set u k (get_or u k 0 + n) (get_or u k 0 + n + 1))
    ∙ ap (λ (x : ℕ). set (set u k (get_or u k 0 + n)) k (x + 1)) (sym (get_or-set_same u k (get_or u k 0 + n) 0 h))
    ∙ ap (λ (v : List ℕ). set v k (get_or v k 0 + 1)) r

-- ---- the test of an interval
module _ (s : List ℕ) (p k : ℕ) where
  pub no-five : IsFive s p k false
  no-five = record { name = λ t. clash cc; ends = λ t. clash cc }

  module _ (x : ℕ) (ex : x ≡ get_or s (p + 1) 0 + 256 * get_or s (p + 2) 0 + 65536 * get_or s (p + 3) 0 + 16777216 * get_or s (p + 4) 0)
      (hb : get_or s (p + 1) 0 < 256) (hc : get_or s (p + 2) 0 < 256) (hd : get_or s (p + 3) 0 < 256) (he : get_or s (p + 4) 0 < 256) (hk : k < 128) where
    pub some-five : 128 ≤ get_or s p 0 → IsFive s p k (eqb (bit_and x 2155937664) (256 * k))
    some-five a =
        record {
          name = λ t. let q = bytes t in ap (number_at s) (ends t).0 ∙ sym (number-one s (p + 2) (omega (arith, q.1))) ∙ q.1;
          ends = λ t. (ends t).1;
        }
      where
        bytes : eqb (bit_and x 2155937664) (256 * k) ≡ true → (get_or s (p + 1) 0 < 128) × (get_or s (p + 2) 0 ≡ k) × (get_or s (p + 3) 0 < 128) × (get_or s (p + 4) 0 < 128)
        bytes t = told _ _ _ _ k hb hc hd he hk (ap (λ (y : ℕ). bit_and y 2155937664) (sym ex) ∙ eqb-true _ _ t)

        ends : eqb (bit_and x 2155937664) (256 * k) ≡ true → (moment_end s p ≡ p + 2) × (interval_end s p ≡ p + 5)
        ends t = let q = bytes t in five-ends s p a q.0 (omega (arith, q.1)) q.2 q.3

-- ---- pairs, one more at a time
module _ (s : List ℕ) where
  pub pairs-none : (p j k : ℕ) → Pairs s p j k 0
  unfolding mention_times
  pairs-none p j k = record { ends = λ m. ends_at m; names = λ m u. names-at m u }
    where
      at_p : p + 10 * 0 ≡ p
      at_p = omega arith

      all-m : (m : ℕ) → 2 * 0 + m ≡ m
      all-m m = omega arith

      ends_at : (m : ℕ) → list_end s p (2 * 0 + m) ≡ list_end s (p + 10 * 0) m
      ends_at m = ap₂ (list_end s) (sym at_p) (all-m m)

      names-at : (m : ℕ) (u : List ℕ) → mention_all (list_names s p (2 * 0 + m)) u ≡ mention_all (list_names s (p + 10 * 0) m) u
      names-at m u = ap₂ (λ (q n : ℕ). mention_all (list_names s q n) u) (sym at_p) (all-m m)

  module _ (p j k n : ℕ) (h : Pairs s p j k n) where
    pub pairs-more : (q : ℕ) → q ≡ p + 10 * n → (r t : Bool) → IsFive s q j r → r ≡ true → IsFive s (q + 5) k t → t ≡ true → Pairs s p j k (suc n)
    unfolding mention_times list_end list_names mention_all
    pairs-more q e r t a hr b ht = record { ends = λ m. ends_at m; names = λ m u. names-at m u }
      where
        next : p + 10 * suc n ≡ q + 5 + 5
        next = omega arith

        more : (m : ℕ) → 2 * suc n + m ≡ 2 * n + suc (suc m)
        more m = omega arith

        two_ends : (m : ℕ) → list_end s q (suc (suc m)) ≡ list_end s (q + 5 + 5) m
        two_ends m = ap (λ (x : ℕ). list_end s x (suc m)) (a.ends hr) ∙ ap (λ (x : ℕ). list_end s x m) (b.ends ht)

        two-names : (m : ℕ) (u : List ℕ) → mention_all (list_names s q (suc (suc m))) u ≡ mention_all (list_names s (q + 5 + 5) m) (mention k (mention j u))
        two-names m u =
            ap₂ (λ (x y : ℕ). mention_all (list_names s y (suc m)) (mention x u)) (a.name hr) (a.ends hr)
            ∙ ap₂ (λ (x y : ℕ). mention_all (list_names s y m) (mention x (mention j u))) (b.name ht) (b.ends ht)

        ends_at : (m : ℕ) → list_end s p (2 * suc n + m) ≡ list_end s (p + 10 * suc n) m
        ends_at m = ap (list_end s p) (more m) ∙ h.ends (suc (suc m)) ∙ ap (λ (x : ℕ). list_end s x (suc (suc m))) (sym e) ∙ two_ends m ∙ ap (λ (x : ℕ). list_end s x m) (sym next)

        names-at : (m : ℕ) (u : List ℕ)
            → mention_all (list_names s p (2 * suc n + m)) u ≡ mention_all (list_names s (p + 10 * suc n) m) (mention_times k (suc n) (mention_times j (suc n) u))
        names-at m u =
            let v : List ℕ = mention_times k n (mention_times j n u) in
            ap (λ (x : ℕ). mention_all (list_names s p x) u) (more m) ∙ h.names (suc (suc m)) u
            ∙ ap (λ (x : ℕ). mention_all (list_names s x (suc (suc m))) v) (sym e) ∙ two-names m v
            ∙ ap₂ (λ (x : ℕ) (w : List ℕ). mention_all (list_names s x m) w) (sym next) (pair-more n j k u)

  -- in a loop that has so many left of n
  pub pairs_start : (p j k n : ℕ) → Pairs s p j k (n - n) × (p ≡ p + 10 * (n - n)) × (n ≤ n)
  pairs_start p j k n = let z : n - n ≡ 0 = omega arith in (rw z (pairs-none p j k), omega arith, omega arith)

  pub pairs_next : (p j k n q left : ℕ) → Pairs s p j k (n - left) × (q ≡ p + 10 * (n - left)) × (left ≤ n) → 0 < left → (r t : Bool)
      → IsFive s q j r → r ≡ true → IsFive s (q + 5) k t → t ≡ true → Pairs s p j k (n - (left - 1)) × (q + 10 ≡ p + 10 * (n - (left - 1))) × (left - 1 ≤ n)
  pairs_next p j k n q left h l r t a hr b ht =
      let e = h.1 in
      let m = h.2 in
      let z : n - (left - 1) ≡ suc (n - left) = omega arith in
      (rw z (pairs-more p j k (n - left) h.0 q e r t a hr b ht), omega arith, omega arith)

-- ---- a run of them behind others
module _ (s : List ℕ) (p n : ℕ) (u : List ℕ) (h : list_end s p n ≤ length s) (r : Room u (length s - p)) where
  module _ (j k c : ℕ) (q : Pairs s p j k c) (l : 2 * c ≤ n) (f : p + 10 * c ≤ length s) where
    pub pairs-room : get_or u j 0 + c ≤ 4294967295
    pairs-room = omega (arith, r.room j)

    pub pairs-room-2 : (w : List ℕ) → w ≡ mention_times j c u → get_or w k 0 + c ≤ 4294967295
    pairs-room-2 w e = rw e (omega (arith, r.room k, times-most c j k u))

    pub pairs-going : (w x : List ℕ) → w ≡ mention_times j c u → x ≡ mention_times k c w
        → Going s (mention_all (list_names s p n) u) (list_end s p n) (length u) (p + 10 * c) (n - 2 * c) x
    pairs-going w x ew ex =
        let z : 2 * c + (n - 2 * c) ≡ n = omega arith in
        let d : x ≡ mention_times k c (mention_times j c u) = ex ∙ ap (mention_times k c) ew in
        rw d (record {
          ends = sym (q.ends (n - 2 * c)) ∙ ap (list_end s p) z;
          same = sym (q.names (n - 2 * c) u) ∙ ap (λ (y : ℕ). mention_all (list_names s p y) u) z;
          all = length-times c k (mention_times j c u) ∙ length-times c j u;
          room = record { room = λ i. omega (arith, r.room i, times-most c k i (mention_times j c u), times-most c j i u) };
        })
