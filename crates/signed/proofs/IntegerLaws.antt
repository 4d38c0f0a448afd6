-- All of the integers' arithmetic, by cases on the sign. Assumes nothing.
use mathlib.Core.Path.{◌≡◌, refl, ap, ◌∙◌, subst⁻¹}
use mathlib.Core.Bool.{Bool, true, false}
use mathlib.Core.Logic.{◌⊎◌, inl, inr}
use Prim.Native.Nat.{ℕ, zero, suc, ◌+◌, ◌-◌, ◌*◌, ◌/◌, ◌%◌, ◌^◌, ◌≤◌, ◌<◌}
use native.Mathlib.Omega.{arith}
use lib.Dec.{ltb, leb, eqb}
use lib.IntN.{ℤ, pos, negsuc, sub_ℕ, ◌+ℤ◌, ◌-ℤ◌}
use lib.Signed.{lt_z}
use mir.Syntax.{w32, w64}
use mir.Val.{to_z, of_z, SFits}
use mir.Facts.{to_z-of_z, of_z-to_z, to_z_pos, Fits-of_z}
use borrow.Author.Tests.{lt-ltb, le-ltb, le-leb, lt-leb, eq-eqb, ne_eqb, ltb-true, ltb-false, leb-true, eqb-true, eqb-false}
use Rattle.base.specs.Pick.{pick}
use Rattle.base.specs.Moment.{Finite, epoch, end_of_time}
use Rattle.base.proofs.Tests.{by_order, never}
use Rattle.base.proofs.MomentLaws.{Moment}
use Rattle.signed.specs.Instant.{biased_of, instant_of, ticks_of, or_none, moment_of, from_raw, raw_of}
use Rattle.signed.specs.OffsetSum.{sum_of, milliseconds_of}
use Rattle.signed.specs.Zigzag.{unzigzag_of, zigzag_of}

-- a bias, over every range: below it, above it, and inside
module _ (bias low high : ℕ) where
  pub below : (t : ℤ) → lt_z t (negsuc low) ≡ true → 0 ≡ biased_of bias low high t
  unfolding biased_of
  below (pos n) e = never e refl
  below (negsuc n) e = rw (lt-leb n low (ltb-true low n e))

  pub above : (t : ℤ) → lt_z (pos high) t ≡ true → 0 ≡ biased_of bias low high t
  unfolding biased_of
  above (pos n) e = rw (lt-leb n high (ltb-true high n e))
  above (negsuc n) e = never e refl

  -- the sum is a natural number
  pub record Inside (t : ℤ) : Type 0 where
    pub at : ℕ
    pub sum : t +ℤ pos bias ≡ pos at
    pub some : bias ≤ at + suc low
    pub most : at ≤ high + bias
    pub is : at ≡ biased_of bias low high t

  pub inside : low < bias → (t : ℤ) → lt_z t (negsuc low) ≡ false → lt_z (pos high) t ≡ false → Inside t
  unfolding biased_of
  inside h (pos n) e f =
      let l : n ≤ high = ltb-false high n f in
      record { at = n + bias; sum = refl; some = omega arith; most = omega arith; is = rw (le-leb n high l) }
  inside h (negsuc n) e f =
      let l : n ≤ low = ltb-false low n e in
      record { at = bias - suc n; sum = rw (le-ltb bias (suc n) (omega arith)); some = omega arith; most = omega arith; is = rw (le-leb n low l) }

  -- what the machine holds after the sum
  pub sum-of : high + bias < 2 ^ 63 → (t : ℤ) → SFits w64 t → (i : Inside t)
      → to_z w64 (of_z w64 (to_z w64 (of_z w64 t) +ℤ pos bias)) ≡ pos i.at
  sum-of h t f i = rw (to_z-of_z f, i.sum) (to_z_pos w64 (omega (arith, i.most)))

  -- back, and there again
  pub biased-back : low < bias → (b : ℕ) → bias ≤ b + suc low → b ≤ high + bias → biased_of bias low high (sub_ℕ b bias) ≡ b
  unfolding biased_of
  biased-back h b l m = go (ltb b bias) refl
    where
      go : (t : Bool) → ltb b bias ≡ t → biased_of bias low high (sub_ℕ b bias) ≡ b
      go true e =
          let k : b < bias = ltb-true b bias e in
          rw (e, le-leb (bias - suc b) low (omega arith)) (omega arith)
      go false e =
          let k : bias ≤ b = ltb-false b bias e in
          rw (e, le-leb (b - bias) high (omega arith)) (omega arith)

  pub back-biased : low < bias → (t : ℤ) → 0 < biased_of bias low high t → sub_ℕ (biased_of bias low high t) bias ≡ t
  unfolding biased_of
  back-biased h (pos n) l = go (leb n high) l
    where
      go : (t : Bool) → 0 < pick t (n + bias) 0 → sub_ℕ (pick t (n + bias) 0) bias ≡ pos n
      go true k = rw (le-ltb (n + bias) bias (omega arith)) (ap pos (omega arith))
      go false k = absurd (omega arith)
  back-biased h (negsuc n) l = go (leb n low) refl l
    where
      go : (t : Bool) → leb n low ≡ t → 0 < pick t (bias - suc n) 0 → sub_ℕ (pick t (bias - suc n) 0) bias ≡ negsuc n
      go true e k =
          let j : n ≤ low = leb-true n low e in
          rw (lt-ltb (bias - suc n) bias (omega arith)) (ap negsuc (omega arith))
      go false e k = absurd (omega arith)

  -- in range, or 0
  pub record BiasedIn (b : ℕ) : Type 0 where
    pub least : bias ≤ b + suc low
    pub most : b ≤ high + bias

  pub biased-range : low < bias → (t : ℤ) → (biased_of bias low high t ≡ 0) ⊎ BiasedIn (biased_of bias low high t)
  unfolding biased_of
  biased-range h (pos n) = go (leb n high) refl
    where
      go : (t : Bool) → leb n high ≡ t → (pick t (n + bias) 0 ≡ 0) ⊎ BiasedIn (pick t (n + bias) 0)
      go true e = inr (record { least = omega arith; most = omega (arith, leb-true n high e) })
      go false e = inl refl
  biased-range h (negsuc n) = go (leb n low) refl
    where
      go : (t : Bool) → leb n low ≡ t → (pick t (bias - suc n) 0 ≡ 0) ⊎ BiasedIn (pick t (bias - suc n) 0)
      go true e = let l : n ≤ low = leb-true n low e in inr (record { least = omega arith; most = omega arith })
      go false e = inl refl

-- the difference as the machine has it
pub less-fits : (b bias : ℕ) → b < 2 ^ 63 → bias < 2 ^ 63 → SFits w64 (sub_ℕ b bias)
less-fits b bias h k = go (ltb b bias) refl
  where
    go : (t : Bool) → ltb b bias ≡ t → SFits w64 (sub_ℕ b bias)
    go true e = rw e (record { sfits = omega arith })
    go false e = rw e (record { sfits = omega arith })

pub less-is : (b bias : ℕ) → b < 2 ^ 63 → bias < 2 ^ 63 → 0 < bias → to_z w64 b -ℤ pos bias ≡ sub_ℕ b bias
less-is b (suc k) h k' l = rw (to_z_pos w64 {n = b} h)
less-is b zero h k l = absurd (omega arith)

-- instants: there and back both ways, and what an instant is
pub instant-ticks : (b : ℕ) → Finite b → instant_of (ticks_of b) ≡ b
instant-ticks b h =
    rw (ne_eqb b 0 (omega arith), lt-ltb b end_of_time (omega arith))
    (biased-back epoch 621355967999999999 2534023007999999999 (omega arith) b (omega arith) (omega arith))

finite-or-none : (t : ℤ) → (instant_of t ≡ 0) ⊎ Finite (instant_of t)
finite-or-none t = go (biased-range epoch 621355967999999999 2534023007999999999 (omega arith) t)
  where
    go : (instant_of t ≡ 0) ⊎ BiasedIn epoch 621355967999999999 2534023007999999999 (instant_of t) → (instant_of t ≡ 0) ⊎ Finite (instant_of t)
    go (inl e) = inl e
    go (inr r) = inr (record { low = omega arith; high = omega arith })

-- what is not 0 is an instant
pub instant-finite : (t : ℕ) (z : ℤ) → t ≡ instant_of z → (t ≡ 0 → ⊥) → Finite t
instant-finite t z e h = go (finite-or-none z)
  where
    go : (instant_of z ≡ 0) ⊎ Finite (instant_of z) → Finite t
    go (inl k) = absurd (h (e ∙ k))
    go (inr f) = subst⁻¹ Finite e f

pub ticks-instant : (t : ℤ) → Finite (instant_of t) → ticks_of (instant_of t) ≡ t
ticks-instant t h =
    rw (ne_eqb (instant_of t) 0 (omega arith), lt-ltb (instant_of t) end_of_time (omega arith))
    (back-biased epoch 621355967999999999 2534023007999999999 (omega arith) t (omega arith))

-- moments: the marks stand outside the instants' ticks
pub start-of : (t : ℤ) → SFits w64 t → lt_z t (negsuc 9223372036854775806) ≡ true → 0 ≡ moment_of t
unfolding moment_of
start-of (pos n) f e = never e refl
start-of (negsuc n) f e = rw (le-leb 9223372036854775807 n (omega (arith, ltb-true 9223372036854775806 n e)))

pub end-of : (t : ℤ) → lt_z (pos 9223372036854775806) t ≡ true → end_of_time ≡ moment_of t
unfolding moment_of
end-of (pos n) e = rw (le-leb 9223372036854775807 n (omega (arith, ltb-true 9223372036854775806 n e)))
end-of (negsuc n) e = never e refl

pub no-mark : (t : ℤ) → lt_z t (negsuc 9223372036854775806) ≡ false → lt_z (pos 9223372036854775806) t ≡ false → or_none (instant_of t) ≡ moment_of t
unfolding moment_of
no-mark (pos n) e f = rw (lt-leb 9223372036854775807 n (omega (arith, ltb-false 9223372036854775806 n f)))
no-mark (negsuc n) e f = rw (lt-leb 9223372036854775807 n (omega (arith, ltb-false 9223372036854775806 n e)))

pub moment-instant : (t : ℤ) → Finite (instant_of t) → moment_of t ≡ instant_of t
unfolding moment_of biased_of
moment-instant (pos n) h = go (leb n 2534023007999999999) refl h
  where
    go : (t : Bool) → leb n 2534023007999999999 ≡ t → Finite (pick t (n + epoch) 0)
        → pick (leb 9223372036854775807 n) end_of_time (or_none (pick t (n + epoch) 0)) ≡ pick t (n + epoch) 0
    go true e k =
        let l : n ≤ 2534023007999999999 = leb-true n 2534023007999999999 e in
        rw (lt-leb 9223372036854775807 n (omega arith), ne_eqb (n + epoch) 0 (omega arith))
    go false e k = absurd (omega arith)
moment-instant (negsuc n) h = go (leb n 621355967999999999) refl h
  where
    go : (t : Bool) → leb n 621355967999999999 ≡ t → Finite (pick t (epoch - suc n) 0)
        → pick (leb 9223372036854775807 n) 0 (or_none (pick t (epoch - suc n) 0)) ≡ pick t (epoch - suc n) 0
    go true e k =
        let l : n ≤ 621355967999999999 = leb-true n 621355967999999999 e in
        rw (lt-leb 9223372036854775807 n (omega arith), ne_eqb (epoch - suc n) 0 (omega arith))
    go false e k = absurd (omega arith)

pub moment-ticks : (m : ℕ) → Moment m → moment_of (ticks_of m) ≡ m
unfolding moment_of
moment-ticks m (inl e) = rw e
moment-ticks m (inr (inl e)) = rw e
moment-ticks m (inr (inr h)) =
    let e : instant_of (ticks_of m) ≡ m = instant-ticks m h in
    let f : Finite (instant_of (ticks_of m)) = rw e h in
    moment-instant (ticks_of m) f ∙ e

-- the number of eight bytes
pub raw-late : (n : ℕ) → n ≤ 2534023007999999999 → n + epoch ≡ from_raw n
unfolding biased_of
raw-late n h = rw (lt-ltb n (2 ^ 63) (omega arith), le-leb n 2534023007999999999 h)

pub raw-early : (n : ℕ) → n < 2 ^ 64 → 17825388105709551616 ≤ n → n - 17699160297709551616 ≡ from_raw n
unfolding biased_of
raw-early n f h = rw (le-ltb n (2 ^ 63) (omega arith), le-leb (2 ^ 64 - suc n) 621355967999999999 (omega arith)) (omega arith)

pub raw-out : (n : ℕ) → 2534023007999999999 < n → n < 17825388105709551616 → 0 ≡ from_raw n
unfolding biased_of
raw-out n h l =
    by_order n (2 ^ 63)
    (λ (k : n < 2 ^ 63). rw (lt-ltb n (2 ^ 63) k, lt-leb n 2534023007999999999 h))
    (λ (k : 2 ^ 63 ≤ n). rw (le-ltb n (2 ^ 63) k, lt-leb (2 ^ 64 - suc n) 621355967999999999 (omega arith)))

pub raw-before : (b : ℕ) → b < epoch → b + 17699160297709551616 ≡ raw_of b
raw-before b h = rw (lt-ltb b epoch h) (omega arith)

pub raw-after : (b : ℕ) → epoch ≤ b → b - epoch ≡ raw_of b
raw-after b h = rw (le-ltb b epoch h)

pub raw-fits : (b : ℕ) → Finite b → raw_of b < 2 ^ 64
raw-fits b h = (Fits-of_z (less-fits b epoch (omega arith) (omega arith))).fits

pub instant-raw : (b : ℕ) → Finite b → from_raw (raw_of b) ≡ b
instant-raw b h =
    rw (to_z-of_z (less-fits b epoch (omega arith) (omega arith)))
    (biased-back epoch 621355967999999999 2534023007999999999 (omega arith) b (omega arith) (omega arith))

pub raw-instant : (raw : ℕ) → raw < 2 ^ 64 → Finite (from_raw raw) → raw_of (from_raw raw) ≡ raw
raw-instant raw l h =
    ap (of_z w64) (back-biased epoch 621355967999999999 2534023007999999999 (omega arith) (to_z w64 raw) (omega arith))
    ∙ of_z-to_z {w = w64} (record { fits = l })

-- offsets: there and back both ways
pub sum-milliseconds : (sum : ℕ) → 1 ≤ sum → sum ≤ 172799999 → sum_of (milliseconds_of sum) ≡ sum
sum-milliseconds sum l h = biased-back 86400000 86399998 86399999 (omega arith) sum (omega arith) (omega arith)

pub milliseconds-sum : (z : ℤ) → 1 ≤ sum_of z → milliseconds_of (sum_of z) ≡ z
milliseconds-sum z h = back-biased 86400000 86399998 86399999 (omega arith) z h

pub sum-range : (z : ℤ) → sum_of z ≤ 172799999
sum-range z = go (biased-range 86400000 86399998 86399999 (omega arith) z)
  where
    go : (sum_of z ≡ 0) ⊎ BiasedIn 86400000 86399998 86399999 (sum_of z) → sum_of z ≤ 172799999
    go (inl e) = omega arith
    go (inr r) = omega arith

-- the signed count's map
minus_one : (h : ℕ) → negsuc 0 -ℤ pos h ≡ negsuc h
minus_one zero = refl
minus_one (suc h) = ap negsuc (omega arith)

half_of : (u : ℕ) → u < 2 ^ 64 → to_z w64 (u / 2) ≡ pos (u / 2)
half_of u h = to_z_pos w64 {n = u / 2} (omega arith)

pub even : (u : ℕ) → u < 2 ^ 64 → u % 2 ≡ 0 → to_z w64 (u / 2) ≡ unzigzag_of u
unfolding unzigzag_of
even u h e = rw (half_of u h, eq-eqb (u % 2) 0 e)

pub odd-fits : (u : ℕ) → u < 2 ^ 64 → SFits w64 (negsuc 0 -ℤ to_z w64 (u / 2))
odd-fits u h = rw (half_of u h, minus_one (u / 2)) (record { sfits = omega arith })

pub odd : (u : ℕ) → u < 2 ^ 64 → (u % 2 ≡ 0 → ⊥) → to_z w64 (of_z w64 (negsuc 0 -ℤ to_z w64 (u / 2))) ≡ unzigzag_of u
unfolding unzigzag_of
odd u h e = rw (to_z-of_z (odd-fits u h), half_of u h, minus_one (u / 2), ne_eqb (u % 2) 0 e)

pub zigzag-below : (v : ℤ) → lt_z v (negsuc 2147483647) ≡ true → 4294967296 ≡ zigzag_of v
unfolding zigzag_of
zigzag-below (pos n) e = never e refl
zigzag-below (negsuc n) e = rw (lt-leb n 2147483647 (ltb-true 2147483647 n e))

pub zigzag-above : (v : ℤ) → lt_z (pos 2147483647) v ≡ true → 4294967296 ≡ zigzag_of v
unfolding zigzag_of
zigzag-above (pos n) e = rw (lt-leb n 2147483647 (ltb-true 2147483647 n e))
zigzag-above (negsuc n) e = never e refl

-- the number n of a value below 0, and of one that is not
pub record Negative (v : ℤ) : Type 0 where
  pub at : ℕ
  pub minus : negsuc 0 -ℤ v ≡ pos at
  pub small : at ≤ 2147483647
  pub is : at * 2 + 1 ≡ zigzag_of v

pub negative : (v : ℤ) → lt_z v (negsuc 2147483647) ≡ false → lt_z v (pos 0) ≡ true → Negative v
unfolding zigzag_of
negative (pos n) e f = absurd (omega (arith, ltb-true n 0 f))
negative (negsuc n) e f =
    let l : n ≤ 2147483647 = ltb-false 2147483647 n e in
    record { at = n; minus = rw (le-ltb (suc n) 1 (omega arith)) (ap pos (omega arith)); small = l; is = rw (le-leb n 2147483647 l) }

pub minus-of : (v : ℤ) → SFits w64 v → (i : Negative v) → to_z w64 (of_z w64 (negsuc 0 -ℤ to_z w64 (of_z w64 v))) ≡ pos i.at
minus-of v h i = rw (to_z-of_z h, i.minus) (to_z_pos w64 (omega (arith, i.small)))

pub record Natural (v : ℤ) : Type 0 where
  pub at : ℕ
  pub same : v ≡ pos at
  pub small : at ≤ 2147483647
  pub is : at * 2 ≡ zigzag_of v

pub natural : (v : ℤ) → lt_z (pos 2147483647) v ≡ false → lt_z v (pos 0) ≡ false → Natural v
unfolding zigzag_of
natural (pos n) e f =
    let l : n ≤ 2147483647 = ltb-false 2147483647 n e in
    record { at = n; same = refl; small = l; is = rw (le-leb n 2147483647 l) }
natural (negsuc n) e f = never refl f

pub unzigzag-zigzag : (z : ℤ) → zigzag_of z < 4294967296 → unzigzag_of (zigzag_of z) ≡ z
unfolding unzigzag_of zigzag_of
unzigzag-zigzag (pos n) h = go (leb n 2147483647) h
  where
    go : (t : Bool) → pick t (n * 2) 4294967296 < 4294967296 → unzigzag_of (pick t (n * 2) 4294967296) ≡ pos n
    go true l = rw (eq-eqb (n * 2 % 2) 0 (omega arith)) (ap pos (omega arith))
    go false l = absurd (omega arith)
unzigzag-zigzag (negsuc n) h = go (leb n 2147483647) h
  where
    go : (t : Bool) → pick t (n * 2 + 1) 4294967296 < 4294967296 → unzigzag_of (pick t (n * 2 + 1) 4294967296) ≡ negsuc n
    go true l = rw (ne_eqb ((n * 2 + 1) % 2) 0 (omega arith)) (ap negsuc (omega arith))
    go false l = absurd (omega arith)

pub zigzag-unzigzag : (u : ℕ) → u < 4294967296 → zigzag_of (unzigzag_of u) ≡ u
unfolding unzigzag_of zigzag_of
zigzag-unzigzag u h = go (eqb (u % 2) 0) refl
  where
    go : (t : Bool) → eqb (u % 2) 0 ≡ t → zigzag_of (pick t (pos (u / 2)) (negsuc (u / 2))) ≡ u
    go true e = rw (le-leb (u / 2) 2147483647 (omega arith)) (omega (arith, eqb-true (u % 2) 0 e))
    go false e = let n : u % 2 ≡ 0 → ⊥ = eqb-false (u % 2) 0 e in rw (le-leb (u / 2) 2147483647 (omega arith)) (omega arith)

-- the map carries exactly the 32-bit values
pub zigzag-fits : (z : ℤ) → SFits w32 z → zigzag_of z < 4294967296
unfolding zigzag_of
zigzag-fits (pos n) h = rw (le-leb n 2147483647 (omega arith)) (omega arith)
zigzag-fits (negsuc n) h = rw (le-leb n 2147483647 (omega arith)) (omega arith)

pub unzigzag-fits : (u : ℕ) → u < 4294967296 → SFits w32 (unzigzag_of u)
unfolding unzigzag_of
unzigzag-fits u h = go (eqb (u % 2) 0)
  where
    go : (t : Bool) → SFits w32 (pick t (pos (u / 2)) (negsuc (u / 2)))
    go true = record { sfits = omega arith }
    go false = record { sfits = omega arith }

-- a 64-bit tick that is a moment comes back from it
ticks-or-none : (z : ℤ) → Moment (or_none (instant_of z)) → ticks_of (or_none (instant_of z)) ≡ z
ticks-or-none z h = go (eqb (instant_of z) 0) refl h
  where
    go : (x : Bool) → eqb (instant_of z) 0 ≡ x → Moment (pick x 1 (instant_of z)) → ticks_of (pick x 1 (instant_of z)) ≡ z
    go true e (inl k) = absurd (omega arith)
    go true e (inr (inl k)) = absurd (omega arith)
    go true e (inr (inr k)) = absurd (omega arith)
    go false e m = some (finite-or-none z)
      where
        some : (instant_of z ≡ 0) ⊎ Finite (instant_of z) → ticks_of (instant_of z) ≡ z
        some (inl k) = absurd (eqb-false (instant_of z) 0 e k)
        some (inr f) = ticks-instant z f

pub ticks-moment : (z : ℤ) → SFits w64 z → Moment (moment_of z) → ticks_of (moment_of z) ≡ z
unfolding moment_of
ticks-moment (pos n) f h = go (leb 9223372036854775807 n) refl h
  where
    go : (x : Bool) → leb 9223372036854775807 n ≡ x → Moment (pick x end_of_time (or_none (instant_of (pos n))))
        → ticks_of (pick x end_of_time (or_none (instant_of (pos n)))) ≡ pos n
    go true e m = ap pos (omega (arith, leb-true 9223372036854775807 n e))
    go false e m = ticks-or-none (pos n) m
ticks-moment (negsuc n) f h = go (leb 9223372036854775807 n) refl h
  where
    go : (x : Bool) → leb 9223372036854775807 n ≡ x → Moment (pick x 0 (or_none (instant_of (negsuc n))))
        → ticks_of (pick x 0 (or_none (instant_of (negsuc n)))) ≡ negsuc n
    go true e m = ap negsuc (omega (arith, leb-true 9223372036854775807 n e))
    go false e m = ticks-or-none (negsuc n) m
