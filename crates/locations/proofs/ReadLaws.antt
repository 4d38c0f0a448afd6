-- Each way out of the readers of a location. Assumes nothing.
use Rattle.base.specs.declared.Refusal.TheVariants.{BadLocation}
use Rattle.base.specs.declared.Refusal.{Refusal}
use mathlib.Core.Path.{◌≡◌, refl, sym, ap, ◌∙◌}
use mathlib.Core.Bool.{Bool, true, false}
use mathlib.Core.List.{List, [], ◌∷◌, ◌++◌}
use Prim.Native.Nat.{ℕ, suc, ◌-◌, ◌*◌, ◌/◌, ◌%◌, ◌≤◌, ◌<◌}
use native.Mathlib.Omega.{arith}
use lib.ListN.{length, drop, length-drop}
use lib.Dec.{eqb}
use lib.IntN.{pos, negsuc}
use borrow.Author.Tests.{le-leb, lt-leb, eq-eqb, ne_eqb, eqb-true, eqb-false}
use Rattle.base.specs.Parsed.{Parsed, got, bad, bind, parse}
use Rattle.base.proofs.ParseLaws.{bad-got, got-value, got-rest}
use Rattle.base.proofs.ManyLaws.{Going, going_start, going-bad, going_next, going_done}
use Rattle.signed.specs.Zigzag.{unzigzag_of}
use Rattle.places.specs.Name.{read_zigzag}
use Rattle.places.specs.Placed.{Placed, at, no, Stands}
use Rattle.places.proofs.PlaceLaws.{here, refuse, then-got, then-bad}
use Rattle.locations.specs.Content.{Location, within, judge_seconds, not_negative, judge_number, parse_number, parse_country, no_state, parse_countries}
use Rattle.locations.specs.Find.{how_many, spots_of}
use Rattle.locations.specs.declared.Country.{Country}
use Rattle.locations.specs.declared.Spot.{Spot}
use Rattle.locations.specs.declared.LocationField.{LocationField}
use Rattle.locations.specs.declared.LocationField.TheVariants.{Zone, Zone1970}

-- a signed count's number and its value
pub unzigzag-even : (v : ℕ) → v % 2 ≡ 0 → unzigzag_of v ≡ pos (v / 2)
unfolding unzigzag_of
unzigzag-even v h = rw (eq-eqb (v % 2) 0 h)

pub unzigzag-odd : (v : ℕ) → (v % 2 ≡ 0 → ⊥) → unzigzag_of v ≡ negsuc (v / 2)
unfolding unzigzag_of
unzigzag-odd v h = rw (ne_eqb (v % 2) 0 h)

-- the range of the value by the number
pub within-yes : (most v : ℕ) → v ≤ 2 * most → within most (unzigzag_of v) ≡ true
unfolding within
within-yes most v h = go (eqb (v % 2) 0) refl
  where
    go : (t : Bool) → eqb (v % 2) 0 ≡ t → within most (unzigzag_of v) ≡ true
    go true e = let z : v % 2 ≡ 0 = eqb-true (v % 2) 0 e in rw (unzigzag-even v z) (le-leb (v / 2) most (omega arith))
    go false e =
        let z : v % 2 ≡ 0 → ⊥ = eqb-false (v % 2) 0 e in
        rw (unzigzag-odd v z) (le-leb (suc (v / 2)) most (omega (arith, z)))

pub within-no : (most v : ℕ) → 2 * most < v → within most (unzigzag_of v) ≡ false
unfolding within
within-no most v h = go (eqb (v % 2) 0) refl
  where
    go : (t : Bool) → eqb (v % 2) 0 ≡ t → within most (unzigzag_of v) ≡ false
    go true e = let z : v % 2 ≡ 0 = eqb-true (v % 2) 0 e in rw (unzigzag-even v z) (lt-leb (v / 2) most (omega arith))
    go false e =
        let z : v % 2 ≡ 0 → ⊥ = eqb-false (v % 2) 0 e in
        rw (unzigzag-odd v z) (lt-leb (suc (v / 2)) most (omega (arith, z)))

module _ (s : List ℕ) (v : ℕ) where
  pub seconds-in : (most e : ℕ) → v ≤ 2 * most → e ≤ length s → Stands s (judge_seconds most v (drop e s)) (at v e)
  unfolding judge_seconds
  seconds-in most e h w = rw (within-yes most v h) (here s v v e refl w)

  pub seconds-out : (most : ℕ) (r : List ℕ) → 2 * most < v → Stands s (judge_seconds most v r) (no BadLocation)
  unfolding judge_seconds
  seconds-out most r h = rw (within-no most v h) (refuse s BadLocation)

  pub number-in : (e : ℕ) → v % 2 ≡ 0 → e ≤ length s → Stands s (judge_number v (drop e s)) (at (v / 2) e)
  unfolding judge_number not_negative
  number-in e h w = rw (unzigzag-even v h) (here s (v / 2) (v / 2) e refl w)

  pub number-out : (r : List ℕ) → (v % 2 ≡ 0 → ⊥) → Stands s (judge_number v r) (no BadLocation)
  unfolding judge_number not_negative
  number-out r h = rw (unzigzag-odd v h) (refuse s BadLocation)

pub number-one : (f : LocationField) (s : List ℕ) (p : ℕ) → f ≡ Zone → p ≤ length s → Stands s (parse_number f (drop p s)) (at 1 p)
unfolding parse_number
number-one f s p q w = rw q (here s 1 1 p refl w)

pub number_read : (f : LocationField) (s r : List ℕ) (x : Placed ℕ) → f ≡ Zone1970
    → Stands s (bind (parse read_zigzag r) judge_number) x → Stands s (parse_number f r) x
unfolding parse_number
number_read f s r x q h = rw q h

-- Where the loop over the countries stands: `left` of n are still to be read, from `place` on.
module _ (pool : ℕ) (s : List ℕ) (from n : ℕ) where
  abbrev whole : Parsed ℕ
  whole = how_many (parse_countries pool n (drop from s))

  pub record Counting (left place : ℕ) : Type 0 where
    pub pre : List Country
    pub going : Going (parse_country pool) no_state whole (λ cs r. got (length cs) r) s tt n left place tt pre

  pub counting-start : from ≤ length s → Counting n from
  unfolding parse_countries how_many
  counting-start h = record { pre = []; going = going_start _ _ _ _ s _ n from h refl }

  module _ (left place : ℕ) (g : Counting left place) where
    pub counting-in : place ≤ length s
    counting-in = g.going.place

    module _ (h : 0 < left) where
      pub counting-bad : (k : Refusal) → Stands s (parse_country pool tt (drop place s)) (no k) → Stands s whole (no k)
      counting-bad k b = record { means = going-bad _ _ _ _ s _ n left place tt g.pre k g.going h b.means; within = tt }

      pub counting-next : (c : Country) (e : ℕ) → Stands s (parse_country pool tt (drop place s)) (at c e) → Counting (left - 1) e
      counting-next c e b = record {
        pre = g.pre ++ (c ∷ []);
        going = going_next _ _ _ _ s _ n left place tt g.pre c e g.going h b.means b.within;
      }

    pub counting-done : left ≡ 0 → Stands s whole (at n place)
    counting-done h =
        let m : length g.pre ≡ n = omega (arith, g.going.count) in
        record {
          means = going_done _ _ _ _ s _ n left place tt g.pre g.going h ∙ ap (λ (j : ℕ). got j (drop place s)) m;
          within = g.going.place;
        }

-- what was counted
counted : (p : Parsed (List Country)) (m : ℕ) (r : List ℕ) → how_many p ≡ got m r → (cs : List Country) × (p ≡ got cs r) × (length cs ≡ m)
unfolding how_many
counted (got cs q) m r e = (cs, ap (got cs) (got-rest e), got-value e)
counted (bad k) m r e = bad-got e

-- a row of readers that ends in a location, as the code has it
module _ {A : Type 0} {s : List ℕ} {p : Parsed A} {x : Placed A} (h : Stands s p x) (k : A → List ℕ → Parsed Location) where
  pub on-spot : (a : A) (e : ℕ) (y : Placed Spot) → x ≡ at a e → Stands s (spots_of s (k a (drop e s))) y → Stands s (spots_of s (bind p k)) y
  on-spot a e y f g = rw (then-got h k a e f) g

  pub off-spot : (n : Refusal) → x ≡ no n → Stands s (spots_of s (bind p k)) (no n)
  unfolding spots_of
  off-spot n f = record { means = rw (then-bad h k n f); within = tt }

-- the same behind countries of which their number is known
module _ {s : List ℕ} (p : Parsed (List Country)) {x : Placed ℕ} (h : Stands s (how_many p) x) (k : List Country → List ℕ → Parsed Location) where
  pub off-counted : (n : Refusal) → x ≡ no n → Stands s (spots_of s (bind p k)) (no n)
  unfolding spots_of how_many
  off-counted n f = go p (h.means ∙ rw f)
    where
      go : (p : Parsed (List Country)) → how_many p ≡ bad n → Stands s (spots_of s (bind p k)) (no n)
      go (got cs r) e = bad-got (sym e)
      go (bad j) e = let z : j ≡ n = cc in record { means = ap bad z; within = tt }

  pub on-counted : (m e : ℕ) (y : Placed Spot) → x ≡ at m e → ((cs : List Country) → length cs ≡ m → Stands s (spots_of s (k cs (drop e s))) y)
      → Stands s (spots_of s (bind p k)) y
  on-counted m e y f g =
      let c = counted p m (drop e s) (h.means ∙ rw f) in
      rw c.1 (g c.0 c.2)

-- a location's countries stand where they were read
pub spot-here : (s : List ℕ) (latitude longitude p m zone comment e : ℕ) (cs : List Country) → p ≤ length s → length cs ≡ m → e ≤ length s
    → Stands s (spots_of s (got (record { latitude = latitude; longitude = longitude; countries = cs; zone = zone; comment = comment; behind = drop p s }) (drop e s)))
    (at (record { latitude = latitude; longitude = longitude; at = p; left = m; zone = zone; comment = comment }) e)
unfolding spots_of
spot-here s latitude longitude p m zone comment e cs w c v =
    let q : length s - length (drop p s) ≡ p = rw length-drop (omega arith) in
    record { means = rw (q, c); within = v }
