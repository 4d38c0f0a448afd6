-- The walk over the locations of a field. Assumes nothing.
use Rattle.base.specs.declared.Refusal.{Refusal}
use Rattle.std.specs.declared.option.Option.{Option}
use Rattle.std.specs.declared.option.Option.TheVariants.{None, Some}
use Rattle.std.specs.Prelude.{Err, Ok, Result}
use Rattle.base.specs.declared.Refusal.TheVariants.{BadData}
use mathlib.Core.Path.{◌≡◌, refl, sym, ap, ◌∙◌}
use mathlib.Core.Bool.{Bool, true, false}
use mathlib.Core.List.{List, [], ◌∷◌, ◌++◌}
use Prim.Native.Nat.{ℕ, zero, suc, ◌+◌, ◌-◌, ◌≤◌, ◌<◌}
use native.Mathlib.Omega.{arith}
use lib.ListN.{length, drop, length-append}
use lib.Dec.{eqb}
use borrow.Author.Tests.{eq-eqb, ne_eqb, eqb-true, eqb-false}
use Rattle.base.specs.Pick.{pick}
use Rattle.base.specs.Parsed.{Parsed, got, bad, parse, ended, many}
use Rattle.counts.specs.Count.{read_count}
use Rattle.base.proofs.ParseLaws.{bad-got, got-value, got-rest, bind-good, ended-good}
use Rattle.base.proofs.ManyLaws.{Going, going_start, going-bad, going_next, going_done}
use Rattle.places.specs.Placed.{at, no, Stands}
use Rattle.places.proofs.PlaceLaws.{ended_here, ended-over}
use Rattle.locations.specs.Content.{Location, no_state, parse_location, all_locations, parse_locations}
use Rattle.locations.specs.Find.{spot_of, numbered, sought_of, verdict_of, spots_of, kept_by}
use Rattle.locations.specs.declared.Spot.{Spot}
use Rattle.locations.specs.declared.LocationField.{LocationField}
use Rattle.base.proofs.Tests.{clash}

eqb-suc : (a b : ℕ) → eqb a b ≡ eqb (suc a) (suc b)
eqb-suc a b = go (eqb a b) refl
  where
    go : (t : Bool) → eqb a b ≡ t → t ≡ eqb (suc a) (suc b)
    go true e = let z : a ≡ b = eqb-true a b e in sym (eq-eqb (suc a) (suc b) (ap suc z))
    go false e = let z : a ≡ b → ⊥ = eqb-false a b e in sym (ne_eqb (suc a) (suc b) (λ q. z (omega arith)))

-- one location more
pub numbered-snoc : (s : List ℕ) (number : ℕ) (pre : List Location) (l : Location)
    → numbered s number (pre ++ (l ∷ [])) ≡ kept_by number (length pre) (spot_of s l) (numbered s number pre)
unfolding numbered
numbered-snoc s zero [] l = refl
numbered-snoc s (suc n) [] l = rw (ne_eqb 0 (suc n) (λ e. omega arith))
numbered-snoc s zero (m ∷ pre) l = rw (ne_eqb (suc (length pre)) 0 (λ e. omega arith))
numbered-snoc s (suc n) (m ∷ pre) l = numbered-snoc s n pre l ∙ ap (λ (t : Bool). pick t (Ok (Some (spot_of s l))) (numbered s n pre)) (eqb-suc (length pre) n)

spot-bad : (s : List ℕ) (p : Parsed Location) (k : Refusal) → spots_of s p ≡ bad k → p ≡ bad k
unfolding spots_of
spot-bad s (got l r) k e = bad-got (sym e)
spot-bad s (bad j) k e = let z : j ≡ k = cc in ap bad z

spot-got : (s : List ℕ) (p : Parsed Location) (x : Spot) (r : List ℕ) → spots_of s p ≡ got x r → (l : Location) × (p ≡ got l r) × (spot_of s l ≡ x)
unfolding spots_of
spot-got s (got l q) x r e = (l, ap (got l) (got-rest e), got-value e)
spot-got s (bad j) x r e = bad-got e

module _ (field : LocationField) (pool : ℕ) (s : List ℕ) (from n number : ℕ) where
  abbrev whole : Parsed (List Location)
  whole = all_locations field pool n (drop from s)

  -- i of n locations are read, up to `place`, and `found` is kept of them
  pub record Seeking (i place : ℕ) (found : Result (Option Spot) Refusal) : Type 0 where
    pub pre : List Location
    pub going : Going (parse_location field pool) no_state whole ended s tt n (n - i) place tt pre
    pub count : length pre ≡ i
    pub keeps : found ≡ numbered s number pre

  pub seeking-start : from ≤ length s → Seeking 0 from (Ok None)
  unfolding all_locations numbered
  seeking-start h =
      let z : n - 0 ≡ n = omega arith in
      record { pre = []; going = rw z (going_start _ _ _ _ s _ n from h refl); count = refl; keeps = refl }

  module _ (i place : ℕ) (found : Result (Option Spot) Refusal) (g : Seeking i place found) where
    pub seeking-in : place ≤ length s
    seeking-in = g.going.place

    module _ (h : i < n) where
      pub seeking-bad : (k : Refusal) → Stands s (spots_of s (parse_location field pool tt (drop place s))) (no k) → Err k ≡ sought_of s number whole
      unfolding sought_of
      seeking-bad k b =
          rw (going-bad _ _ _ _ s _ n (n - i) place tt g.pre k g.going (omega arith) (spot-bad s _ k b.means))

      pub seeking-next : (x : Spot) (e : ℕ) → Stands s (spots_of s (parse_location field pool tt (drop place s))) (at x e)
          → Seeking (i + 1) e (kept_by number i x found)
      seeking-next x e b =
          let l = spot-got s (parse_location field pool tt (drop place s)) x (drop e s) b.means in
          let z : n - i - 1 ≡ n - (i + 1) = omega arith in
          let q : kept_by number i x found ≡ kept_by number (length g.pre) (spot_of s l.0) (numbered s number g.pre) = rw (g.count, l.2, g.keeps) in
          record {
            pre = g.pre ++ (l.0 ∷ []);
            going = rw (← z) (going_next _ _ _ _ s _ n (n - i) place tt g.pre l.0 e g.going (omega arith) l.1 b.within);
            count = rw (length-append g.pre (l.0 ∷ [])) (omega (arith, g.count));
            keeps = q ∙ sym (numbered-snoc s number g.pre l.0);
          }

    module _ (h : n ≤ i) where
      done : whole ≡ ended g.pre (drop place s)
      done = going_done _ _ _ _ s _ n (n - i) place tt g.pre g.going (omega arith)

      pub seeking-over : place < length s → Err BadData ≡ sought_of s number whole
      unfolding sought_of
      seeking-over l = rw (done, ended-over g.pre s place l)

      pub seeking-done : length s ≤ place → found ≡ sought_of s number whole
      unfolding sought_of
      seeking-done l = rw (done, ended_here g.pre s place l) g.keeps

-- a field that is taken is read to its end
pub locations-end : (field : LocationField) (pool : ℕ) (s : List ℕ) (ls : List Location) (r : List ℕ) → parse_locations field pool s ≡ got ls r → r ≡ []
unfolding parse_locations all_locations
locations-end field pool s ls r e =
    let x = bind-good (parse read_count s) (all_locations field pool) ls r e in
    let y = bind-good (many (parse_location field pool) no_state x.first tt x.rest) ended ls r x.on in
    (ended-good y.first ls y.rest r y.on).2

-- the check, by what asking for any location gives
module _ (s : List ℕ) (number : ℕ) (p : Parsed (List Location)) where
  numbered-never : (k : Refusal) (n : ℕ) (ls : List Location) → Err k ≡ numbered s n ls → ⊥
  unfolding numbered
  numbered-never k n [] e = clash cc
  numbered-never k zero (l ∷ ls) e = clash cc
  numbered-never k (suc n) (l ∷ ls) e = numbered-never k n ls e

  pub verdict-ill : (k : Refusal) → Err k ≡ sought_of s number p → Err k ≡ verdict_of p
  unfolding sought_of verdict_of
  verdict-ill k e = go p e
    where
      go : (p : Parsed (List Location)) → Err k ≡ sought_of s number p → Err k ≡ verdict_of p
      go (got ls r) e = absurd (numbered-never k number ls e)
      go (bad j) e = let z : k ≡ j = cc in ap Err z

  pub verdict-here : (x : Spot) → Ok (Some x) ≡ sought_of s number p → Ok tt ≡ verdict_of p
  unfolding sought_of verdict_of
  verdict-here x e = go p e
    where
      go : (p : Parsed (List Location)) → Ok (Some x) ≡ sought_of s number p → Ok tt ≡ verdict_of p
      go (got ls r) e = refl
      go (bad j) e = clash cc

  pub verdict-beyond : Ok None ≡ sought_of s number p → Ok tt ≡ verdict_of p
  unfolding sought_of verdict_of
  verdict-beyond e = go p e
    where
      go : (p : Parsed (List Location)) → Ok None ≡ sought_of s number p → Ok tt ≡ verdict_of p
      go (got ls r) e = refl
      go (bad j) e = clash cc

-- by what was read first
module _ (s : List ℕ) (number : ℕ) (p : Parsed (List Location)) where
  pub sought-bad : (k : Refusal) → p ≡ bad k → Err k ≡ sought_of s number p
  unfolding sought_of
  sought-bad k e = rw e

  pub sought-on : (q : Parsed (List Location)) (r : Result (Option Spot) Refusal) → p ≡ q → r ≡ sought_of s number q → r ≡ sought_of s number p
  sought-on q r e h = h ∙ ap (sought_of s number) (sym e)
