-- The ranges of what is read from fields 6 and 7. Assumes nothing.
use Rattle.std.specs.declared.option.Option.TheVariants.{Some}
use Rattle.std.specs.Prelude.{Ok}
use mathlib.Core.Path.{◌≡◌, refl}
use mathlib.Core.Bool.{true}
use mathlib.Core.List.{List, [], ◌∷◌}
use Prim.Native.Nat.{ℕ, zero, suc, ◌*◌, ◌≤◌}
use Rattle.base.specs.declared.Refusal.TheVariants.{BadLocation}
use Rattle.base.specs.All.{All, all_none, all-also}
use Rattle.base.specs.Parsed.{Parsed, got, bad, parse, ended, many, prepend}
use Rattle.base.proofs.AllLaws.{all_head, all_tail}
use Rattle.base.proofs.ParseLaws.{got-value, bind-good, pick_good, ended-good}
use Rattle.base.proofs.Tests.{by_order, never, clash}
use Rattle.counts.specs.Count.{read_count}
use Rattle.signed.specs.Zigzag.{unzigzag_of}
use Rattle.places.specs.Name.{read_zigzag, parse_name}
use Rattle.locations.specs.Content.{Location, within, judge_seconds, parse_seconds, parse_number, no_state, parse_countries, parse_texts}
use Rattle.locations.specs.Content.{parse_location, all_locations, parse_locations}
use Rattle.locations.specs.Find.{spot_of, numbered, sought_of}
use Rattle.locations.specs.Sound.{Ranged}
use Rattle.locations.specs.declared.LocationField.{LocationField}
use Rattle.locations.specs.declared.Spot.{Spot}
use Rattle.locations.proofs.ReadLaws.{within-no}

seconds-sound : (most : ℕ) (s : List ℕ) (v : ℕ) (r : List ℕ) → parse_seconds most s ≡ got v r → within most (unzigzag_of v) ≡ true
unfolding parse_seconds judge_seconds
seconds-sound most s v r e =
    let x = bind-good (parse read_zigzag s) (judge_seconds most) v r e in
    let y = pick_good (within most (unzigzag_of x.first)) (got x.first x.rest) BadLocation v r x.on in
    let z : x.first ≡ v = got-value y.1 in
    rw z at y.0

location-sound : (field : LocationField) (pool : ℕ) (s : List ℕ) (l : Location) (r : List ℕ) → parse_location field pool tt s ≡ got l r → Ranged l
unfolding parse_location parse_texts
location-sound field pool s l r e =
    let x = bind-good (parse_seconds 324000 s) _ l r e in
    let y = bind-good (parse_seconds 648000 x.rest) _ l r x.on in
    let z = bind-good (parse_number field y.rest) _ l r y.on in
    let a = bind-good (parse_countries pool z.first z.rest) _ l r z.on in
    let b = bind-good (parse_name pool a.rest) _ l r a.on in
    let c = bind-good (parse_name pool b.rest) _ l r b.on in
    let made = got-value c.on in
    rw (← made) (record { latitude-ok = seconds-sound 324000 s x.first x.rest x.is; longitude-ok = seconds-sound 648000 x.rest y.first y.rest y.is })

several-sound : (field : LocationField) (pool n : ℕ) (s : List ℕ) (ls : List Location) (r : List ℕ) → many (parse_location field pool) no_state n tt s ≡ got ls r
    → All Ranged ls
unfolding many
several-sound field pool zero s ls r e = let z : [] ≡ ls = got-value e in rw (← z) all_none
several-sound field pool (suc n) s ls r e =
    let x = bind-good (parse_location field pool tt s) _ ls r e in
    let y = bind-good (many (parse_location field pool) no_state n tt x.rest) (prepend x.first) ls r x.on in
    let z : x.first ∷ y.first ≡ ls = got-value y.on in
    rw (← z) (all-also (location-sound field pool s x.first x.rest x.is) (several-sound field pool n x.rest y.first y.rest y.is))

pub locations-sound : (field : LocationField) (pool : ℕ) (s : List ℕ) (ls : List Location) (r : List ℕ) → parse_locations field pool s ≡ got ls r → All Ranged ls
unfolding parse_locations all_locations
locations-sound field pool s ls r e =
    let x = bind-good (parse read_count s) (all_locations field pool) ls r e in
    let y = bind-good (many (parse_location field pool) no_state x.first tt x.rest) ended ls r x.on in
    let z = ended-good y.first ls y.rest r y.on in
    rw (← z.0) (several-sound field pool x.first x.rest y.first y.rest y.is)

-- the number of a value in range
within-most : (most v : ℕ) → within most (unzigzag_of v) ≡ true → v ≤ 2 * most
within-most most v h = by_order (2 * most) v (λ l. never h (within-no most v l)) (λ l. l)

numbered-sound : (s : List ℕ) (number : ℕ) (ls : List Location) (x : Spot) → All Ranged ls → Ok (Some x) ≡ numbered s number ls
    → (x.latitude ≤ 648000) × (x.longitude ≤ 1296000)
unfolding numbered
numbered-sound s number [] x a e = clash cc
numbered-sound s zero (l ∷ ls) x a e =
    let z : x ≡ spot_of s l = cc in
    rw z (within-most 324000 l.latitude (all_head a).latitude-ok, within-most 648000 l.longitude (all_head a).longitude-ok)
numbered-sound s (suc n) (l ∷ ls) x a e = numbered-sound s n ls x (all_tail a) e

pub sought-sound : (field : LocationField) (pool : ℕ) (s : List ℕ) (number : ℕ) (x : Spot) → Ok (Some x) ≡ sought_of s number (parse_locations field pool s)
    → (x.latitude ≤ 648000) × (x.longitude ≤ 1296000)
unfolding sought_of
sought-sound field pool s number x e = go (parse_locations field pool s) (locations-sound field pool s) e
  where
    go : (p : Parsed (List Location)) → ((ls : List Location) (r : List ℕ) → p ≡ got ls r → All Ranged ls) → Ok (Some x) ≡ sought_of s number p
        → (x.latitude ≤ 648000) × (x.longitude ≤ 1296000)
    go (got ls r) a e = numbered-sound s number ls x (a ls r refl) e
    go (bad k) a e = clash cc
