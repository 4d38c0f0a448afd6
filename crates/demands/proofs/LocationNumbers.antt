-- The numbers with which fields 6 and 7 are refused: 7 to 9, or 20. Assumes nothing.
use Rattle.std.specs.Prelude.{Err, Ok}
use Rattle.base.specs.Coded.{Coded}
use Rattle.base.specs.Refusals.{refusal_number}
use Rattle.base.specs.declared.Refusal.{Refusal}
use Rattle.base.specs.declared.Refusal.TheVariants.{BadCode, BadData, BadLocation, BadText}
use mathlib.Core.Path.{◌≡◌, refl, sym}
use mathlib.Core.Bool.{Bool, true, false}
use mathlib.Core.List.{List, [], ◌∷◌}
use mathlib.Core.Logic.{◌⊎◌, inl, inr}
use Prim.Native.Nat.{ℕ, zero, suc}
use native.Mathlib.Omega.{arith}
use lib.Dec.{ltb}
use lib.IntN.{ℤ, pos, negsuc}
use Rattle.base.specs.Pick.{pick}
use Rattle.base.specs.Parsed.{Parsed, got, bad, bind, behind_code, parse, ended, prepend, many}
use Rattle.counts.specs.Count.{read_count}
use Rattle.counts.specs.Groups.{read_groups}
use Rattle.counts.proofs.ShortestLaws.{group-refused}
use Rattle.signed.specs.Zigzag.{unzigzag_of}
use Rattle.places.specs.Name.{read_zigzag, judge_name, parse_name}
use Rattle.locations.specs.Content.{within, judge_seconds, parse_seconds, not_negative, judge_number, parse_number, parse_country, no_state, parse_countries, parse_texts}
use Rattle.locations.specs.Content.{parse_location, all_locations, parse_locations}
use Rattle.locations.specs.declared.LocationField.{LocationField}
use Rattle.locations.specs.declared.LocationField.TheVariants.{Zone, Zone1970}
use Rattle.demands.specs.Numbers.{OfLocations, misread, out_of_range}

abbrev pub Located : {A : Type 0} → Parsed A → Type 0
Located (got a r) = Unit {0}
Located (bad n) = OfLocations (refusal_number n)

nine : OfLocations 9
nine = misread (omega arith) (omega arith)

row : {A B : Type 0} (p : Parsed A) (k : A → List ℕ → Parsed B) → Located p → ((a : A) (r : List ℕ) → Located (k a r)) → Located (bind p k)
row (got a r) k h f = f a r
row (bad n) k h f = h

either : {A : Type 0} (t : Bool) (x y : Parsed A) → Located x → Located y → Located (pick t x y)
either true x y h k = h
either false x y h k = k

code : (k top : ℕ) (s : List ℕ) → Located (parse (read_groups k top) s)
code k top s = go (read_groups k top s) refl
  where
    of : (n : Refusal) → (n ≡ BadCode) ⊎ (n ≡ BadData) → OfLocations (refusal_number n)
    of n (inl e) = rw e (misread (omega arith) (omega arith))
    of n (inr e) = rw e nine

    go : (r : Coded ℕ) → read_groups k top s ≡ r → Located (behind_code s r)
    go (Ok (v, n)) e = tt
    go (Err j) e = of j (group-refused k top s (sym e))

name : (pool : ℕ) (s : List ℕ) → Located (parse_name pool s)
unfolding parse_name judge_name
name pool s = row (parse read_count s) (judge_name pool) (code 4 7 s) (λ n r. either (ltb n pool) (got n r) (bad BadText) tt (misread (omega arith) (omega arith)))

seconds : (most : ℕ) (s : List ℕ) → Located (parse_seconds most s)
unfolding parse_seconds judge_seconds
seconds most s =
    row (parse read_zigzag s) (judge_seconds most) (code 4 15 s) (λ v r. either (within most (unzigzag_of v)) (got v r) (bad BadLocation) tt (out_of_range refl))

number : (field : LocationField) (s : List ℕ) → Located (parse_number field s)
unfolding parse_number judge_number not_negative
number Zone s = tt
number Zone1970 s = row (parse read_zigzag s) judge_number (code 4 15 s) (λ v r. go (unzigzag_of v) r)
  where
    go : (z : ℤ) (r : List ℕ) → Located (not_negative z r)
    go (pos n) r = tt
    go (negsuc n) r = out_of_range refl

several : {A : Type 0} (f : Unit {0} → List ℕ → Parsed A) → ((s : List ℕ) → Located (f tt s)) → (n : ℕ) (s : List ℕ) → Located (many f no_state n tt s)
unfolding many
several f h zero s = tt
several f h (suc n) s =
    row (f tt s) (λ a r. bind (many f no_state n tt r) (prepend a)) (h s) (λ a r. row (many f no_state n tt r) (prepend a) (several f h n r) (λ xs q. tt))

country : (pool : ℕ) (s : List ℕ) → Located (parse_country pool tt s)
unfolding parse_country
country pool s = row (parse_name pool s) _ (name pool s) (λ n r. row (parse_name pool r) _ (name pool r) (λ c q. tt))

location : (field : LocationField) (pool : ℕ) (s : List ℕ) → Located (parse_location field pool tt s)
unfolding parse_location parse_texts parse_countries
location field pool s =
    row (parse_seconds 324000 s) _ (seconds 324000 s) (λ la r.
    row (parse_seconds 648000 r) _ (seconds 648000 r) (λ lo r.
    row (parse_number field r) _ (number field r) (λ n r.
    row (parse_countries pool n r) _ (several (parse_country pool) (country pool) n r) (λ cs r.
    row (parse_name pool r) _ (name pool r) (λ z r.
    row (parse_name pool r) _ (name pool r) (λ c r. tt))))))

last : {A : Type 0} (a : A) (s : List ℕ) → Located (ended a s)
unfolding ended
last a [] = tt
last a (b ∷ s) = nine

pub location-numbers : (field : LocationField) (pool : ℕ) (s : List ℕ) → Located (parse_locations field pool s)
unfolding parse_locations all_locations
location-numbers field pool s =
    row (parse read_count s) (all_locations field pool) (code 4 7 s)
    (λ n r. row (many (parse_location field pool) no_state n tt r) ended (several (parse_location field pool) (location field pool) n r) (λ ls q. last ls q))
