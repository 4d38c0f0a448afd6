-- "each name and code once in file order, then no more": what the steps give is the content's list of countries. Assumes nothing.
use Rattle.base.specs.declared.Refusal.TheVariants.{BadLocation, BadText}
use Rattle.base.specs.declared.Refusal.{Refusal}
use Rattle.std.specs.declared.option.Option.TheVariants.{None}
use Rattle.std.specs.Prelude.{Err, Ok}
use Rattle.base.specs.Coded.{Coded}
use mathlib.Core.Path.{◌≡◌, sym, ap, ◌∙◌}
use mathlib.Core.Bool.{Bool}
use mathlib.Core.List.{List, [], ◌∷◌, map}
use Prim.Native.Nat.{ℕ, zero, suc, ◌-◌, ◌≤◌}
use lib.Dec.{ltb}
use lib.ListN.{length, drop, get_or}
use lib.IntN.{ℤ, pos, negsuc}
use Rattle.base.specs.All.{All, all_none, all-also}
use Rattle.base.specs.Pick.{pick}
use Rattle.base.specs.Parsed.{Parsed, got, bad, bind, behind_code, parse, many, ended, prepend}
use Rattle.base.proofs.ParseLaws.{bad-got, got-value, got-rest, bind-good, pick_good, ended-good}
use Rattle.counts.specs.Count.{read_count}
use Rattle.signed.specs.Zigzag.{unzigzag_of}
use Rattle.places.specs.Name.{read_zigzag, judge_name, parse_name}
use Rattle.locations.specs.declared.Country.{Country}
use Rattle.locations.specs.declared.LocationField.{LocationField}
use Rattle.locations.specs.declared.LocationField.TheVariants.{Zone, Zone1970}
use Rattle.locations.specs.Content.{Location, within, judge_seconds, parse_seconds, not_negative, judge_number, parse_number, parse_country, no_state, parse_countries, parse_texts}
use Rattle.locations.specs.Content.{parse_location, all_locations, parse_locations}
use Rattle.locations.specs.Find.{spot_of}
use Rattle.countries.specs.Step.{read_country, item, behind, step_at, given}
use Rattle.string_search.proofs.SuffixLaws.{Suffix, suffix-all, suffix-drop, suffix-then, suffix-place}
use Rattle.countries.proofs.StepLaws.{read-both}

-- each reader leaves a suffix
code-suffix : (read : List ℕ → Coded ℕ) (s : List ℕ) (v : ℕ) (r : List ℕ) → parse read s ≡ got v r → Suffix s r
code-suffix read s v r e = go (read s) e
  where
    go : (x : Coded ℕ) → behind_code s x ≡ got v r → Suffix s r
    go (Ok (w, n)) e = let z : drop n s ≡ r = got-rest e in rw (← z) (suffix-drop s n)
    go (Err k) e = bad-got e

abbrev Leaves : {A : Type 0} → (List ℕ → Parsed A) → Type 0
Leaves {A} f = (s : List ℕ) (a : A) (r : List ℕ) → f s ≡ got a r → Suffix s r

bind-suffix : {A B : Type 0} (f : List ℕ → Parsed A) (k : A → List ℕ → Parsed B) → Leaves f → ((a : A) → Leaves (k a)) → Leaves (λ s. bind (f s) k)
bind-suffix f k lf lk s b q e =
    let x = bind-good (f s) k b q e in
    suffix-then s x.rest q (lf s x.first x.rest x.is) (lk x.first x.rest b q x.on)

got-suffix : {A : Type 0} (a : A) → Leaves (got a)
got-suffix a s b r e = let z : s ≡ r = got-rest e in rw (← z) (suffix-all s)

pick-suffix : {A : Type 0} (t : List ℕ → Bool) (a : A) (n : Refusal) → Leaves (λ s. pick (t s) (got a s) (bad n))
pick-suffix t a n s b r e = got-suffix a s b r (pick_good (t s) (got a s) n b r e).1

name-suffix : (pool : ℕ) → Leaves (parse_name pool)
unfolding parse_name judge_name
name-suffix pool = bind-suffix (parse read_count) (judge_name pool) (code-suffix read_count) (λ n. pick-suffix (λ s. ltb n pool) n BadText)

country-suffix : (pool : ℕ) → Leaves (parse_country pool tt)
unfolding parse_country
country-suffix pool =
    bind-suffix (parse_name pool) _ (name-suffix pool) (λ n. bind-suffix (parse_name pool) _ (name-suffix pool) (λ c. got-suffix (record { name = n; code = c })))

many-suffix : {A : Type 0} (f : Unit {0} → List ℕ → Parsed A) → Leaves (f tt) → (n : ℕ) → Leaves (many f no_state n tt)
unfolding many
many-suffix f lf zero = got-suffix []
many-suffix f lf (suc n) =
    bind-suffix (f tt) (λ a r. bind (many f no_state n tt r) (prepend a)) lf
    (λ a. bind-suffix (many f no_state n tt) (prepend a) (many-suffix f lf n) (λ xs. got-suffix (a ∷ xs)))

seconds-suffix : (most : ℕ) → Leaves (parse_seconds most)
unfolding parse_seconds judge_seconds
seconds-suffix most =
    bind-suffix (parse read_zigzag) (judge_seconds most) (code-suffix read_zigzag) (λ v. pick-suffix (λ s. within most (unzigzag_of v)) v BadLocation)

number-suffix : (field : LocationField) → Leaves (parse_number field)
unfolding parse_number judge_number not_negative
number-suffix Zone = got-suffix 1
number-suffix Zone1970 = bind-suffix (parse read_zigzag) judge_number (code-suffix read_zigzag) (λ v. judged (unzigzag_of v))
  where
    judged : (z : ℤ) → Leaves (not_negative z)
    judged (pos n) = got-suffix n
    judged (negsuc n) = λ s a r e. bad-got e

pub many-length : {A : Type 0} (f : Unit {0} → List ℕ → Parsed A) (n : ℕ) (s : List ℕ) (xs : List A) (r : List ℕ) → many f no_state n tt s ≡ got xs r
    → length xs ≡ n
unfolding many
many-length f zero s xs r e = let z : [] ≡ xs = got-value e in rw (← z)
many-length f (suc n) s xs r e =
    let x = bind-good (f tt s) (λ a r. bind (many f no_state n tt r) (prepend a)) xs r e in
    let y = bind-good (many f no_state n tt x.rest) (prepend x.first) xs r x.on in
    let z : x.first ∷ y.first ≡ xs = got-value y.on in
    rw (← z) (ap suc (many-length f n x.rest y.first y.rest y.is))

-- a country that the field's check takes is what a step reads
name-count : (pool : ℕ) (s : List ℕ) (n : ℕ) (r : List ℕ) → parse_name pool s ≡ got n r → parse read_count s ≡ got n r
unfolding parse_name judge_name
name-count pool s n r e =
    let x = bind-good (parse read_count s) (judge_name pool) n r e in
    x.is ∙ (pick_good (ltb x.first pool) (got x.first x.rest) BadText n r x.on).1

country-read : (pool : ℕ) (s : List ℕ) (c : Country) (r : List ℕ) → parse_country pool tt s ≡ got c r → read_country s ≡ got c r
unfolding parse_country
country-read pool s c r e =
    let x = bind-good (parse_name pool s) _ c r e in
    let y = bind-good (parse_name pool x.rest) _ c r x.on in
    read-both s x.first y.first x.rest y.rest
    (name-count pool s x.first x.rest x.is) (name-count pool x.rest y.first y.rest y.is)
    ∙ y.on

-- the steps from a place on, by the countries that stand there
steps : (pool : ℕ) (s : List ℕ) (n at : ℕ) (cs : List Country) (r : List ℕ) → at ≤ length s → parse_countries pool n (drop at s) ≡ got cs r
    → (k : ℕ) → given s at n k ≡ get_or (map item cs) k None
unfolding parse_countries many step_at given
steps pool s zero at cs r w e zero = let z : [] ≡ cs = got-value e in rw (← z)
steps pool s zero at cs r w e (suc k) = steps pool s zero at cs r w e k ∙ (let z : [] ≡ cs = got-value e in rw (← z))
steps pool s (suc n) at cs r w e k =
    let x = bind-good (parse_country pool tt (drop at s)) _ cs r e in
    let y = bind-good (many (parse_country pool) no_state n tt x.rest) (prepend x.first) cs r x.on in
    let z : x.first ∷ y.first ≡ cs = got-value y.on in
    let f = suffix-then s (drop at s) x.rest (suffix-drop s at) (country-suffix pool (drop at s) x.first x.rest x.is) in
    let p = suffix-place s x.rest f in
    let q : read_country (drop at s) ≡ got x.first x.rest = country-read pool (drop at s) x.first x.rest x.is in
    rw (← z) (go k x.first x.rest q f.place p y.first
    (λ j. steps pool s n f.place y.first y.rest f.inside (ap (many (parse_country pool) no_state n tt) (sym f.is) ∙ y.is) j))
  where
    go : (k : ℕ) (c : Country) (q : List ℕ) → read_country (drop at s) ≡ got c q → (e : ℕ) → length s - length q ≡ e → (ds : List Country)
        → ((j : ℕ) → given s e n j ≡ get_or (map item ds) j None) → given s at (suc n) k ≡ get_or (map item (c ∷ ds)) k None
    go zero c q h e p ds rec = ap (λ (x : Parsed Country). (behind s at n x).item) h
    go (suc j) c q h e p ds rec =
        ap (λ (x : Parsed Country). given s (behind s at n x).at (behind s at n x).left j) h ∙ ap (λ (m : ℕ). given s m n j) p ∙ rec j

-- EACH NAME AND CODE ONCE, IN FILE ORDER, THEN NO MORE: the k-th step from where the countries of the location l of the field's data s stand
abbrev pub StepsInOrder : List ℕ → Location → Type 0
StepsInOrder s l = (k : ℕ) → given s (spot_of s l).at (spot_of s l).left k ≡ get_or (map item l.countries) k None

texts-in-order : (pool la lo n : ℕ) (s q : List ℕ) (l : Location) (r : List ℕ) → Suffix s q → parse_texts pool la lo n q ≡ got l r → StepsInOrder s l
unfolding parse_texts parse_countries
texts-in-order pool la lo n s q l r f e k =
    let x = bind-good (parse_countries pool n q) _ l r e in
    let y = bind-good (parse_name pool x.rest) _ l r x.on in
    let z = bind-good (parse_name pool y.rest) _ l r y.on in
    let made = got-value z.on in
    let p = suffix-place s q f in
    rw (← made) (rw (p, many-length (parse_country pool) n q x.first x.rest x.is)
    (steps pool s n f.place x.first x.rest f.inside (ap (parse_countries pool n) (sym f.is) ∙ x.is) k))

texts-suffix : (pool la lo n : ℕ) → Leaves (parse_texts pool la lo n)
unfolding parse_texts parse_countries
texts-suffix pool la lo n s l r e =
    let x = bind-good (many (parse_country pool) no_state n tt s) _ l r e in
    let y = bind-good (parse_name pool x.rest) _ l r x.on in
    let z = bind-good (parse_name pool y.rest) _ l r y.on in
    let w : z.rest ≡ r = got-rest z.on in
    rw (← w) (suffix-then s y.rest z.rest
    (suffix-then s x.rest y.rest (many-suffix (parse_country pool) (country-suffix pool) n s x.first x.rest x.is) (name-suffix pool x.rest y.first y.rest y.is))
    (name-suffix pool y.rest z.first z.rest z.is))

location-in-order : (field : LocationField) (pool : ℕ) (s q : List ℕ) (l : Location) (r : List ℕ) → Suffix s q → parse_location field pool tt q ≡ got l r
    → StepsInOrder s l × Suffix s r
unfolding parse_location
location-in-order field pool s q l r f e =
    let x = bind-good (parse_seconds 324000 q) _ l r e in
    let y = bind-good (parse_seconds 648000 x.rest) _ l r x.on in
    let z = bind-good (parse_number field y.rest) _ l r y.on in
    let a = suffix-then s q x.rest f (seconds-suffix 324000 q x.first x.rest x.is) in
    let b = suffix-then s x.rest y.rest a (seconds-suffix 648000 x.rest y.first y.rest y.is) in
    let c = suffix-then s y.rest z.rest b (number-suffix field y.rest z.first z.rest z.is) in (
      texts-in-order pool x.first y.first z.first s z.rest l r c z.on,
      suffix-then s z.rest r c (texts-suffix pool x.first y.first z.first z.rest l r z.on),
    )

locations-in-order : (field : LocationField) (pool n : ℕ) (s q : List ℕ) (ls : List Location) (r : List ℕ) → Suffix s q
    → many (parse_location field pool) no_state n tt q ≡ got ls r → All (StepsInOrder s) ls
unfolding many
locations-in-order field pool zero s q ls r f e = let z : [] ≡ ls = got-value e in rw (← z) all_none
locations-in-order field pool (suc n) s q ls r f e =
    let x = bind-good (parse_location field pool tt q) _ ls r e in
    let y = bind-good (many (parse_location field pool) no_state n tt x.rest) (prepend x.first) ls r x.on in
    let z : x.first ∷ y.first ≡ ls = got-value y.on in
    let a = location-in-order field pool s q x.first x.rest f x.is in
    rw (← z) (all-also a.0 (locations-in-order field pool n s x.rest y.first y.rest a.1 y.is))

pub in_order : (field : LocationField) (pool : ℕ) (s : List ℕ) (ls : List Location) (r : List ℕ) → parse_locations field pool s ≡ got ls r
    → All (StepsInOrder s) ls
unfolding parse_locations all_locations
in_order field pool s ls r e =
    let x = bind-good (parse read_count s) (all_locations field pool) ls r e in
    let y = bind-good (many (parse_location field pool) no_state x.first tt x.rest) ended ls r x.on in
    let z = ended-good y.first ls y.rest r y.on in
    rw (← z.0) (locations-in-order field pool x.first s x.rest y.first y.rest (code-suffix read_count s x.first x.rest x.is) y.is)
