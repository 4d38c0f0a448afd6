-- Locations say the same where their numbers are renumbered. Assumes nothing.
use Rattle.base.specs.declared.Refusal.TheVariants.{BadLocation}
use mathlib.Core.Path.{◌≡◌, refl, sym, ap, ◌∙◌, subst}
use mathlib.Core.Bool.{Bool, true, false}
use mathlib.Core.List.{List, [], ◌∷◌, ◌++◌, append-nil, map}
use Prim.Native.Nat.{ℕ, zero, suc, ◌+◌, ◌-◌, ◌*◌, ◌/◌, ◌%◌, ◌≤◌, ◌<◌}
use native.Mathlib.Omega.{arith}
use lib.ListN.{length}
use lib.Dec.{eqb}
use lib.IntN.{pos}
use borrow.Author.Tests.{eqb-true, eqb-false, ne_eqb}
use Rattle.base.specs.All.{All, all_none, all-also}
use Rattle.base.specs.Pick.{pick}
use Rattle.base.specs.Parsed.{Parsed, got, bad, bind, parse, many, ended, prepend}
use Rattle.base.proofs.AllLaws.{all_head, all_tail, all_map, all_left, all_right}
use Rattle.base.proofs.ParseLaws.{bad-got, got-value, got-rest, bind-good, pick_good, ended-good}
use Rattle.signed.specs.Zigzag.{unzigzag_of}
use Rattle.counts.specs.Count.{read_count}
use Rattle.places.specs.Name.{read_zigzag, parse_name}
use Rattle.locations.specs.declared.Country.{Country}
use Rattle.locations.specs.declared.LocationField.{LocationField}
use Rattle.locations.specs.declared.LocationField.TheVariants.{Zone, Zone1970}
use Rattle.locations.specs.Content.{Location, id_of, within, judge_seconds, parse_seconds, not_negative, judge_number, parse_number, parse_country, no_state, parse_countries, parse_texts}
use Rattle.locations.specs.Content.{parse_location, all_locations, parse_locations}
use Rattle.locations.proofs.ReadLaws.{unzigzag-even, unzigzag-odd}
use Rattle.countries.proofs.OrderLaws.{many-length}
use Rattle.mentions.specs.declared.Stage.TheVariants.{Locations, Names, Rest}
use Rattle.mentions.specs.Walk.{numbered_names, location_names, before_names, before_locations, ahead_of, first_stage}
use Rattle.mentions.specs.Content.{content_at, numbers_of, print, renumbered}
use Rattle.mentions.specs.Renumbers.{Renumbers}
use Rattle.mentions.proofs.WalkLaws.{Left, left-bind, left-parse, left-number, left-ahead}
use Rattle.mentions.proofs.FrontLaws.{Front, count-front, zigzag-front, both-front, got-front, test-front}
use Rattle.mentions.proofs.StepLaws.{Ahead, print_by, print-by, code_reads, last-reads, got-reads, whole_again}
use Rattle.renumbered_lists.specs.Renamed.{has_number, renamed_country, renamed_location, renamed}
use Rattle.renumbered_lists.proofs.NameLaws.{by-got, InBoth, CountryNamed, row, next-name, country_names, in_both, countries-named, Rereads, then-rereads, end-rereads}
use Rattle.renumbered_lists.proofs.NameLaws.{none-rereads, name-rereads, countries-reread, numbers-read}

-- ---- the codes before a location's names are read the same before any bytes, and are what the walk steps over
record Seconds (most : ℕ) (s : List ℕ) (v : ℕ) (r : List ℕ) : Type 0 where
  front : Front (parse_seconds most) s v r
  over : parse read_zigzag s ≡ got v r

seconds : (most : ℕ) (s : List ℕ) (v : ℕ) (r : List ℕ) → parse_seconds most s ≡ got v r → Seconds most s v r
unfolding parse_seconds judge_seconds
seconds most s v r e =
    let x = bind-good (parse read_zigzag s) (judge_seconds most) v r e in
    let w : ℕ = x.first in
    let q : List ℕ = x.rest in
    let t = pick_good (within most (unzigzag_of w)) (got w q) BadLocation v r x.on in
    by-got (Seconds most s) t.1
    (record {
      front =
          both-front (parse read_zigzag) (judge_seconds most) s w q w q (zigzag-front s w q x.is)
          (test-front (within most (unzigzag_of w)) BadLocation (λ y. got w y) q w q t.0 (got-front w q));
      over = x.is;
    })

record Number (field : LocationField) (s : List ℕ) (n : ℕ) (r : List ℕ) : Type 0 where
  front : Front (parse_number field) s n r
  over : pick (has_number field) (numbered_names s) (got 3 s) ≡ got (2 * n + 1) r

-- a number of countries that was read isn't negative
positive : (v n : ℕ) (s r : List ℕ) → not_negative (unzigzag_of v) s ≡ got n r → (unzigzag_of v ≡ pos n) × (v / 2 ≡ n) × (s ≡ r)
unfolding not_negative
positive v n s r e = go (eqb (v % 2) 0) refl
  where
    go : (t : Bool) → eqb (v % 2) 0 ≡ t → (unzigzag_of v ≡ pos n) × (v / 2 ≡ n) × (s ≡ r)
    go true q =
        let u = unzigzag-even v (eqb-true (v % 2) 0 q) in
        let f : got (v / 2) s ≡ got n r = rw u at e in
        (u ∙ ap pos (got-value f), got-value f, got-rest f)
    go false q = let f : bad BadLocation ≡ got n r = rw (unzigzag-odd v (eqb-false (v % 2) 0 q)) at e in bad-got f

number : (field : LocationField) (s : List ℕ) (n : ℕ) (r : List ℕ) → parse_number field s ≡ got n r → Number field s n r
unfolding parse_number judge_number not_negative numbered_names
number Zone s n r e = by-got (Number Zone s) e (record { front = got-front 1 s; over = refl })
number Zone1970 s n r e =
    let x = bind-good (parse read_zigzag s) judge_number n r e in
    let v : ℕ = x.first in
    let h = positive v n x.rest r x.on in
    record {
      front =
          both-front (parse read_zigzag) judge_number s v x.rest n r (zigzag-front s v x.rest x.is)
          (record { used = []; splits = h.2; again = λ y. rw h.0 });
      over = rw (x.is, h.1, h.2);
    }

-- where the walk over the field begins
first-stage : (field : LocationField) → first_stage (id_of field) ≡ Locations (has_number field)
unfolding first_stage
first-stage Zone = refl
first-stage Zone1970 = refl

-- ---- the pool numbers of a location, and of a field's, in file order
abbrev pub names_in : Location → List ℕ
names_in l = country_names l.countries ++ (l.zone ∷ (l.comment ∷ []))

unfoldable pub names_of : List Location → List ℕ
names_of [] = []
names_of (l ∷ ls) = names_in l ++ names_of ls

module _ (ρ : ℕ → ℕ) (ts us : List (List ℕ)) where
  -- the strings of a location stand in both pools
  pub record LocationNamed (l : Location) : Type 0 where
    pub countries : All (CountryNamed ρ ts us) l.countries
    pub zone : InBoth ρ ts us l.zone
    pub comment : InBoth ρ ts us l.comment

  all_named : (ls : List Location) → All (InBoth ρ ts us) (names_of ls) → All LocationNamed ls
  unfolding names_of
  all_named [] a = all_none
  all_named (l ∷ ls) a =
      let cs = country_names l.countries in
      let here = all_left (names_in l) (names_of ls) a in
      let texts = all_right cs (l.zone ∷ (l.comment ∷ [])) here in
      all-also
      (record { countries = countries-named l.countries (all_left cs _ here); zone = all_head texts; comment = all_head (all_tail texts) })
      (all_named ls (all_right (names_in l) (names_of ls) a))

-- what is ahead at a location's number of countries, and at its longitude
module _ (b : Bool) (others : ℕ) where
  abbrev at_number : Ahead
  at_number s = bind (pick b (numbered_names s) (got 3 s)) (λ k r. got (Names k others b) r)

  abbrev at_longitude : Ahead
  at_longitude s = bind (bind (parse read_zigzag s) (λ longitude r. pick b (numbered_names r) (got 3 r))) (λ k r. got (Names k others b) r)

  behind-latitude : (s : List ℕ) (v : ℕ) (r : List ℕ) → parse read_zigzag s ≡ got v r → row b 0 (suc others) s ≡ at_longitude r
  unfolding ahead_of before_names location_names
  behind-latitude s v r e = let one : suc others - 1 ≡ others = omega arith in rw (ne_eqb (suc others) 0 (λ z. omega arith), one, e)

  behind-longitude : (s : List ℕ) (v : ℕ) (r : List ℕ) → parse read_zigzag s ≡ got v r → at_longitude s ≡ at_number r
  behind-longitude s v r e = rw e

  behind-number : (s : List ℕ) (n : ℕ) (r : List ℕ) → pick b (numbered_names s) (got 3 s) ≡ got (2 * n + 1) r → at_number s ≡ row b (2 * n + 2) others r
  behind-number s n r e = let more : 2 * n + 2 ≡ suc (2 * n + 1) = omega arith in rw (e, more) (sym (next-name b (2 * n + 1) others r))

  left-at-number : (s : List ℕ) → Left (length s) (at_number s)
  left-at-number s = left-bind (length s) (pick b (numbered_names s) (got 3 s)) _ (left-number (length s) b s (omega arith)) (λ k r h. h)

  left-at-longitude : (s : List ℕ) → Left (length s) (at_longitude s)
  left-at-longitude s =
      let n : ℕ = length s in
      left-bind n (bind (parse read_zigzag s) _) _
      (left-bind n (parse read_zigzag s) _ (left-parse read_zigzag n s (omega arith)) (λ v r h. left-number n b r h)) (λ k r h. h)

-- a code before the names
code-rereads : (ρ : ℕ → ℕ) (pool pool' : ℕ) {A : Type 0} (κ : Ahead) (p : List ℕ → Parsed A) (κ' : A → Ahead) (s : List ℕ) (v : A) (r : List ℕ)
    → p s ≡ got v r → Front p s v r → κ s ≡ κ' v r → Left (length r) (κ' v r) → Rereads ρ pool pool' κ s p v [] (κ' v) r
code-rereads ρ pool pool' {A} κ p κ' s v r e f h l = none-rereads (code_reads ρ κ p κ' s v r (h ∙ sym (ap (λ (y : Parsed A). bind y κ') e)) f l)

module _ (ρ : ℕ → ℕ) (pool pool' : ℕ) (few : pool' ≤ 8192) (field : LocationField) where
  abbrev b : Bool
  b = has_number field

  abbrev OneAgain : Ahead → ℕ → List ℕ → (List ℕ → Parsed Location) → Location → List ℕ → Type 0
  OneAgain κ others s p l r = Rereads ρ pool pool' κ s p (renamed_location ρ field others l) (names_in l) (row b 0 others) r

  texts-reread : (la lo n others : ℕ) (s : List ℕ) (l : Location) (r : List ℕ) → parse_texts pool la lo n s ≡ got l r
      → OneAgain (row b (2 * n + 2) others) others s (parse_texts pool' la lo n) l r
  unfolding parse_texts parse_countries
  texts-reread la lo n others s l r e =
      let x = bind-good (many (parse_country pool) no_state n tt s) _ l r e in
      let y = bind-good (parse_name pool x.rest) _ l r x.on in
      let z = bind-good (parse_name pool y.rest) _ l r y.on in
      let cs : List Country = x.first in
      let κ = row b (2 * n + 2) others in
      let c : length cs ≡ n = many-length (parse_country pool) n s cs x.rest x.is in
      let w : List ℕ = print ρ (content_at (Names (2 * length cs + 2) others b) s) in
      let old : print_by ρ κ s ≡ w = rw c (sym (print-by ρ (Names (2 * n + 2) others b) s)) in
      let f =
      then-rereads (after_countries w) (countries-reread ρ pool pool' few b others n 2 s cs x.rest x.is)
      (then-rereads (after_zone w (map (renamed_country ρ) cs)) (name-rereads ρ pool pool' few b others 1 x.rest y.first y.rest y.is)
      (end-rereads _ _ (λ t. refl) (name-rereads ρ pool pool' few b others 0 y.rest z.first z.rest z.is))) in
      by-got (OneAgain κ others s (parse_texts pool' la lo n)) z.on
      (record {
        below = f.below;
        reads = λ h. record {
          again = ap (λ (t : List ℕ). bind (parse_countries pool' n (print_by ρ κ s)) (after_countries t)) old ∙ (f.reads h).again;
          numbers = (f.reads h).numbers;
        };
      })
    where
      after_zone : List ℕ → List Country → ℕ → List ℕ → Parsed Location
      after_zone w cs zone r =
          bind (parse_name pool' r)
          (λ comment r. got (record { latitude = la; longitude = lo; countries = cs; zone = zone; comment = comment; behind = w }) r)

      after_countries : List ℕ → List Country → List ℕ → Parsed Location
      after_countries w cs r = bind (parse_name pool' r) (after_zone w cs)

  location-rereads : (others : ℕ) (s : List ℕ) (l : Location) (r : List ℕ) → parse_location field pool tt s ≡ got l r
      → OneAgain (row b 0 (suc others)) others s (parse_location field pool' tt) l r
  unfolding parse_location
  location-rereads others s l r e =
      let x = bind-good (parse_seconds 324000 s) _ l r e in
      let y = bind-good (parse_seconds 648000 x.rest) _ l r x.on in
      let z = bind-good (parse_number field y.rest) _ l r y.on in
      let n : ℕ = z.first in
      let u = seconds 324000 s x.first x.rest x.is in
      let v = seconds 648000 x.rest y.first y.rest y.is in
      let w = number field y.rest n z.rest z.is in
      then-rereads _
      (code-rereads ρ pool pool' (row b 0 (suc others)) (parse_seconds 324000) (λ la. at_longitude b others) s x.first x.rest x.is
      u.front (behind-latitude b others s x.first x.rest u.over) (left-at-longitude b others x.rest))
      (then-rereads _
      (code-rereads ρ pool pool' (at_longitude b others) (parse_seconds 648000) (λ lo. at_number b others) x.rest y.first y.rest y.is
      v.front (behind-longitude b others x.rest y.first y.rest v.over) (left-at-number b others y.rest))
      (then-rereads _
      (code-rereads ρ pool pool' (at_number b others) (parse_number field) (λ n. row b (2 * n + 2) others) y.rest n z.rest z.is
      w.front (behind-number b others y.rest n z.rest w.over)
      (left-ahead (length z.rest) (Names (2 * n + 2) others b) z.rest (omega arith)))
      (texts-reread x.first y.first n others z.rest l r z.on)))

  abbrev AllAgain : ℕ → List ℕ → List Location → List ℕ → Type 0
  AllAgain n s ls r =
      Rereads ρ pool pool' (row b 0 n) s (many (parse_location field pool') no_state n tt) (renamed ρ field ls) (names_of ls) (row b 0 0) r

  locations-reread : (n : ℕ) (s : List ℕ) (ls : List Location) (r : List ℕ) → many (parse_location field pool) no_state n tt s ≡ got ls r
      → AllAgain n s ls r
  unfolding many renamed names_of
  locations-reread zero s ls r e = by-got (AllAgain zero s) e (none-rereads (got-reads ρ (row b 0 0) s []))
  locations-reread (suc n) s ls r e =
      let x = bind-good (parse_location field pool tt s) _ ls r e in
      let y = bind-good (many (parse_location field pool) no_state n tt x.rest) (prepend x.first) ls r x.on in
      let c : length y.first ≡ n = many-length (parse_location field pool) n x.rest y.first y.rest y.is in
      by-got (AllAgain (suc n) s) y.on
      (rw c (then-rereads _ (location-rereads n s x.first x.rest x.is)
      (end-rereads (prepend (renamed_location ρ field n x.first)) _ (λ t. refl) (locations-reread n x.rest y.first y.rest y.is))))

  field-rereads : (d : List ℕ) (ls : List Location) → parse_locations field pool d ≡ got ls []
      → Rereads ρ pool pool' (ahead_of (Locations b)) d (parse_locations field pool') (renamed ρ field ls) (names_of ls) (ahead_of Rest) []
  unfolding parse_locations all_locations ended ahead_of before_names before_locations
  field-rereads d ls e =
      let x = bind-good (parse read_count d) (all_locations field pool) ls [] e in
      let n : ℕ = x.first in
      let q : List ℕ = x.rest in
      let y = bind-good (many (parse_location field pool) no_state n tt q) ended ls [] x.on in
      let z = ended-good y.first ls y.rest [] y.on in
      subst (λ (ns : List ℕ). Rereads ρ pool pool' (ahead_of (Locations b)) d (parse_locations field pool') (renamed ρ field ls) ns (ahead_of Rest) [])
      (append-nil (names_of ls))
      (then-rereads (all_locations field pool')
      (none-rereads (code_reads ρ (ahead_of (Locations b)) (parse read_count) (λ n. row b 0 n) d n q refl (count-front d n q x.is)
      (left-ahead (length q) (Names 0 n b) q (omega arith))))
      (then-rereads ended (locations-reread n q ls [] (y.is ∙ rw (z.0, z.1)))
      (none-rereads (last-reads ρ (row b 0 0) [] Rest (ended (renamed ρ field ls)) (renamed ρ field ls) refl refl))))

at_rest : ahead_of Rest [] ≡ got Rest []
unfolding ahead_of
at_rest = refl

module _ (field : LocationField) (pool : ℕ) (d : List ℕ) (ls : List Location) (e : parse_locations field pool d ≡ got ls []) where
  -- THE WALK OVER MENTIONS MEETS THE POOL NUMBERS OF THE LOCATIONS, in file order
  pub locations-numbers : numbers_of (id_of field) d ≡ names_of ls
  locations-numbers =
      rw (first-stage field)
      (numbers-read pool (Locations (has_number field)) d (ahead_of Rest) Rest at_rest (field-rereads (λ k. 0) pool 1 (omega arith) field d ls e))

  -- which are numbers of the pool
  pub location-names-below : All (λ k. k < pool) (names_of ls)
  location-names-below = (field-rereads (λ k. 0) pool 1 (omega arith) field d ls e).below

-- THE SAME LOCATIONS, renamed: and all that they name stands in both pools
module _ (ρ : ℕ → ℕ) (ts us : List (List ℕ)) (field : LocationField) (d : List ℕ) (ls : List Location)
    (e : parse_locations field (length ts) d ≡ got ls []) (few : length us ≤ 8192) (a : All (Renumbers ts us ρ) (numbers_of (id_of field) d)) where
  named : All (Renumbers ts us ρ) (names_of ls)
  named = subst (All (Renumbers ts us ρ)) (locations-numbers field (length ts) d ls e) a

  pub locations-renumbered : parse_locations field (length us) (renumbered ρ (id_of field) d) ≡ got (renamed ρ field ls) []
  locations-renumbered =
      rw (first-stage field) (whole_again ρ (Locations (has_number field)) d (ahead_of Rest) Rest at_rest
      ((field-rereads ρ (length ts) (length us) few field d ls e).reads (all_map (λ k h. h.inside) named)))

  pub locations-named : All (LocationNamed ρ ts us) ls
  locations-named = all_named ρ ts us ls (in_both (location-names-below field (length ts) d ls e) named)
