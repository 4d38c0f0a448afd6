-- A GOOD FILE AND ITS CLOSED FILE SAY THE SAME: every mentioned number is one of the pool and has a new one, and with these each field's data say
-- what they said. Assumes nothing.
use mathlib.Core.Path.{◌≡◌, refl, sym, ap, ◌∙◌, subst, subst⁻¹}
use mathlib.Core.Bool.{false}
use mathlib.Core.List.{List, [], ◌∷◌, ◌++◌}
use Prim.Native.Nat.{ℕ, ◌≤◌, ◌<◌}
use native.Mathlib.Omega.{arith}
use lib.ListN.{length}
use borrow.Author.Tests.{eq-eqb, ne_eqb}
use Rattle.base.specs.All.{All}
use Rattle.base.specs.Bytes.{Bytes}
use Rattle.base.specs.Parsed.{got}
use Rattle.base.proofs.AllLaws.{all_head, all_tail, all_map, all_left, all_right}
use Rattle.pool.specs.Pool.{parse_pool, strings_of, strings_in}
use Rattle.zones.specs.Content.{Zone}
use Rattle.zones.specs.Sound.{Sound}
use Rattle.zones.specs.Editions.{under}
use Rattle.zones.specs.Lookup.{in_zone}
use Rattle.zones.proofs.SoundLaws.{zone-sound}
use Rattle.locations.specs.Content.{id_of}
use Rattle.locations.specs.declared.LocationField.{LocationField}
use Rattle.aliases.proofs.PairLaws.{pairs-good}
use Rattle.frames.specs.Frame.{largest, Field}
use Rattle.frames.specs.Fields.{FieldOf, Listing, end_at, listing, fields}
use Rattle.frames.proofs.ChainLaws.{listing-chain, chain-fields}
use Rattle.frames.proofs.CoverLaws.{ordered-some, framed-listing}
use Rattle.field_checks.specs.Check.{WellFormed}
use Rattle.field_checks.specs.File.{AsZone, AsAliases, AsLocations, IsFile}
use Rattle.field_checks.proofs.FileLaws.{well-formed-file}
use Rattle.use_order.specs.Order.{new_number}
use Rattle.mentions.specs.Walk.{first_stage}
use Rattle.mentions.specs.Content.{numbers_of, renumbered}
use Rattle.mentions.specs.Renumbers.{Renumbers}
use Rattle.renumbered_zones.specs.Renamed.{names_of, renamed_zone}
use Rattle.renumbered_zones.proofs.ZoneLaws.{zone-numbers, zone-renumbered}
use Rattle.renumbered_zones.proofs.LookupLaws.{lookup-renamed, lookup-name, instants-renamed}
use Rattle.renumbered_lists.specs.Renamed.{renamed}
use Rattle.renumbered_lists.proofs.AliasLaws.{aliases-renumbered}
use Rattle.renumbered_lists.proofs.LocationLaws.{locations-renumbered}
use Rattle.mentioned_numbers.proofs.MentionedLaws.{names-below, copied-rest, file-below}
use Rattle.closed_files.specs.File.{mentions_in, new_order, new_table, chosen, closed_data, closed}
use Rattle.closed_files.proofs.PoolLaws.{length-chosen, pool-reads-back}
use Rattle.closed_files.proofs.PlaceLaws.{order-few, mentioned-renumbers}
use Rattle.closed_answers.proofs.FieldsLaws.{closed_at, closed_from, closed-listing, closed-fields}
use Rattle.closed_answers.proofs.BesideLaws.{Pairs, no-pair, and-pair, Beside}
use Rattle.closed_answers.proofs.SameLaws.{SameInterval, SameZone, SameZoneData, SameAliasData, SameLocationData, SameField, SameFiles}

-- a field and its closed one
module _ (f h : List ℕ) (ts : List (List ℕ)) (order table : List ℕ) (fits : length order ≤ 8192) where
  abbrev ρ : ℕ → ℕ
  ρ = new_number table

  abbrev us : List (List ℕ)
  us = chosen ts order

  us-few : length us ≤ 8192
  us-few = omega (arith, length-chosen ts order)

  zone-same : (z : Zone) → Sound (length ts) z → All (Renumbers ts us ρ) (names_of z) → SameZone ts us z (renamed_zone ρ z)
  zone-same z o a =
      record {
        id = (all_head a).same;
        interval = λ ed t k.
            let r : Renumbers ts us ρ (in_zone t (under ed z)).name = lookup-name (Renumbers ts us ρ) (length ts) z o ed t k a in
            subst⁻¹ (SameInterval ts us (in_zone t (under ed z))) (lookup-renamed ρ (length ts) z o ed t k)
            (record {
              wall = refl;
              savings = refl;
              start = refl;
              end = refl;
              inside = lookup-name (λ n. n < length ts) (length ts) z o ed t k (names-below (length ts) z o);
              inside' = r.inside;
              name = sym r.same;
            });
        instants = λ l. instants-renamed ρ z l;
      }

  module _ (g : Field) (some : 0 < g.id) (a : All (Renumbers ts us ρ) (numbers_of g.id g.body)) where
    data_is : (i : ℕ) → g.id ≡ i → closed_data order table g.id g.body ≡ renumbered ρ i g.body
    unfolding closed_data
    data_is i e = rw (ne_eqb g.id 0 (λ z. omega arith)) (ap (λ (j : ℕ). renumbered ρ j g.body) e)

    named : (i : ℕ) → g.id ≡ i → All (Renumbers ts us ρ) (numbers_of i g.body)
    named i e = subst (λ (j : ℕ). All (Renumbers ts us ρ) (numbers_of j g.body)) e a

    closed-zone : AsZone ts g → g.id ≡ 1 → SameZoneData ts us g.body (closed_data order table g.id g.body)
    closed-zone z i =
        let x = z i in
        let n : All (Renumbers ts us ρ) (names_of x.zone)
        = subst (All (Renumbers ts us ρ)) (zone-numbers (length ts) g.body x.zone x.parsed) (named 1 i) in
        record {
          zone = x.zone;
          zone' = renamed_zone ρ x.zone;
          parsed = x.parsed;
          parsed' =
              rw (data_is 1 i) (zone-renumbered ρ (length ts) (length us) g.body x.zone x.parsed us-few (all_map (λ k r. r.inside) n));
          same = zone-same x.zone (zone-sound (length ts) g.body x.zone [] x.parsed).0 n;
        }

    closed-text : g.id ≡ 2 → closed_data order table g.id g.body ≡ g.body
    unfolding first_stage
    closed-text i = data_is 2 i ∙ copied-rest ρ 2 g.body refl

    closed-aliases : AsAliases ts g → g.id ≡ 3 → SameAliasData ts us g.body (closed_data order table g.id g.body)
    closed-aliases d i =
        let x = d i in
        let p = pairs-good ts g.body x.entries x.pairs in
        record {
          entries = x.entries;
          parsed = p;
          parsed' = rw (data_is 3 i) (aliases-renumbered ρ ts us g.body x.entries p us-few (named 3 i));
        }

    closed-locations : AsLocations ts g → (field : LocationField) → g.id ≡ id_of field
        → SameLocationData field ts us g.body (closed_data order table g.id g.body)
    closed-locations d field i =
        let x = d field i in
        record {
          locations = x.locations;
          locations' = renamed ρ field x.locations;
          parsed = x.parsed;
          parsed' =
              rw (data_is (id_of field) i) (locations-renumbered ρ ts us field g.body x.locations x.parsed us-few (named (id_of field) i));
          number = ρ;
          renumbers = data_is (id_of field) i;
          named = named (id_of field) i;
        }

    closed-field : (at : ℕ) → AsZone ts g → AsAliases ts g → AsLocations ts g → FieldOf f g → FieldOf h (closed_at order table at g)
        → SameField f h ts us g (closed_at order table at g)
    closed-field at z d l o p =
        record {
          same_id = refl;
          some = some;
          of-file = o;
          of-file' = p;
          zone = closed-zone z;
          text = closed-text;
          aliases = closed-aliases d;
          locations = closed-locations l;
        }

  closed-pairs : (at : ℕ) (gs : List Field) → All (λ g. 0 < g.id) gs → All (Renumbers ts us ρ) (mentions_in gs) → All (AsZone ts) gs
      → All (AsAliases ts) gs → All (AsLocations ts) gs → All (FieldOf f) gs → All (FieldOf h) (closed_from order table at gs)
      → Pairs (SameField f h ts us) gs (closed_from order table at gs)
  unfolding closed_from mentions_in
  closed-pairs at [] s r z d l o p = no-pair
  closed-pairs at (g ∷ gs) s r z d l o p =
      and-pair
      (closed-field g (all_head s) (all_left (numbers_of g.id g.body) (mentions_in gs) r) at (all_head z) (all_head d) (all_head l) (all_head o)
      (all_head p))
      (closed-pairs (closed_at order table at g).past gs (all_tail s) (all_right (numbers_of g.id g.body) (mentions_in gs) r) (all_tail z)
      (all_tail d) (all_tail l) (all_tail o) (all_tail p))

module _ (f : List ℕ) (w : WellFormed f) (b : Bytes f) (l : length (closed f) ≤ largest) where
  file : IsFile f
  file = well-formed-file f w

  abbrev order : List ℕ
  order = new_order (fields f)

  abbrev table : List ℕ
  table = new_table (fields f)

  f-listing : listing 255 f ≡ record { fields = file.first ∷ file.others; ending = end_at (length f) }
  f-listing = framed-listing f b file.first file.others file.framed

  f-fields : fields f ≡ file.first ∷ file.others
  f-fields = ap (λ (x : Listing). x.fields) f-listing

  -- the strings of the file's pool, and those of the closed one
  pub strings : List (List ℕ)
  strings = file.strings

  pub closed_strings : List (List ℕ)
  closed_strings = chosen strings order

  strings-are : strings_of file.first.body ≡ strings
  unfolding strings
  strings-are = ap strings_in file.pool

  -- EVERY MENTIONED NUMBER has a new number for the same string
  pub renumbers : All (Renumbers strings closed_strings (new_number table)) (mentions_in (fields f))
  unfolding closed_strings
  renumbers = mentioned-renumbers (fields f) strings (file-below f w b)

  closed_of : All (FieldOf (closed f)) (closed_from order table 4 (file.first ∷ file.others))
  closed_of =
      subst (All (FieldOf (closed f))) (closed-fields f b l ∙ ap (closed_from order table 4) f-fields)
      (chain-fields (closed f) false 0 4 (fields (closed f)) (listing-chain (closed f) 255))

  f-of : All (FieldOf f) (file.first ∷ file.others)
  f-of = subst (All (FieldOf f)) f-fields (chain-fields f false 0 4 (fields f) (listing-chain f 255))

  pool-closed : parse_pool (closed_data order table file.first.id file.first.body) ≡ got closed_strings []
  unfolding closed_data closed_strings
  pool-closed =
      rw (eq-eqb file.first.id 0 file.framed.is-first)
      (pool-reads-back file.first.body order (order-few (fields f)) ∙ ap (λ (ts : List (List ℕ)). got (chosen ts order) []) strings-are)

  -- THE FILES SAY THE SAME
  pub same-files : SameFiles f (closed f) strings closed_strings
  unfolding closed_from mentions_in strings closed_strings
  same-files =
      let g = file.first in
      let gs = file.others in
      let k = closed_at order table 4 g in
      let ks = closed_from order table k.past gs in
      let r : All (Renumbers file.strings (chosen file.strings order) (new_number table)) (numbers_of g.id g.body ++ mentions_in gs)
      = subst (λ (l : List Field). All (Renumbers file.strings (chosen file.strings order) (new_number table))
      (mentions_in l)) f-fields renumbers in
      let b' : Beside (SameField f (closed f) file.strings (chosen file.strings order)) f (closed f) = record {
        whole = ap (λ (x : Listing). x.ending) f-listing;
        whole' = ap (λ (x : Listing). x.ending) (closed-listing f b l);
        first = g;
        first' = k;
        others = gs;
        others' = ks;
        splits = f-fields;
        splits' = closed-fields f b l ∙ ap (closed_from order table 4) f-fields;
        is-first = file.framed.is-first;
        is-first' = file.framed.is-first;
        ids = λ x y s. s.same_id;
        pairs = closed-pairs f (closed f) file.strings order table (order-few (fields f)) k.past gs (ordered-some 0 gs file.framed.ordered)
            (all_right (numbers_of g.id g.body) (mentions_in gs) r) file.zones file.aliases file.locations (all_tail f-of)
            (all_tail closed_of);
      } in
      record { beside = b'; of-file = all_head f-of; of-file' = all_head closed_of; pool = file.pool; pool' = pool-closed }
