-- The check over the fields of the preferred file: it keeps what it keeps of the file's. Assumes nothing.
use Rattle.base.specs.declared.Refusal.{Refusal}
use Rattle.base.specs.declared.Refusal.TheVariants.{BadData, SecondZone}
use Rattle.std.specs.Prelude.{Err, Ok, Result}
use mathlib.Core.Path.{◌≡◌, refl, sym, ap, ◌∙◌, subst⁻¹}
use mathlib.Core.Bool.{Bool, true, false}
use mathlib.Core.List.{List, [], ◌∷◌}
use Prim.Native.Nat.{ℕ, ◌+◌}
use native.Mathlib.Omega.{arith}
use lib.ListN.{length, get_or}
use lib.Dec.{eqb}
use Rattle.base.specs.Pick.{pick}
use Rattle.base.specs.Parsed.{Parsed, got, bad as faulty}
use Rattle.base.specs.Run.{next}
use Rattle.base.proofs.Parts.{Bytes}
use Rattle.texts.specs.Text.{read_text}
use Rattle.pool.specs.Pool.{Pool, parse_pool}
use Rattle.zones.specs.Content.{Zone}
use Rattle.zones.specs.Parse.{parse_zone}
use Rattle.ids.specs.Ids.{among}
use Rattle.aliases.specs.Dictionary.{Dictionary}
use Rattle.aliases.specs.Field.{parse_aliases}
use Rattle.frames.specs.Frame.{Field}
use Rattle.frames.specs.Machine.{Content, bad, keep}
use Rattle.frames.specs.Fields.{FieldOf, fields, pass}
use Rattle.base.specs.All.{All, all_none, all-also}
use Rattle.base.proofs.AllLaws.{all_head, all_tail}
use Rattle.frames.proofs.ChainLaws.{listing-chain, chain-fields}
use Rattle.frames.proofs.PassLaws.{pass-head}
use Rattle.field_checks.specs.Check.{text_in, text_kept, aliases_in, aliases_kept, judged, job, WellFormed, file_pool, locations_in, locations_kept}
use Rattle.field_checks.specs.Check.{placed, Memory, start, with_pool, with_id, with_text, pool_in, pool_kept, new_id, zone_in, zone_kept}
use Rattle.field_checks.specs.Check.{Kind, pool_field, zone_field, text_field, alias_field, other_field, kind_of, content_by, location_field}
use Rattle.locations.specs.Content.{Location, id_of, parse_locations}
use Rattle.locations.specs.declared.LocationField.{LocationField}
use Rattle.locations.specs.declared.LocationField.TheVariants.{Zone as Locations, Zone1970 as Locations1970}
use Rattle.field_checks.proofs.KindLaws.{KindId, kind-id}
use Rattle.field_checks.specs.File.{AsZone}
use Rattle.field_checks.proofs.ZoneIdLaws.{zones-read}
use Rattle.rewrite.proofs.KeptLaws.{preferred_data, FieldKept, IsZone, field-kept, field-bytes}
use Rattle.rewrite.proofs.MovedLaws.{moved_to, moved}
use Rattle.base.proofs.Tests.{clash}

not-one : (field : LocationField) → id_of field ≡ 1 → ⊥
not-one Locations e = omega arith
not-one Locations1970 e = omega arith

no-keep : {G : Type 0} {n : Refusal} {m : Memory} → ◌≡◌ {A = Content Memory ⊥} (bad n) (keep m) → G
no-keep e = clash cc

-- the preferred data of every field of a well-formed file keep all that the zone's law says
pub fields-kept : (f : List ℕ) → WellFormed f → Bytes f → All FieldKept (fields f)
fields-kept f w b = go (file_pool (fields f)) (fields f) (zones-read f w) (chain-fields f false 0 4 (fields f) (listing-chain f 255))
  where
    go : (ts : List (List ℕ)) (gs : List Field) → All (AsZone ts) gs → All (FieldOf f) gs → All FieldKept gs
    go ts [] r o = all_none
    go ts (g ∷ gs) r o =
        let z : g.id ≡ 1 → IsZone g.body = λ i. record {
          pool = length ts;
          content = (all_head r i).zone;
          rest = [];
          parsed = (all_head r i).parsed;
        } in
        all-also (field-kept g (field-bytes f g b (all_head o)) z) (go ts gs (all_tail r) (all_tail o))

-- the same pool and the same IDs; the place of the version text may differ
pub record SameMemory (x y : Memory) : Type 0 where
  pub pool : y.pool ≡ x.pool
  pub ids : y.ids ≡ x.ids

-- this keeps the same as x'
abbrev Beside : Memory → Content Memory ⊥ → Type 0
Beside x' c = (y' : Memory) × (c ≡ keep y') × SameMemory x' y'

module _ (x x' y : Memory) (s : SameMemory x y) where
  pool-moved : (p : Pool) → pool_in x p ≡ keep x' → Beside x' (pool_in y p)
  pool-moved (faulty n) e = no-keep e
  pool-moved (got ts r) e = let z : with_pool x ts ≡ x' = cc in (with_pool y ts, refl, rw (← z) (record { pool = refl; ids = s.ids }))

  id-moved : (b : List ℕ) → new_id x b ≡ keep x' → Beside x' (new_id y b)
  unfolding new_id
  id-moved b e = rw (ap (among b) s.ids) (go (among b x.ids) e)
    where
      go : (t : Bool) → pick {A = Content Memory ⊥} t (bad SecondZone) (keep (with_id x b)) ≡ keep x'
          → Beside x' (pick t (bad SecondZone) (keep (with_id y b)))
      go true h = no-keep h
      go false h = let z : with_id x b ≡ x' = cc in (with_id y b, refl, rw (← z) (record { pool = s.pool; ids = ap (λ (l : List (List ℕ)). b ∷ l) s.ids }))

  zone-moved : (d d' : List ℕ) → ((pool : ℕ) (z : Zone) (r : List ℕ) → parse_zone pool d ≡ got z r → parse_zone pool d' ≡ got z [])
      → zone_kept x d ≡ keep x' → Beside x' (zone_kept y d')
  unfolding zone_kept
  zone-moved d d' k e = go (parse_zone (length x.pool) d) refl e
    where
      go : (p : Parsed Zone) → parse_zone (length x.pool) d ≡ p → zone_in x p ≡ keep x' → Beside x' (zone_in y (parse_zone (length y.pool) d'))
      go (faulty n) q h = no-keep h
      go (got z r) q h =
          let e : parse_zone (length y.pool) d' ≡ got z [] = ap (λ (ts : List (List ℕ)). parse_zone (length ts) d') s.pool ∙ k (length x.pool) z r q in
          rw e (id-moved (get_or y.pool z.id []) (subst⁻¹ (λ (ts : List (List ℕ)). new_id x (get_or ts z.id []) ≡ keep x') s.pool h))

  text-moved : (a a' : ℕ) (d : List ℕ) → text_kept x a d ≡ keep x' → Beside x' (text_kept y a' d)
  unfolding text_kept
  text-moved a a' d e = go (read_text d) e
    where
      two : (b n : ℕ) (t : Bool) → pick {A = Content Memory ⊥} t (keep (with_text x (placed (a + b) n))) (bad BadData) ≡ keep x'
          → Beside x' (pick t (keep (with_text y (placed (a' + b) n))) (bad BadData))
      two b n true h =
          let z : with_text x (placed (a + b) n) ≡ x' = cc in
          (with_text y (placed (a' + b) n), refl, rw (← z) (record { pool = s.pool; ids = s.ids }))
      two b n false h = no-keep h

      go : (t : Result (ℕ × ℕ) Refusal) → text_in x a (length d) t ≡ keep x' → Beside x' (text_in y a' (length d) t)
      go (Err n) h = no-keep h
      go (Ok (b, n)) h = two b n (eqb (b + n) (length d)) h

  aliases-moved : (d : List ℕ) → aliases_kept x d ≡ keep x' → Beside x' (aliases_kept y d)
  unfolding aliases_kept
  aliases-moved d e = subst⁻¹ (λ (ts : List (List ℕ)). Beside x' (aliases_in y (parse_aliases ts d))) s.pool (go (parse_aliases x.pool d) e)
    where
      go : (p : Parsed Dictionary) → aliases_in x p ≡ keep x' → Beside x' (aliases_in y p)
      go (faulty n) h = no-keep h
      go (got es r) h = let w : x ≡ x' = cc in (y, refl, rw w at s)

  locations-moved : (field : LocationField) (d : List ℕ) → locations_kept x field d ≡ keep x' → Beside x' (locations_kept y field d)
  unfolding locations_kept
  locations-moved field d e = go (parse_locations field (length x.pool) d) refl e
    where
      go : (p : Parsed (List Location)) → parse_locations field (length x.pool) d ≡ p → locations_in x p ≡ keep x' → Beside x' (locations_in y (parse_locations field (length y.pool) d))
      go (faulty n) q h = no-keep h
      go (got ls r) q h =
          let z : x ≡ x' = cc in
          let w : parse_locations field (length y.pool) d ≡ got ls r = ap (λ (ts : List (List ℕ)). parse_locations field (length ts) d) s.pool ∙ q in
          rw w (y, refl, rw z at s)

  field-moved : (g : Field) (at : ℕ) → FieldKept g → job.content x g ≡ keep x' → Beside x' (job.content y (moved_to at g))
  unfolding judged pool_kept
  field-moved g at k e = go (kind_of g.id) (kind-id g.id) e
    where
      go : (t : Kind) → KindId g.id t → content_by t x g.start g.body ≡ keep x'
          → Beside x' (content_by t y (moved_to at g).start (preferred_data g.id g.body))
      go pool_field i h =
          let c : preferred_data g.id g.body ≡ g.body = k.copied (λ j. omega arith) in
          rw c (pool-moved (parse_pool g.body) h)
      go zone_field i h = zone-moved g.body (preferred_data g.id g.body) (k.zone i) h
      go text_field i h =
          let c : preferred_data g.id g.body ≡ g.body = k.copied (λ j. omega arith) in
          rw c (text-moved g.start _ g.body h)
      go alias_field i h =
          let c : preferred_data g.id g.body ≡ g.body = k.copied (λ j. omega arith) in
          rw c (aliases-moved g.body h)
      go (location_field field) i h =
          let c : preferred_data g.id g.body ≡ g.body = k.copied (λ j. not-one field (sym i ∙ j)) in
          rw c (locations-moved field g.body h)
      go other_field i h = let w : x ≡ x' = cc in (y, refl, rw w at s)

-- THE CHECK KEEPS THE MOVED FIELDS
pub pass-moved : (gs : List Field) (at : ℕ) (x x' y : Memory) → All FieldKept gs → SameMemory x y → pass job.content x gs ≡ next x'
    → (y' : Memory) × (pass job.content y (moved at gs) ≡ next y') × SameMemory x' y'
unfolding pass moved
pass-moved [] at x x' y a s h = let z : x ≡ x' = cc in (y, refl, rw z at s)
pass-moved (g ∷ gs) at x x' y a s h =
    let p = pass-head job.content x x' g gs h in
    let q = field-moved x p.0 y s g at (all_head a) p.1 in
    let t = pass-moved gs (moved_to at g).past p.0 x' q.0 (all_tail a) q.2 (rw p.1 at h) in
    (t.0, rw q.1 t.1, t.2)
