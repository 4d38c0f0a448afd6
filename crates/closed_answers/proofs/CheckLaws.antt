-- THE CHECK, on two files whose fields say the same one by one: where it takes the first, it takes the second, and the version texts are the same.
-- Assumes nothing.
use Rattle.base.specs.declared.Refusal.{Refusal}
use Rattle.base.specs.declared.Refusal.TheVariants.{BadData, SecondZone}
use Rattle.std.specs.Prelude.{Err, Ok, Result}
use mathlib.Core.Path.{◌≡◌, refl, sym, ap, ◌∙◌, subst⁻¹}
use mathlib.Core.Bool.{Bool, true, false}
use mathlib.Core.List.{List, [], ◌∷◌}
use Prim.Native.Nat.{ℕ, ◌+◌, ◌≤◌}
use native.Mathlib.Omega.{arith}
use lib.Dec.{eqb}
use lib.ListN.{length, get_or, take, drop}
use borrow.Author.Tests.{eq-eqb, ne_eqb, eqb-true, le-leb}
use Rattle.base.specs.Pick.{pick}
use Rattle.base.specs.Parsed.{got}
use Rattle.base.proofs.Tests.{clash}
use Rattle.texts.specs.Text.{read_text}
use Rattle.pool.specs.Pool.{parse_pool}
use Rattle.ids.specs.Ids.{among}
use Rattle.zones.specs.Content.{Zone}
use Rattle.zones.specs.Parse.{parse_zone}
use Rattle.aliases.specs.Dictionary.{Dictionary}
use Rattle.aliases.specs.Field.{parse_aliases}
use Rattle.locations.specs.Content.{Location, parse_locations}
use Rattle.locations.specs.declared.LocationField.{LocationField}
use Rattle.frames.specs.Frame.{Field}
use Rattle.frames.specs.Fields.{FieldOf, fields}
use Rattle.frames.specs.Machine.{Out, ended, Content, bad, keep, walk}
use Rattle.frames.proofs.ChainLaws.{listing-chain}
use Rattle.frames.proofs.PartLaws.{walk-ended}
use Rattle.field_checks.specs.Check.{TextPlace, nowhere, placed, Memory, start, with_pool, with_id, with_text, pool_kept}
use Rattle.field_checks.specs.Check.{new_id, zone_in, zone_kept, text_in, text_kept, aliases_in, aliases_kept, locations_in, locations_kept}
use Rattle.field_checks.specs.Check.{Kind, pool_field, zone_field, text_field, alias_field, location_field, other_field, kind_of, content_by, judged, job}
use Rattle.field_checks.specs.Check.{concluded, conclusion, text_given, version_of, WellFormed}
use Rattle.field_checks.proofs.KindLaws.{KindId, kind-id}
use Rattle.field_checks.proofs.VersionLaws.{InField, text-bytes}
use Rattle.field_checks.proofs.WellFormedLaws.{some-field}
use Rattle.closed_answers.specs.Closed.{SameVersion, both-part, both-no-part}
use Rattle.closed_answers.proofs.BesideLaws.{SameContent, both-bad, both-keep, SameOut}
use Rattle.closed_answers.proofs.BesideLaws.{both_found, both-refused, both-cut, both-ended, walk-beside}
use Rattle.closed_answers.proofs.SameLaws.{SameZoneData, SameAliasData, SameLocationData, SameField, SameFiles}

-- the version texts of f and h that were seen
data SameText (f h : List ℕ) : TextPlace → TextPlace → Type 0 where
  no_text : SameText f h nowhere nowhere
  both-text : {a b n : ℕ} → a + n ≤ length f → b + n ≤ length h → take n (drop a f) ≡ take n (drop b h) → SameText f h (placed a n) (placed b n)

record SameMemory (f h : List ℕ) (ts us : List (List ℕ)) (m n : Memory) : Type 0 where
  pool : m.pool ≡ ts
  pool' : n.pool ≡ us
  ids : n.ids ≡ m.ids
  text : SameText f h m.text n.text

-- what the check makes of a zone, of field 3 and of locations, where ts is the pool that it remembers
module _ (ts : List (List ℕ)) (m : Memory) (p : m.pool ≡ ts) (d : List ℕ) where
  zone-is : (z : Zone) → parse_zone (length ts) d ≡ got z [] → zone_kept m d ≡ new_id m (get_or ts z.id [])
  unfolding zone_kept
  zone-is z e =
      ap (λ (ss : List (List ℕ)). zone_in m (parse_zone (length ss) d)) p ∙ ap (zone_in m) e
      ∙ ap (λ (ss : List (List ℕ)). new_id m (get_or ss z.id [])) p

  aliases-are : (es : Dictionary) → parse_aliases ts d ≡ got es [] → aliases_kept m d ≡ keep m
  unfolding aliases_kept
  aliases-are es e = ap (λ (ss : List (List ℕ)). aliases_in m (parse_aliases ss d)) p ∙ ap (aliases_in m) e

  locations-are : (field : LocationField) (ls : List Location) → parse_locations field (length ts) d ≡ got ls [] → locations_kept m field d ≡ keep m
  unfolding locations_kept
  locations-are field ls e = ap (λ (ss : List (List ℕ)). locations_in m (parse_locations field (length ss) d)) p ∙ ap (locations_in m) e

-- the check answers from no field
abbrev None : ⊥ → ⊥ → Type 0
None v w = Unit {0}

module _ (f h : List ℕ) (ts us : List (List ℕ)) where
  abbrev Same : Content Memory ⊥ → Content Memory ⊥ → Type 0
  Same x y = SameContent (SameMemory f h ts us) None x y

  module _ (m n : Memory) (r : SameMemory f h ts us m n) where
    id_same : (x : List ℕ) → Same (new_id m x) (new_id n x)
    unfolding new_id
    id_same x = rw (ap (among x) r.ids) (go (among x m.ids))
      where
        go : (t : Bool) → Same (pick t (bad SecondZone) (keep (with_id m x))) (pick t (bad SecondZone) (keep (with_id n x)))
        go true = both-bad
        go false = both-keep (record { pool = r.pool; pool' = r.pool'; ids = ap (λ (l : List (List ℕ)). x ∷ l) r.ids; text = r.text })

    zone-checked : (d e : List ℕ) → SameZoneData ts us d e → Same (zone_kept m d) (zone_kept n e)
    zone-checked d e z =
        rw (zone-is ts m r.pool d z.zone z.parsed, zone-is us n r.pool' e z.zone' z.parsed', z.same.id)
        (id_same (get_or ts z.zone.id []))

    text-checked : (g k : Field) → g.id ≡ 2 → k.id ≡ 2 → FieldOf f g → FieldOf h k → k.body ≡ g.body
        → Same (text_kept m g.start g.body) (text_kept n k.start g.body)
    unfolding text_kept
    text-checked g k i j o p e = go (read_text g.body) refl
      where
        two : (b v : ℕ) → read_text g.body ≡ Ok (b, v) → (t : Bool) → eqb (b + v) (length g.body) ≡ t
            → Same (pick t (keep (with_text m (placed (g.start + b) v))) (bad BadData)) (pick t (keep (with_text n (placed (k.start + b) v))) (bad BadData))
        two b v q true s =
            let w = eqb-true (b + v) (length g.body) s in
            let x : InField g (g.start + b) v = record { is-text = i; behind = b; read = q; place = refl; whole = w } in
            let y : InField k (k.start + b) v = record { is-text = j; behind = b; read = rw e q; place = refl; whole = rw e w } in
            let u = text-bytes f g (g.start + b) v o x in
            let u' = text-bytes h k (k.start + b) v p y in
            both-keep (record { pool = r.pool; pool' = r.pool'; ids = r.ids; text = both-text u.1 u'.1 (u.0 ∙ sym (u'.0 ∙ rw e)) })
        two b v q false s = both-bad

        go : (t : Result (ℕ × ℕ) Refusal) → read_text g.body ≡ t → Same (text_in m g.start (length g.body) t) (text_in n k.start (length g.body) t)
        go (Err c) q = both-bad
        go (Ok (b, v)) q = two b v q (eqb (b + v) (length g.body)) refl

    aliases-checked : (d e : List ℕ) → SameAliasData ts us d e → Same (aliases_kept m d) (aliases_kept n e)
    aliases-checked d e a =
        rw (aliases-are ts m r.pool d a.entries a.parsed, aliases-are us n r.pool' e a.entries a.parsed') (both-keep r)

    locations-checked : (field : LocationField) (d e : List ℕ) → SameLocationData field ts us d e
        → Same (locations_kept m field d) (locations_kept n field e)
    locations-checked field d e a =
        rw (locations-are ts m r.pool d field a.locations a.parsed, locations-are us n r.pool' e field a.locations' a.parsed')
        (both-keep r)

    field-checked : (g k : Field) → SameField f h ts us g k → Same (job.content m g) (job.content n k)
    unfolding judged
    field-checked g k a =
        subst⁻¹ (λ (i : ℕ). Same (judged m g.id g.start g.body) (judged n i k.start k.body)) a.same_id
        (go (kind_of g.id) (kind-id g.id))
      where
        go : (t : Kind) → KindId g.id t → Same (content_by t m g.start g.body) (content_by t n k.start k.body)
        go pool_field i = absurd (omega (arith, a.some))
        go zone_field i = zone-checked g.body k.body (a.zone i)
        go text_field i =
            subst⁻¹ (λ (d : List ℕ). Same (text_kept m g.start g.body) (text_kept n k.start d)) (a.text i)
            (text-checked g k i (a.same_id ∙ i) a.of-file a.of-file' (a.text i))
        go alias_field i = aliases-checked g.body k.body (a.aliases i)
        go (location_field field) i = locations-checked field g.body k.body (a.locations field i)
        go other_field i = both-keep r

first-checked : (ts : List (List ℕ)) (g : Field) → g.id ≡ 0 → parse_pool g.body ≡ got ts [] → job.content start g ≡ keep (with_pool start ts)
unfolding judged pool_kept
first-checked ts g i e = rw (eq-eqb g.id 0 i, e)

module _ (f h : List ℕ) (ts us : List (List ℕ)) (s : SameFiles f h ts us) where
  check-same : SameOut (SameMemory f h ts us) None (walk job start f) (walk job start h)
  check-same =
      let b = s.beside in
      walk-beside (SameMemory f h ts us) None (SameField f h ts us) f h b job job refl
      (λ m n g k a l r. field-checked f h ts us m n r g k a) start _ start _
      (first-checked ts b.first b.is-first s.pool) (first-checked us b.first' b.is-first' s.pool')
      (record { pool = refl; pool' = refl; ids = refl; text = no_text })

  -- what the check remembers of the second file
  record Ended (m : Memory) : Type 0 where
    memory : Memory
    place : ℕ
    ends : walk job start h ≡ ended memory place
    same : SameMemory f h ts us m memory

  ended_same : (x y : Out Memory ⊥) → SameOut (SameMemory f h ts us) None x y → walk job start h ≡ y → (m : Memory) (p : ℕ) → x ≡ ended m p → Ended m
  ended_same x y (both-ended {m = m'} {n = n} {q = q} r) e m p i =
      let z : m' ≡ m = cc in record { memory = n; place = q; ends = e; same = rw z at r }
  ended_same x y both-refused e m p i = clash cc
  ended_same x y both-cut e m p i = clash cc
  ended_same x y (both_found {v = v} q) e m p i = absurd v

  module _ (w : WellFormed f) where
    at-end : Ended w.memory
    at-end = ended_same _ _ check-same refl w.memory (length f) w.ends

    -- WELL FORMED
    pub well-formed-same : WellFormed h
    well-formed-same =
        let e = at-end in
        record {
          memory = e.memory;
          ends = e.ends ∙ ap (ended e.memory) (walk-ended job start e.memory h e.place e.ends).all;
          some-field = λ n. let z : s.beside.first' ∷ s.beside.others' ≡ [] = sym s.beside.splits' ∙ n in clash cc;
        }

    -- THE SAME VERSION TEXT
    long : (g : List ℕ) → WellFormed g → length g ≡ 4 → ⊥
    long g v e = omega (arith, some-field g (fields g) (listing-chain g 255) v.some-field)

    text_same : (x y : TextPlace) (p q : ℕ) → SameText f h x y → (p ≡ 4 → ⊥) → (q ≡ 4 → ⊥)
        → SameVersion f h (text_given (concluded x p)) (text_given (concluded y q))
    unfolding concluded
    text_same x y p q no_text a b = rw (ne_eqb p 4 a, ne_eqb q 4 b) both-no-part
    text_same x y p q (both-text {a = a} {b = b} {n = n} l l' e) c c' =
        rw (ne_eqb p 4 c, ne_eqb q 4 c') (both-part {a = a} {b = b} {n = n} (rw (le-leb (a + n) (length f) l, le-leb (b + n) (length h) l') e))

    pub version-same : SameVersion f h (version_of f) (version_of h)
    unfolding conclusion well-formed-same
    version-same =
        let v = well-formed-same in
        rw (w.ends, v.ends) (text_same w.memory.text at-end.memory.text (length f) (length h) at-end.same.text (long f w) (long h v))
