-- WELL FORMED, BY THE BYTES: a file is well formed exactly where it is version, fields and contents as document 01 has them. Assumes nothing.
use Rattle.base.specs.declared.Refusal.{Refusal}
use Rattle.base.specs.declared.Refusal.TheVariants.{BadData, TooLarge}
use Rattle.std.specs.Prelude.{Err, Ok, Result}
use mathlib.Core.Path.{◌≡◌, refl, sym, ap, ◌∙◌, subst⁻¹}
use mathlib.Core.Bool.{Bool, true, false}
use mathlib.Core.List.{List, [], ◌∷◌, ◌++◌, append_assoc}
use Prim.Native.Nat.{ℕ, ◌+◌, ◌<◌}
use native.Mathlib.Omega.{arith}
use lib.Dec.{ltb, eqb}
use lib.ListN.{length, take, drop, get_or, length-drop, drop_of_length-le}
use borrow.Author.Tests.{eq-eqb, ne_eqb, eqb-true, eqb-false}
use Rattle.base.specs.Pick.{pick}
use Rattle.base.specs.Run.{next}
use Rattle.base.specs.Bytes.{Bytes}
use Rattle.base.specs.Equal.{equal}
use Rattle.base.specs.All.{All, all_none, all-also}
use Rattle.base.specs.Parsed.{Parsed, got, bad as faulty, parse, ended as ended'}
use Rattle.base.proofs.AllLaws.{all_head, all_tail}
use Rattle.base.proofs.EqualLaws.{equal-true}
use Rattle.base.proofs.ParseLaws.{bad-got, bind-good, ended-good, pick-bad, got-rest}
use Rattle.base.proofs.Tests.{never, clash}
use Rattle.counts.specs.Count.{read_count}
use Rattle.texts.specs.Text.{read_text, behind_text}
use Rattle.texts.proofs.TextLaws.{held}
use Rattle.pool.specs.Pool.{Pool, read_strings, all_strings, counted, parse_pool, strings_of}
use Rattle.locations.specs.Content.{Location, parse_locations}
use Rattle.locations.specs.declared.LocationField.{LocationField}
use Rattle.locations.specs.declared.LocationField.TheVariants.{Zone as Locations, Zone1970 as Locations1970}
use Rattle.locations.proofs.FindLaws.{locations-end}
use Rattle.ids.specs.Ids.{among}
use Rattle.aliases.proofs.PairLaws.{pairs-good}
use Rattle.frames.specs.Frame.{Field}
use Rattle.frames.specs.Machine.{Content, bad, keep}
use Rattle.frames.specs.Fields.{Listing, fields, pass, over}
use Rattle.frames.proofs.CoverLaws.{ordered-some, framed-listing, listing-framed}
use Rattle.frames.proofs.PassLaws.{pass-head}
use Rattle.frames.proofs.PartLaws.{walk-ended}
use Rattle.frames.proofs.WalkLaws.{walk-pass}
use Rattle.field_checks.specs.Check.{placed, Memory, start, with_pool, with_id, with_text, pool_in, pool_kept, new_id, zone_kept, text_in, text_kept, aliases_kept, judged}
use Rattle.field_checks.specs.Check.{job, WellFormed, file_pool, HasId, locations_in, locations_kept, later_kind, content_by}
use Rattle.field_checks.specs.File.{ZoneData, AsZone, TextData, AsText, AliasData, AsAliases, IsFile, LocationData, AsLocations}
use Rattle.field_checks.proofs.ZoneIdLaws.{one-zone, zones-read, aliases-read, field-grows, first-pool}

-- THE CHECK KEEPS EVERY FIELD OF SUCH A FILE
-- one of the fields pre has the ID x
record Seen (ts : List (List ℕ)) (x : List ℕ) (pre : List Field) : Type 0 where
  prior : List Field
  at : Field
  after : List Field
  splits : pre ≡ prior ++ at ∷ after
  has : HasId ts x at

record Known (ts : List (List ℕ)) (pre : List Field) (m : Memory) : Type 0 where
  pool : m.pool ≡ ts
  seen : (x : List ℕ) → among x m.ids ≡ true → Seen ts x pre

module _ (ts : List (List ℕ)) (pre : List Field) (m : Memory) (k : Known ts pre m) (g : Field) where
  abbrev Kept : Type 0
  Kept = (m' : Memory) × (job.content m g ≡ keep m') × Known ts (pre ++ g ∷ []) m'

  later : (x : List ℕ) → Seen ts x pre → Seen ts x (pre ++ g ∷ [])
  later x s = record {
    prior = s.prior;
    at = s.at;
    after = s.after ++ g ∷ [];
    splits = ap (λ (l : List Field). l ++ g ∷ []) s.splits ∙ append_assoc s.prior (s.at ∷ s.after) (g ∷ []);
    has = s.has;
  }

  known_on : (m' : Memory) → m'.pool ≡ m.pool → m'.ids ≡ m.ids → Known ts (pre ++ g ∷ []) m'
  known_on m' p i = record { pool = p ∙ k.pool; seen = λ x e. later x (k.seen x (ap (among x) (sym i) ∙ e)) }

  zone-kept : g.id ≡ 1 → ZoneData ts g.body → ((x : List ℕ) → Seen ts x pre → HasId ts x g → ⊥) → Kept
  unfolding judged zone_kept new_id among
  zone-kept i z apart =
      let x = get_or ts z.zone.id [] in
      let h : HasId ts x g = record { zone = z.zone; rest = []; is-zone = i; parsed = z.parsed; bytes = refl } in
      let new : among x m.ids ≡ false = fresh x h (among x m.ids) refl in (
        with_id m x,
        rw (ne_eqb g.id 0 (λ e. omega arith), eq-eqb g.id 1 i, k.pool, z.parsed, new),
        record { pool = k.pool; seen = λ y e. by y (equal x y) refl e h },
      )
    where
      fresh : (x : List ℕ) → HasId ts x g → (t : Bool) → among x m.ids ≡ t → t ≡ false
      fresh x h false e = refl
      fresh x h true e = absurd (apart x (k.seen x e) h)

      by : (y : List ℕ) {x : List ℕ} (t : Bool) → equal x y ≡ t → pick t true (among y m.ids) ≡ true → HasId ts x g → Seen ts y (pre ++ g ∷ [])
      by y {x} true e q h = record { prior = pre; at = g; after = []; splits = refl; has = subst⁻¹ (λ (u : List ℕ). HasId ts u g) (sym (equal-true x y e)) h }
      by y {x} false e q h = later y (k.seen y q)

  text-kept : g.id ≡ 2 → TextData g.body → Kept
  unfolding judged text_kept
  text-kept i t = go (read_text g.body) refl t.parsed
    where
      go : (r : Result (ℕ × ℕ) Refusal) → read_text g.body ≡ r → behind_text g.body r ≡ got t.text [] → Kept
      go (Err n) e q = bad-got q
      go (Ok (a, n)) e q =
          let w = held g.body a n e in
          let l : length (drop (a + n) g.body) ≡ 0 = ap length (got-rest q) in
          let s : a + n ≡ length g.body = omega (arith, rw length-drop at l, w.inside) in
          let m' = with_text m (placed (g.start + a) n) in
          (m', rw (ne_eqb g.id 0 (λ e. omega arith), ne_eqb g.id 1 (λ e. omega arith), eq-eqb g.id 2 i, e, eq-eqb (a + n) (length g.body) s), known_on m' refl refl)

  aliases-kept : g.id ≡ 3 → AliasData ts g.body → Kept
  unfolding judged aliases_kept
  aliases-kept i d = (
    m,
    rw (ne_eqb g.id 0 (λ e. omega arith), ne_eqb g.id 1 (λ e. omega arith), ne_eqb g.id 2 (λ e. omega arith), eq-eqb g.id 3 i, k.pool, pairs-good ts g.body d.entries d.pairs),
    known_on m refl refl,
  )

  -- a field of which nothing is remembered
  later-kept : 3 < g.id → content_by (later_kind g.id) m g.start g.body ≡ keep m → Kept
  unfolding judged
  later-kept l e = (
    m,
    rw (ne_eqb g.id 0 (λ e. omega arith), ne_eqb g.id 1 (λ e. omega arith), ne_eqb g.id 2 (λ e. omega arith), ne_eqb g.id 3 (λ e. omega arith)) e,
    known_on m refl refl,
  )

  locations-kept : (field : LocationField) → LocationData field ts g.body → locations_kept m field g.body ≡ keep m
  unfolding locations_kept
  locations-kept field d = rw (k.pool, d.parsed)

  field-kept : 0 < g.id → AsZone ts g → AsText g → AsAliases ts g → AsLocations ts g → ((x : List ℕ) → Seen ts x pre → HasId ts x g → ⊥) → Kept
  field-kept p z t d ls a = by-id (eqb g.id 1) refl (eqb g.id 2) refl (eqb g.id 3) refl
    where
      later : (u : Bool) → eqb g.id 6 ≡ u → (v : Bool) → eqb g.id 7 ≡ v → content_by (later_kind g.id) m g.start g.body ≡ keep m
      later true e v q = rw e (locations-kept Locations (ls Locations (eqb-true g.id 6 e)))
      later false e true q = rw (e, q) (locations-kept Locations1970 (ls Locations1970 (eqb-true g.id 7 q)))
      later false e false q = rw (e, q)

      by-id : (u : Bool) → eqb g.id 1 ≡ u → (v : Bool) → eqb g.id 2 ≡ v → (w : Bool) → eqb g.id 3 ≡ w → Kept
      by-id true e v q w r = let i = eqb-true g.id 1 e in zone-kept i (z i) a
      by-id false e true q w r = let i = eqb-true g.id 2 q in text-kept i (t i)
      by-id false e false q true r = let i = eqb-true g.id 3 r in aliases-kept i (d i)
      by-id false e false q false r =
          let n = eqb-false g.id 1 e in
          let o = eqb-false g.id 2 q in
          let l = eqb-false g.id 3 r in
          later-kept (omega arith) (later (eqb g.id 6) refl (eqb g.id 7) refl)

module _ (ts : List (List ℕ)) where
  pass_kept : (pre gs : List Field) (m : Memory) → Known ts pre m → All (λ g. 0 < g.id) gs → All (AsZone ts) gs → All AsText gs → All (AsAliases ts) gs
      → All (AsLocations ts) gs
      → ((cs : List Field) (g : Field) (bs : List Field) (h : Field) (is : List Field) (x : List ℕ) → pre ++ gs ≡ cs ++ g ∷ (bs ++ h ∷ is)
      → HasId ts x g → HasId ts x h → ⊥)
      → (m' : Memory) × (pass job.content m gs ≡ next m')
  unfolding pass
  pass_kept pre [] m k p z t d l a = (m, refl)
  pass_kept pre (g ∷ gs) m k p z t d l a =
      let n = field-kept ts pre m k g (all_head p) (all_head z) (all_head t) (all_head d) (all_head l) one in
      let r = pass_kept (pre ++ g ∷ []) gs n.0 n.2 (all_tail p) (all_tail z) (all_tail t) (all_tail d) (all_tail l)
      (λ cs g' bs h is x e. a cs g' bs h is x (sym (append_assoc pre (g ∷ []) gs) ∙ e)) in
      (r.0, rw n.1 r.1)
    where
      one : (x : List ℕ) → Seen ts x pre → HasId ts x g → ⊥
      one x s h =
          a s.prior s.at s.after g gs x
          (ap (λ (l : List Field). l ++ g ∷ gs) s.splits ∙ append_assoc s.prior (s.at ∷ s.after) (g ∷ gs)) s.has h

pub file-well-formed : (f : List ℕ) → Bytes f → IsFile f → WellFormed f
unfolding pass judged pool_kept among
file-well-formed f b g =
    let l = framed-listing f b g.first g.others g.framed in
    let m : Memory = with_pool start g.strings in
    let r = pass_kept g.strings [] g.others m (record { pool = refl; seen = λ x e. never e refl }) (ordered-some 0 g.others g.framed.ordered)
    g.zones g.texts g.aliases g.locations g.apart in
    let c : job.content start g.first ≡ keep m = rw (eq-eqb g.first.id 0 g.framed.is-first, g.pool) in
    record {
      memory = r.0;
      ends = walk-pass job start f ∙ ap (over job.content start) l ∙ rw (c, r.1);
      some-field = λ e. let n : g.first ∷ g.others ≡ [] = sym (ap (λ (x : Listing). x.fields) l) ∙ e in clash cc;
    }

-- THE OTHER WAY
text-is : (m m' : Memory) (g : Field) → job.content m g ≡ keep m' → AsText g
unfolding judged text_kept
text-is m m' g e i =
    go (read_text g.body) refl (rw (ne_eqb g.id 0 (λ z. omega arith), ne_eqb g.id 1 (λ z. omega arith), eq-eqb g.id 2 i) at e)
  where
    go : (t : Result (ℕ × ℕ) Refusal) → read_text g.body ≡ t → text_in m g.start (length g.body) t ≡ keep m' → TextData g.body
    go (Err n) q h = clash cc
    go (Ok (a, n)) q h = by (eqb (a + n) (length g.body)) refl h
      where
        by : (t : Bool) → eqb (a + n) (length g.body) ≡ t → pick {A = Content Memory ⊥} t (keep (with_text m (placed (g.start + a) n))) (bad BadData) ≡ keep m' → TextData g.body
        by true s k = record {
          text = take n (drop a g.body);
          parsed = rw q (ap (got (take n (drop a g.body))) (drop_of_length-le g.body {i = a + n} (omega (arith, eqb-true (a + n) (length g.body) s))));
        }
        by false s k = clash cc

pass-texts : (gs : List Field) (m m' : Memory) → pass job.content m gs ≡ next m' → All AsText gs
unfolding pass
pass-texts [] m m' h = all_none
pass-texts (g ∷ gs) m m' h =
    let s = pass-head job.content m m' g gs h in
    all-also (text-is m s.0 g s.1) (pass-texts gs s.0 m' (rw s.1 at h))

-- a field that the check keeps, with the pool's strings that it remembers
locations-are : (m m' : Memory) (g : Field) → job.content m g ≡ keep m' → AsLocations m.pool g
unfolding judged locations_kept
locations-are m m' g e Locations i =
    go (parse_locations Locations (length m.pool) g.body) refl
    (rw (ne_eqb g.id 0 (λ z. omega arith), ne_eqb g.id 1 (λ z. omega arith), ne_eqb g.id 2 (λ z. omega arith), ne_eqb g.id 3 (λ z. omega arith), eq-eqb g.id 6 i) at e)
  where
    go : (p : Parsed (List Location)) → parse_locations Locations (length m.pool) g.body ≡ p → locations_in m p ≡ keep m' → LocationData Locations m.pool g.body
    go (faulty n) q h = clash cc
    go (got ls r) q h = record { locations = ls; parsed = q ∙ ap (got ls) (locations-end Locations (length m.pool) g.body ls r q) }
locations-are m m' g e Locations1970 i =
    go (parse_locations Locations1970 (length m.pool) g.body) refl
    (rw (ne_eqb g.id 0 (λ z. omega arith), ne_eqb g.id 1 (λ z. omega arith), ne_eqb g.id 2 (λ z. omega arith), ne_eqb g.id 3 (λ z. omega arith), ne_eqb g.id 6 (λ z. omega arith), eq-eqb g.id 7 i) at e)
  where
    go : (p : Parsed (List Location)) → parse_locations Locations1970 (length m.pool) g.body ≡ p → locations_in m p ≡ keep m' → LocationData Locations1970 m.pool g.body
    go (faulty n) q h = clash cc
    go (got ls r) q h = record { locations = ls; parsed = q ∙ ap (got ls) (locations-end Locations1970 (length m.pool) g.body ls r q) }

pass-rest : (g : Field) (gs : List Field) (m m'' m' : Memory) → job.content m g ≡ keep m'' → pass job.content m (g ∷ gs) ≡ next m'
    → pass job.content m'' gs ≡ next m'
unfolding pass
pass-rest g gs m m'' m' e h = rw e at h

pass-locations : (ts : List (List ℕ)) (gs : List Field) (m m' : Memory) → m.pool ≡ ts → All (λ g. 0 < g.id) gs → pass job.content m gs ≡ next m'
    → All (AsLocations ts) gs
unfolding pass
pass-locations ts [] m m' p a h = all_none
pass-locations ts (g ∷ gs) m m' p a h =
    let s = pass-head job.content m m' g gs h in
    let w = field-grows m g (all_head a) s.0 s.1 in
    all-also (rw p at (locations-are m s.0 g s.1)) (pass-locations ts gs s.0 m' (w.pool ∙ p) (all_tail a) (rw s.1 at h))

pool-is : (m : Memory) (g : Field) → job.content start g ≡ keep m → g.id ≡ 0 → parse_pool g.body ≡ got (strings_of g.body) []
unfolding judged pool_kept counted all_strings
pool-is m g e i = go (parse_pool g.body) refl (rw (eq-eqb g.id 0 i) at e)
  where
    go : (p : Pool) → parse_pool g.body ≡ p → pool_in start p ≡ keep m → parse_pool g.body ≡ got (strings_of g.body) []
    go (faulty n) q h = clash cc
    go (got ts r) q h =
        let a = bind-good (parse read_count g.body) counted ts r q in
        let c = pick-bad (ltb 8192 a.first) (all_strings a.first a.rest) TooLarge ts r a.on in
        let d = bind-good (read_strings a.first a.rest) ended' ts r c.1 in
        let n : r ≡ [] = (ended-good d.first ts d.rest r d.on).2 in
        rw q (ap (got ts) n)

pub well-formed-file : (f : List ℕ) → WellFormed f → IsFile f
unfolding file_pool
well-formed-file f w = go (fields f) refl
  where
    go : (gs : List Field) → fields f ≡ gs → IsFile f
    go [] e = absurd (w.some-field e)
    go (g ∷ gs) e =
        let t = walk-ended job start w.memory f (length f) w.ends in
        let r = listing-framed f g gs t.whole e in
        let k : pass job.content start (g ∷ gs) ≡ next w.memory = rw e at t.kept in
        let s = pass-head job.content start w.memory g gs k in
        let p : file_pool (fields f) ≡ strings_of g.body = ap file_pool e in
        record {
          first = g;
          others = gs;
          framed = r;
          strings = strings_of g.body;
          pool = pool-is s.0 g s.1 r.is-first;
          zones = all_tail (rw (p, e) at (zones-read f w));
          aliases = all_tail (rw (p, e) at (aliases-read f w));
          texts = all_tail (pass-texts (g ∷ gs) start w.memory k);
          locations = pass-locations (strings_of g.body) gs s.0 w.memory (first-pool g s.0 r.is-first s.1) (ordered-some 0 gs r.ordered) (pass-rest g gs start s.0 w.memory s.1 k);
          apart = λ gs₁ g' hs h is x t m n. one-zone f w (g ∷ gs₁) g' hs h is x (e ∙ ap (λ (l : List Field). g ∷ l) t) (subst⁻¹ (λ (ss : List (List ℕ)). HasId ss x g') p m) (subst⁻¹ (λ (ss : List (List ℕ)). HasId ss x h) p n);
        }
