-- "a well-formed file has at most one" zone with given ID bytes. Assumes nothing.
use Rattle.base.specs.declared.Refusal.{Refusal}
use Rattle.base.specs.declared.Refusal.TheVariants.{BadData, SecondZone}
use Rattle.std.specs.Prelude.{Err, Ok, Result}
use mathlib.Core.Path.{◌≡◌, refl, sym, ◌∙◌, ap, subst}
use mathlib.Core.Bool.{Bool, true, false}
use mathlib.Core.List.{List, [], ◌∷◌, ◌++◌}
use Prim.Native.Nat.{ℕ, ◌+◌, ◌<◌}
use native.Mathlib.Omega.{arith}
use lib.ListN.{length, get_or}
use lib.Dec.{eqb}
use borrow.Author.Tests.{eq-eqb, ne_eqb}
use Rattle.base.specs.Pick.{pick}
use Rattle.base.specs.Parsed.{Parsed, got, bad as faulty}
use Rattle.base.specs.Run.{next}
use Rattle.base.proofs.Tests.{never, clash}
use Rattle.texts.specs.Text.{read_text}
use Rattle.pool.specs.Pool.{Pool, parse_pool, strings_in, strings_of}
use Rattle.base.specs.Equal.{equal}
use Rattle.base.proofs.EqualLaws.{equal-refl}
use Rattle.zones.specs.Content.{Zone}
use Rattle.zones.specs.Parse.{parse_zone}
use Rattle.locations.specs.Content.{Location, parse_locations}
use Rattle.locations.specs.declared.LocationField.{LocationField}
use Rattle.zones.proofs.SoundLaws.{zone-sound}
use Rattle.ids.specs.Ids.{among}
use Rattle.aliases.specs.Dictionary.{Dictionary}
use Rattle.aliases.specs.Field.{parse_aliases}
use Rattle.aliases.proofs.PairLaws.{good-pairs}
use Rattle.frames.specs.Frame.{Field}
use Rattle.frames.specs.Machine.{Content, bad, answer, keep, verdict, onward}
use Rattle.frames.specs.Fields.{fields, pass}
use Rattle.base.specs.All.{All, all_none, all-also}
use Rattle.base.proofs.AllLaws.{all_head, all_tail, all_left, all_right}
use Rattle.frames.proofs.ChainLaws.{Chain, listing-chain, chain_first}
use Rattle.frames.proofs.PassLaws.{pass-first, pass-head}
use Rattle.frames.proofs.PartLaws.{walk-ended}
use Rattle.field_checks.specs.Check.{Kind, pool_field, zone_field, text_field, alias_field, other_field, kind_of, content_by, location_field}
use Rattle.field_checks.specs.Check.{placed, Memory, start, with_pool, with_id, with_text, pool_in, pool_kept, new_id, zone_in}
use Rattle.field_checks.specs.Check.{zone_kept, text_in, text_kept, aliases_in, aliases_kept, judged, job, WellFormed, file_pool, HasId, locations_in, locations_kept}
use Rattle.field_checks.proofs.KindLaws.{KindId, kind-id}
use Rattle.field_checks.specs.File.{ZoneData, AsZone, AliasData, AsAliases}

-- m' has the pool of m, and its IDs at least
pub record Grown (m m' : Memory) : Type 0 where
  pub pool : m'.pool ≡ m.pool
  pub ids : (x : List ℕ) → among x m.ids ≡ true → among x m'.ids ≡ true

grown-same : (m : Memory) → Grown m m
grown-same m = record { pool = refl; ids = λ x h. h }

grown-on : (a b c : Memory) → Grown a b → Grown b c → Grown a c
grown-on a b c p q = record { pool = q.pool ∙ p.pool; ids = λ x h. q.ids x (p.ids x h) }

among-more : (x y : List ℕ) (ys : List (List ℕ)) → among x ys ≡ true → among x (y ∷ ys) ≡ true
unfolding among
among-more x y ys h = go (equal y x)
  where
    go : (t : Bool) → pick t true (among x ys) ≡ true
    go true = refl
    go false = h

abbrev pub KeepGrows : Memory → Content Memory ⊥ → Type 0
KeepGrows m x = (m' : Memory) → x ≡ keep m' → Grown m m'

bad-keeps : (m : Memory) (n : Refusal) → KeepGrows m (bad n)
bad-keeps m n m' e = clash cc

new-grows : (m : Memory) (x : List ℕ) → KeepGrows m (new_id m x)
unfolding new_id
new-grows m x = go (among x m.ids)
  where
    go : (t : Bool) → KeepGrows m (pick t (bad SecondZone) (keep (with_id m x)))
    go true m' e = bad-keeps m SecondZone m' e
    go false m' e =
        let z : with_id m x ≡ m' = cc in
        rw (← z) (record { pool = refl; ids = λ y h. among-more y x m.ids h })

zone-grows : (m : Memory) (d : List ℕ) → KeepGrows m (zone_kept m d)
unfolding zone_kept
zone-grows m d = go (parse_zone (length m.pool) d)
  where
    go : (p : Parsed Zone) → KeepGrows m (zone_in m p)
    go (faulty n) m' e = bad-keeps m n m' e
    go (got z r) m' e = new-grows m (get_or m.pool z.id []) m' e

text-grows : (m : Memory) (a : ℕ) (d : List ℕ) → KeepGrows m (text_kept m a d)
unfolding text_kept
text-grows m a d = go (read_text d)
  where
    two : (b n : ℕ) (t : Bool) → KeepGrows m (pick t (keep (with_text m (placed (a + b) n))) (bad BadData))
    two b n true m' e =
        let z : with_text m (placed (a + b) n) ≡ m' = cc in
        rw (← z) (record { pool = refl; ids = λ y h. h })
    two b n false m' e = bad-keeps m BadData m' e

    go : (t : Result (ℕ × ℕ) Refusal) → KeepGrows m (text_in m a (length d) t)
    go (Err n) m' e = bad-keeps m n m' e
    go (Ok (b, n)) m' e = two b n (eqb (b + n) (length d)) m' e

aliases-grows : (m : Memory) (d : List ℕ) → KeepGrows m (aliases_kept m d)
unfolding aliases_kept
aliases-grows m d = go (parse_aliases m.pool d)
  where
    go : (p : Parsed Dictionary) → KeepGrows m (aliases_in m p)
    go (faulty n) m' e = bad-keeps m n m' e
    go (got es r) m' e = let z : m ≡ m' = cc in rw (← z) (grown-same m)

pub locations-same : (m m' : Memory) (field : LocationField) (d : List ℕ) → locations_kept m field d ≡ keep m' → m ≡ m'
unfolding locations_kept
locations-same m m' field d = go (parse_locations field (length m.pool) d)
  where
    go : (p : Parsed (List Location)) → locations_in m p ≡ keep m' → m ≡ m'
    go (faulty n) e = clash cc
    go (got ls r) e = cc

-- a field behind the first
pub field-grows : (m : Memory) (g : Field) → 0 < g.id → KeepGrows m (job.content m g)
unfolding judged
field-grows m g l = go (kind_of g.id) (kind-id g.id)
  where
    go : (k : Kind) → KindId g.id k → KeepGrows m (content_by k m g.start g.body)
    go pool_field i m' e = absurd (omega arith)
    go zone_field i m' e = zone-grows m g.body m' e
    go text_field i m' e = text-grows m g.start g.body m' e
    go alias_field i m' e = aliases-grows m g.body m' e
    go (location_field field) i m' e = rw (← locations-same m m' field g.body e) (grown-same m)
    go other_field i m' e = let z : m ≡ m' = cc in rw (← z) (grown-same m)

pass-grows : (gs : List Field) (m m' : Memory) → All (λ g. 0 < g.id) gs → pass job.content m gs ≡ next m' → Grown m m'
unfolding pass
pass-grows [] m m' a h = let z : m ≡ m' = cc in rw (← z) (grown-same m)
pass-grows (g ∷ gs) m m' a h = go (job.content m g) refl h (λ m''. pass-grows gs m'' m' (all_tail a))
  where
    go : (x : Content Memory ⊥) → job.content m g ≡ x → onward (verdict g x) (λ y. pass job.content y gs) ≡ next m'
        → ((m'' : Memory) → pass job.content m'' gs ≡ next m' → Grown m'' m') → Grown m m'
    go (bad n) e k rec = clash cc
    go (answer v) e k rec = absurd v
    go (keep m'') e k rec = grown-on m m'' m' (field-grows m g (all_head a) m'' e) (rec m'' k)

-- the first field is the pool
pub first-pool : (g : Field) (m : Memory) → g.id ≡ 0 → job.content start g ≡ keep m → m.pool ≡ strings_of g.body
unfolding judged pool_kept
first-pool g m z e = go (parse_pool g.body) (rw (eq-eqb g.id 0 z) at e)
  where
    go : (p : Pool) → pool_in start p ≡ keep m → m.pool ≡ strings_in p
    go (faulty n) h = clash cc
    go (got ts r) h = let w : with_pool start ts ≡ m = cc in rw (← w) refl

-- a zone is kept where its ID is new, and its ID with it
zone-content : (m : Memory) (g : Field) (x : List ℕ) → HasId m.pool x g → job.content m g ≡ new_id m x
unfolding judged zone_kept
zone-content m g x h =
    rw (ne_eqb g.id 0 (λ z. omega (arith, h.is-zone)), eq-eqb g.id 1 h.is-zone, h.parsed) (ap (new_id m) h.bytes)

zone-new : (m m' : Memory) (g : Field) (x : List ℕ) → HasId m.pool x g → job.content m g ≡ keep m'
    → (among x m.ids ≡ false) × (among x m'.ids ≡ true)
unfolding new_id among
zone-new m m' g x h e = go (among x m.ids) refl (sym (zone-content m g x h) ∙ e)
  where
    go : (t : Bool) → among x m.ids ≡ t → pick {A = Content Memory ⊥} t (bad SecondZone) (keep (with_id m x)) ≡ keep m'
        → (among x m.ids ≡ false) × (among x m'.ids ≡ true)
    go true q k = clash cc
    go false q k =
        let z : with_id m x ≡ m' = cc in
        (q, rw (← z) (rw (equal-refl x)))

-- two zones with one ID are not both kept
twice : (m m' : Memory) (gs : List Field) (g : Field) (hs : List Field) (h : Field) (is : List Field) (x : List ℕ)
    → All (λ k. 0 < k.id) (gs ++ g ∷ (hs ++ h ∷ is)) → pass job.content m (gs ++ g ∷ (hs ++ h ∷ is)) ≡ next m'
    → HasId m.pool x g → HasId m.pool x h → ⊥
unfolding pass
twice m m' gs g hs h is x a e p q =
    let s₁ = pass-first job.content m m' gs (g ∷ (hs ++ h ∷ is)) e in
    let k₁ = pass-head job.content s₁.0 m' g (hs ++ h ∷ is) s₁.2 in
    let e₁ : pass job.content k₁.0 (hs ++ h ∷ is) ≡ next m' = rw k₁.1 at s₁.2 in
    let s₂ = pass-first job.content k₁.0 m' hs (h ∷ is) e₁ in
    let k₂ = pass-head job.content s₂.0 m' h is s₂.2 in
    let b = all_right gs (g ∷ (hs ++ h ∷ is)) a in
    let g₁ = pass-grows gs m s₁.0 (all_left gs (g ∷ (hs ++ h ∷ is)) a) s₁.1 in
    let g₂ = field-grows s₁.0 g (all_head b) k₁.0 k₁.1 in
    let g₃ = pass-grows hs k₁.0 s₂.0 (all_left hs (h ∷ is) (all_tail b)) s₂.1 in
    let n₁ = zone-new s₁.0 k₁.0 g x (rw g₁.pool p) k₁.1 in
    let n₂ = zone-new s₂.0 k₂.0 h x (rw (g₃.pool ∙ g₂.pool ∙ g₁.pool) q) k₂.1 in
    never (g₃.ids x n₁.1) n₂.0

-- A WELL-FORMED FILE HAS AT MOST ONE ZONE WITH GIVEN ID BYTES
pub one-zone : (f : List ℕ) → WellFormed f → (gs : List Field) (g : Field) (hs : List Field) (h : Field) (is : List Field) (x : List ℕ)
    → fields f ≡ gs ++ g ∷ (hs ++ h ∷ is) → HasId (file_pool (fields f)) x g → HasId (file_pool (fields f)) x h → ⊥
unfolding file_pool pass
one-zone f w gs g hs h is x s p q =
    go gs s (walk-ended job start w.memory f (length f) w.ends).kept (listing-chain f 255) p q
  where
    go : (gs : List Field) → fields f ≡ gs ++ g ∷ (hs ++ h ∷ is) → pass job.content start (fields f) ≡ next w.memory
        → Chain f false 0 4 (fields f) → HasId (file_pool (fields f)) x g → HasId (file_pool (fields f)) x h → ⊥
    go [] s e c p q =
        let z = chain_first f 4 g (hs ++ h ∷ is) (rw s at c) in
        omega (arith, z.0, p.is-zone)
    go (k ∷ ks) s e c p q =
        let z = chain_first f 4 k (ks ++ g ∷ (hs ++ h ∷ is)) (rw s at c) in
        let e' : pass job.content start (k ∷ (ks ++ g ∷ (hs ++ h ∷ is))) ≡ next w.memory = rw s at e in
        let m = pass-head job.content start w.memory k (ks ++ g ∷ (hs ++ h ∷ is)) e' in
        let t : file_pool (fields f) ≡ m.0.pool = ap file_pool s ∙ sym (first-pool k m.0 z.0 m.1) in
        twice m.0 w.memory ks g hs h is x z.1 (rw m.1 at e') (rw t at p) (rw t at q)

-- what is so of every field that the check keeps, with the pool that it remembers, is so of every field of a well-formed file
pass-read : (P : List (List ℕ) → Field → Type 0) → ((m m' : Memory) (g : Field) → job.content m g ≡ keep m' → P m.pool g)
    → (ts : List (List ℕ)) (gs : List Field) (m m' : Memory) → m.pool ≡ ts → All (λ g. 0 < g.id) gs → pass job.content m gs ≡ next m' → All (P ts) gs
unfolding pass
pass-read P each ts [] m m' q a h = all_none
pass-read P each ts (g ∷ gs) m m' q a h =
    let s = pass-head job.content m m' g gs h in
    let w = field-grows m g (all_head a) s.0 s.1 in
    all-also (rw q at (each m s.0 g s.1)) (pass-read P each ts gs s.0 m' (w.pool ∙ q) (all_tail a) (rw s.1 at h))

fields_read : (P : List (List ℕ) → Field → Type 0) → ((m m' : Memory) (g : Field) → job.content m g ≡ keep m' → P m.pool g)
    → ((ts : List (List ℕ)) (g : Field) → g.id ≡ 0 → P ts g) → (f : List ℕ) → WellFormed f → All (P (file_pool (fields f))) (fields f)
unfolding file_pool pass
fields_read P each first f w = go (fields f) (walk-ended job start w.memory f (length f) w.ends).kept (listing-chain f 255)
  where
    go : (gs : List Field) → pass job.content start gs ≡ next w.memory → Chain f false 0 4 gs → All (P (file_pool gs)) gs
    go [] e c = all_none
    go (g ∷ gs) e c =
        let z = chain_first f 4 g gs c in
        let s = pass-head job.content start w.memory g gs e in
        all-also (first (strings_of g.body) g z.0)
        (pass-read P each (strings_of g.body) gs s.0 w.memory (first-pool g s.0 z.0 s.1) z.1 (rw s.1 at e))

-- EVERY FIELD 1 OF A WELL-FORMED FILE IS A ZONE of the file's pool, wherever it stands
zone-read : (m m' : Memory) (g : Field) → job.content m g ≡ keep m' → AsZone m.pool g
unfolding judged zone_kept
zone-read m m' g e i = go (parse_zone (length m.pool) g.body) refl (rw (ne_eqb g.id 0 (λ z. omega arith), eq-eqb g.id 1 i) at e)
  where
    go : (p : Parsed Zone) → parse_zone (length m.pool) g.body ≡ p → zone_in m p ≡ keep m' → ZoneData m.pool g.body
    go (faulty n) h k = clash cc
    go (got z r) h k = record { zone = z; parsed = h ∙ ap (got z) (zone-sound (length m.pool) g.body z r h).1 }

pub zones-read : (f : List ℕ) → WellFormed f → All (AsZone (file_pool (fields f))) (fields f)
zones-read f w = fields_read AsZone zone-read (λ ts g z i. absurd (omega arith)) f w

-- AND ITS FIELD 3 IS A DICTIONARY
alias-read : (m m' : Memory) (g : Field) → job.content m g ≡ keep m' → AsAliases m.pool g
unfolding judged aliases_kept
alias-read m m' g e i =
    go (parse_aliases m.pool g.body) refl
    (rw (ne_eqb g.id 0 (λ z. omega arith), ne_eqb g.id 1 (λ z. omega arith), ne_eqb g.id 2 (λ z. omega arith), eq-eqb g.id 3 i) at e)
  where
    go : (p : Parsed Dictionary) → parse_aliases m.pool g.body ≡ p → aliases_in m p ≡ keep m' → AliasData m.pool g.body
    go (faulty n) h k = clash cc
    go (got es r) h k = record { entries = es; pairs = (good-pairs m.pool g.body es r h).1 }

pub aliases-read : (f : List ℕ) → WellFormed f → All (AsAliases (file_pool (fields f))) (fields f)
aliases-read f w = fields_read AsAliases alias-read (λ ts g z i. absurd (omega arith)) f w

pub each-zone : (f : List ℕ) → WellFormed f → (gs : List Field) (g : Field) (hs : List Field) → fields f ≡ gs ++ g ∷ hs → g.id ≡ 1
    → (x : List ℕ) × HasId (file_pool (fields f)) x g
each-zone f w gs g hs s i =
    let ts = file_pool (fields f) in
    let a : All (AsZone ts) (gs ++ g ∷ hs) = subst (All (AsZone ts)) s (zones-read f w) in
    let z : ZoneData ts g.body = all_head (all_right gs (g ∷ hs) a) i in
    (get_or ts z.zone.id [], record { zone = z.zone; rest = []; is-zone = i; parsed = z.parsed; bytes = refl })
