-- THE VERSION TEXT OF A WELL-FORMED FILE, both ways: that of its field 2, and 12 at the bytes' end where there is none. Assumes nothing.
use Rattle.base.specs.declared.Refusal.{Refusal}
use Rattle.base.specs.declared.Refusal.TheVariants.{BadData}
use Rattle.std.specs.Prelude.{Err, Ok, Result}
use mathlib.Core.Path.{◌≡◌, refl, sym, ap, ◌∙◌, subst}
use mathlib.Core.Bool.{Bool, true, false}
use mathlib.Core.List.{List, [], ◌∷◌, ◌++◌}
use mathlib.Core.Logic.{inl, inr}
use Prim.Native.Nat.{ℕ, ◌+◌, ◌≤◌, ◌<◌}
use native.Mathlib.Omega.{arith}
use lib.Dec.{eqb}
use lib.IntN.{pos}
use lib.ListN.{length}
use borrow.Author.Tests.{eq-eqb, ne_eqb, eqb-true}
use Rattle.base.specs.Pick.{pick}
use Rattle.base.specs.Run.{next}
use Rattle.base.specs.Numbers.{answering, refusing}
use Rattle.base.specs.All.{All, all_none, all-also}
use Rattle.base.proofs.AllLaws.{all_head, all_tail, all_right}
use Rattle.base.specs.Parsed.{Parsed, got, bad as faulty}
use Rattle.texts.specs.Text.{read_text}
use Rattle.aliases.specs.Dictionary.{Dictionary}
use Rattle.aliases.specs.Field.{parse_aliases}
use Rattle.frames.specs.Frame.{Field}
use Rattle.frames.specs.Machine.{Content, bad, keep}
use Rattle.frames.specs.Fields.{FieldOf, fields, pass}
use Rattle.frames.specs.Covers.{Next, rises, again, InOrder}
use Rattle.frames.proofs.ChainLaws.{Chain, listing-chain, chain-fields}
use Rattle.frames.proofs.CoverLaws.{chain-ordered}
use Rattle.frames.proofs.PassLaws.{pass-first, pass-head}
use Rattle.frames.proofs.PartLaws.{walk-ended}
use Rattle.field_checks.specs.Check.{TextPlace, nowhere, placed, Memory, start, with_text, text_in, text_kept, aliases_in, aliases_kept, judged, job, concluded, conclusion}
use Rattle.field_checks.specs.Check.{Kind, pool_field, zone_field, text_field, alias_field, other_field, kind_of, content_by}
use Rattle.field_checks.specs.Check.{text_given, version_of, WellFormed}
use Rattle.field_checks.specs.Numbers.{given_by_version_text}
use Rattle.field_checks.specs.Version.{GivesText, ReadsText}
use Rattle.field_checks.proofs.KindLaws.{KindId, kind-id}
use Rattle.field_checks.specs.Check.{Kind, pool_field, zone_field, text_field, location_field, other_field, kind_of, content_by}
use Rattle.field_checks.proofs.ZoneIdLaws.{locations-same}
use Rattle.field_checks.proofs.VersionLaws.{InField, Came, earlier, among, pass-text, text-bytes}
use Rattle.field_checks.proofs.WellFormedLaws.{some-field}
use Rattle.base.proofs.Tests.{clash}

-- field 2 sets the text
kept-text : (m m' : Memory) (g : Field) → g.id ≡ 2 → job.content m g ≡ keep m' → (a : ℕ) × (n : ℕ) × (m'.text ≡ placed a n) × InField g a n
unfolding judged text_kept
kept-text m m' g i e =
    go (read_text g.body) refl (rw (ne_eqb g.id 0 (λ z. omega arith), ne_eqb g.id 1 (λ z. omega arith), eq-eqb g.id 2 i) at e)
  where
    go : (t : Result (ℕ × ℕ) Refusal) → read_text g.body ≡ t → text_in m g.start (length g.body) t ≡ keep m' → (a : ℕ) × (n : ℕ) × (m'.text ≡ placed a n) × InField g a n
    go (Err n) q h = clash cc
    go (Ok (b, n)) q h = by (eqb (b + n) (length g.body)) refl h
      where
        by : (t : Bool) → eqb (b + n) (length g.body) ≡ t → pick {A = Content Memory ⊥} t (keep (with_text m (placed (g.start + b) n))) (bad BadData) ≡ keep m'
            → (a : ℕ) × (k : ℕ) × (m'.text ≡ placed a k) × InField g a k
        by true s k =
            let z : with_text m (placed (g.start + b) n) ≡ m' = cc in
            (g.start + b, n, sym (ap (λ (y : Memory). y.text) z), record { is-text = i; behind = b; read = q; place = refl; whole = eqb-true (b + n) (length g.body) s })
        by false s k = clash cc

-- and no field behind it does
later-keeps : (m m' : Memory) (g : Field) → 2 < g.id → job.content m g ≡ keep m' → m ≡ m'
unfolding judged aliases_kept
later-keeps m m' g l e = go (kind_of g.id) (kind-id g.id) e
  where
    aliases : (p : Parsed Dictionary) → aliases_in m p ≡ keep m' → m ≡ m'
    aliases (faulty n) h = clash cc
    aliases (got es r) h = cc

    go : (k : Kind) → KindId g.id k → content_by k m g.start g.body ≡ keep m' → m ≡ m'
    go pool_field i h = absurd (omega arith)
    go zone_field i h = absurd (omega arith)
    go text_field i h = absurd (omega arith)
    go alias_field i h = aliases (parse_aliases m.pool g.body) h
    go (location_field field) i h = locations-same m m' field g.body h
    go other_field i h = cc

later-text : (gs : List Field) (m m' : Memory) → All (λ g. 2 < g.id) gs → pass job.content m gs ≡ next m' → m'.text ≡ m.text
unfolding pass
later-text [] m m' a h = let z : m ≡ m' = cc in sym (ap (λ (y : Memory). y.text) z)
later-text (g ∷ gs) m m' a h =
    let s = pass-head job.content m m' g gs h in
    later-text gs s.0 m' (all_tail a) (rw s.1 at h) ∙ ap (λ (y : Memory). y.text) (sym (later-keeps m s.0 g (all_head a) s.1))

above-two : (prev : ℕ) (gs : List Field) → 2 ≤ prev → InOrder prev gs → All (λ g. 2 < g.id) gs
above-two prev [] l o = all_none
above-two prev (g ∷ gs) l o = let p = go o.0 in all-also p (above-two g.id gs (omega arith) o.1)
  where
    go : Next prev g.id → 2 < g.id
    go (rises r) = omega arith
    go (again e (inl i)) = absurd (omega arith)
    go (again e (inr i)) = omega arith

chain-from : (f : List ℕ) (seen : Bool) (prev at : ℕ) (gs : List Field) (g : Field) (hs : List Field) → Chain f seen prev at (gs ++ g ∷ hs)
    → Chain f true g.id g.past hs
chain-from f seen prev at [] g hs c = c.3
chain-from f seen prev at (h ∷ gs) g hs c = chain-from f true h.id h.past gs g hs c.3

text-given : (t : TextPlace) (a n p : ℕ) → t ≡ placed a n → (p ≡ 4 → ⊥) → given_by_version_text (text_given (concluded t p)) ≡ answering (pos a ∷ pos n ∷ [])
unfolding concluded
text-given t a n p e o = rw (e, ne_eqb p 4 o)

none-given : (t : TextPlace) (p : ℕ) → t ≡ nowhere → (p ≡ 4 → ⊥) → given_by_version_text (text_given (concluded t p)) ≡ refusing 12 p
unfolding concluded
none-given t p e o = rw (e, ne_eqb p 4 o)

pub version-text : (f : List ℕ) → WellFormed f → ReadsText f
unfolding conclusion pass
version-text f w = record { has = has; lacks = lacks w.memory.text refl }
  where
    long : length f ≡ 4 → ⊥
    long e = omega (arith, some-field f (fields f) (listing-chain f 255) w.some-field)

    kept : pass job.content start (fields f) ≡ next w.memory
    kept = (walk-ended job start w.memory f (length f) w.ends).kept

    has : (gs : List Field) (g : Field) (hs : List Field) → fields f ≡ gs ++ g ∷ hs → g.id ≡ 2 → GivesText f g
    has gs g hs s i =
        let q = pass-first job.content start w.memory gs (g ∷ hs) (subst (λ (l : List Field). pass job.content start l ≡ next w.memory) s kept) in
        let p = pass-head job.content q.0 w.memory g hs q.2 in
        let u = kept-text q.0 p.0 g i p.1 in
        let c = chain-from f false 0 4 gs g hs (subst (Chain f false 0 4) s (listing-chain f 255)) in
        let r : pass job.content p.0 hs ≡ next w.memory = rw p.1 at q.2 in
        let l = later-text hs p.0 w.memory (above-two g.id hs (omega arith) (chain-ordered f g.id g.past hs c)) r in
        let o = all_head (all_right gs (g ∷ hs) (subst (All (FieldOf f)) s (chain-fields f false 0 4 (fields f) (listing-chain f 255)))) in
        let t = text-bytes f g u.0 u.1 o u.3 in
        record {
          place = u.0;
          size = u.1;
          given = rw w.ends (text-given w.memory.text u.0 u.1 (length f) (l ∙ u.2) long);
          bytes = t.0;
          within = t.1;
        }

    lacks : (t : TextPlace) → w.memory.text ≡ t → All (λ g. g.id ≡ 2 → ⊥) (fields f) → given_by_version_text (version_of f) ≡ refusing 12 (length f)
    lacks nowhere e a = rw w.ends (none-given w.memory.text (length f) e long)
    lacks (placed b n) e a = absurd (none (pass-text (fields f) start w.memory b n kept e))
      where
        none : Came start (fields f) b n → ⊥
        none (earlier k) = clash cc
        none (among x) = all_head (all_right x.prior (x.at ∷ x.after) (subst (All (λ g. g.id ≡ 2 → ⊥)) x.split a)) x.holds.is-text
