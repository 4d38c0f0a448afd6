-- What the named question remembers behind fields that it keeps. Assumes nothing.
use Rattle.base.specs.declared.Refusal.{Refusal}
use Rattle.base.specs.declared.Refusal.TheVariants.{BadData}
use Rattle.std.specs.Prelude.{Err, Ok, Result}
use mathlib.Core.Path.{◌≡◌, refl, sym, ap, ◌∙◌}
use mathlib.Core.Bool.{Bool, true, false}
use mathlib.Core.List.{List, [], ◌∷◌, ◌++◌, append-nil, append_assoc}
use Prim.Native.Nat.{ℕ, ◌+◌, ◌≤◌, ◌<◌}
use native.Mathlib.Omega.{arith}
use lib.ListN.{length}
use lib.Dec.{eqb, ltb}
use borrow.Author.Tests.{eq-eqb, ne_eqb, lt-ltb, eqb-true}
use Rattle.base.specs.Pick.{pick}
use Rattle.base.specs.Run.{next}
use Rattle.base.specs.Parsed.{Parsed, got, bad}
use Rattle.base.specs.All.{All}
use Rattle.base.proofs.AllLaws.{all_head, all_tail}
use Rattle.base.proofs.Tests.{clash}
use Rattle.texts.specs.Text.{read_text}
use Rattle.pool.specs.Pool.{parse_pool, strings_of}
use Rattle.zones.specs.Content.{Zone}
use Rattle.zones.specs.Parse.{parse_zone}
use Rattle.zones.specs.declared.Edition.{Edition}
use Rattle.aliases.specs.Dictionary.{Dictionary}
use Rattle.aliases.specs.Field.{parse_aliases}
use Rattle.alias_lookup.specs.Lookup.{Named, here, unknown, deep, lookup, most}
use Rattle.frames.specs.Frame.{Field}
use Rattle.frames.specs.Machine.{Content, bad as fault, answer, keep, verdict, onward}
use Rattle.frames.specs.Fields.{pass}
use Rattle.answers.specs.Answers.{Pool}
use Rattle.answers.specs.declared.Found.{Found}
use Rattle.locate.specs.Asked.{pool_says, says as asked_says}
use Rattle.questions.specs.Question.{answer_at}
use Rattle.questions.proofs.NameLaws.{zone-keeps}
use Rattle.named_fields.specs.Named.{Seen, Known, nothing, zone_in, zones_of, seen_of, remembered, text_says, resolved, alias_says, says}

-- what is remembered behind fields that are kept, the first of them aside
pub record Grown (k k' : Known) (gs : List Field) : Type 0 where
  pub pool-is : k'.pool ≡ k.pool
  pub zones-are : k'.zones ≡ k.zones ++ seen_of (strings_of k.pool.body) gs

module _ (id : List ℕ) (ed : Edition) (t : ℕ) where
  -- the question by ID keeps the pool behind field 0
  asked-same : (y y' : Pool) (g : Field) → 0 < g.id → asked_says (answer_at ed t) id y g ≡ keep y' → y' ≡ y
  unfolding asked_says
  asked-same y y' g l e =
      zone-keeps (λ (q : Pool). q ≡ y) id ed t y (parse_zone (length (strings_of y.body)) g.body) y' (rw (ne_eqb g.id 0 (omega arith)) at e) refl

  abbrev Grows : Known → Known → Field → Type 0
  Grows k k' g = (k'.pool ≡ k.pool) × (k'.zones ≡ k.zones ++ zones_of (strings_of k.pool.body) g)

  asked-grown : (k : Known) (g : Field) → 0 < g.id → (c : Content Pool Found) → asked_says (answer_at ed t) id k.pool g ≡ c → (k' : Known) → remembered k g c ≡ keep k' → Grows k k' g
  asked-grown k g l (fault n) e k' h = clash cc
  asked-grown k g l (answer v) e k' h = clash cc
  asked-grown k g l (keep p) e k' h =
      let w : record { pool = p; zones = k.zones ++ zones_of (strings_of p.body) g } ≡ k' = cc in
      (ap (λ (m : Known). m.pool) (sym w) ∙ asked-same k.pool p g l e, ap (λ (m : Known). m.zones) (sym w) ∙ ap (λ (y : Pool). k.zones ++ zones_of (strings_of y.body) g) (asked-same k.pool p g l e))

  no-zone : (k : Known) (g : Field) → (g.id ≡ 1 → ⊥) → k.zones ++ zones_of (strings_of k.pool.body) g ≡ k.zones
  unfolding zones_of
  no-zone k g n = rw (ne_eqb g.id 1 n) (append-nil k.zones)

  text_same : (k k' : Known) (size : ℕ) (u : Result (ℕ × ℕ) Refusal) → text_says {A = Found} k size u ≡ keep k' → k ≡ k'
  text_same k k' size (Err n) e = clash cc
  text_same k k' size (Ok (b, n)) e = go (eqb (b + n) size) e
    where
      go : (y : Bool) → pick {A = Content Known Found} y (keep k) (fault BadData) ≡ keep k' → k ≡ k'
      go true q = cc
      go false q = clash cc

  resolved-keeps : {G : Type 0} (p : Pool) (n : Named Zone) (k' : Known) → resolved (answer_at ed t) p n ≡ keep k' → G
  resolved-keeps p (here b) k' e = clash cc
  resolved-keeps p unknown k' e = clash cc
  resolved-keeps p deep k' e = clash cc

  alias-keeps : {G : Type 0} (k k' : Known) (p : Parsed Dictionary) → alias_says (answer_at ed t) id k p ≡ keep k' → G
  alias-keeps k k' (got es q) e = resolved-keeps k.pool (lookup (zone_in k.zones) es most id) k' e
  alias-keeps k k' (bad n) e = clash cc

  pub field-grown : (k k' : Known) (g : Field) → 0 < g.id → says (answer_at ed t) id k g ≡ keep k' → Grows k k' g
  unfolding says
  field-grown k k' g l = go (ltb g.id 2) (eqb g.id 2) refl
    where
      go : (a b : Bool) → eqb g.id 2 ≡ b
          → pick a (remembered k g (asked_says (answer_at ed t) id k.pool g)) (pick b (text_says k (length g.body) (read_text g.body)) (alias_says (answer_at ed t) id k (parse_aliases (strings_of k.pool.body) g.body))) ≡ keep k'
          → Grows k k' g
      go true b q e = asked-grown k g l (asked_says (answer_at ed t) id k.pool g) refl k' e
      go false true q e =
          let w : k ≡ k' = text_same k k' (length g.body) (read_text g.body) e in
          let i : g.id ≡ 2 = eqb-true g.id 2 q in
          (ap (λ (m : Known). m.pool) (sym w), ap (λ (m : Known). m.zones) (sym w) ∙ sym (no-zone k g (λ o. omega arith)))
      go false false q e = alias-keeps k k' (parse_aliases (strings_of k.pool.body) g.body) e

  pub pass-grown : (gs : List Field) (k k' : Known) → All (λ h. 0 < h.id) gs → pass (says (answer_at ed t) id) k gs ≡ next k' → Grown k k' gs
  unfolding pass seen_of
  pass-grown [] k k' a h = let w : k ≡ k' = cc in record { pool-is = ap (λ (m : Known). m.pool) (sym w); zones-are = ap (λ (m : Known). m.zones) (sym w) ∙ sym (append-nil k.zones) }
  pass-grown (g ∷ gs) k k' a h = go (says (answer_at ed t) id k g) refl h (λ k''. pass-grown gs k'' k' (all_tail a))
    where
      go : (c : Content Known Found) → says (answer_at ed t) id k g ≡ c → onward (verdict g c) (λ m. pass (says (answer_at ed t) id) m gs) ≡ next k'
          → ((k'' : Known) → pass (says (answer_at ed t) id) k'' gs ≡ next k' → Grown k'' k' gs) → Grown k k' (g ∷ gs)
      go (fault n) e q rec = clash cc
      go (answer v) e q rec = clash cc
      go (keep k'') e q rec =
          let w = field-grown k k'' g (all_head a) e in
          let u = rec k'' q in
          record {
            pool-is = u.pool-is ∙ w.0;
            zones-are = u.zones-are ∙ ap (λ (zs : List Seen). zs ++ seen_of (strings_of k''.pool.body) gs) w.1
                ∙ ap (λ (y : Pool). (k.zones ++ zones_of (strings_of k.pool.body) g) ++ seen_of (strings_of y.body) gs) w.0
                ∙ append_assoc k.zones (zones_of (strings_of k.pool.body) g) (seen_of (strings_of k.pool.body) gs);
          }

  -- up to ID 1 the question by ID keeps what this one keeps, and has its pool
  pub pass-asked : (gs : List Field) (k k' : Known) → All (λ h. h.id ≤ 1) gs → pass (says (answer_at ed t) id) k gs ≡ next k' → pass (asked_says (answer_at ed t) id) k.pool gs ≡ next k'.pool
  unfolding pass says
  pass-asked [] k k' a h = let w : k ≡ k' = cc in rw w
  pass-asked (g ∷ gs) k k' a h = go (asked_says (answer_at ed t) id k.pool g) refl (rw (lt-ltb g.id 2 (omega (arith, all_head a))) at h) (λ k''. pass-asked gs k'' k' (all_tail a))
    where
      go : (c : Content Pool Found) → asked_says (answer_at ed t) id k.pool g ≡ c → onward (verdict g (remembered k g c)) (λ m. pass (says (answer_at ed t) id) m gs) ≡ next k'
          → ((k'' : Known) → pass (says (answer_at ed t) id) k'' gs ≡ next k' → pass (asked_says (answer_at ed t) id) k''.pool gs ≡ next k'.pool)
          → onward (verdict g c) (λ m. pass (asked_says (answer_at ed t) id) m gs) ≡ next k'.pool
      go (fault n) e q rec = clash cc
      go (answer v) e q rec = clash cc
      go (keep p) e q rec = rec (record { pool = p; zones = k.zones ++ zones_of (strings_of p.body) g }) q

  -- field 0 first
  pub pass-first-pool : (g : Field) (gs : List Field) (k' : Known) → g.id ≡ 0 → All (λ h. 0 < h.id) gs → pass (says (answer_at ed t) id) nothing (g ∷ gs) ≡ next k'
      → (k'.pool ≡ record { start = g.start; body = g.body }) × (k'.zones ≡ seen_of (strings_of g.body) (g ∷ gs))
  unfolding pass says asked_says seen_of
  pass-first-pool g gs k' i a h = go (parse_pool g.body) (rw (lt-ltb g.id 2 (omega arith), eq-eqb g.id 0 i) at h)
    where
      k'' : Known
      k'' = record { pool = record { start = g.start; body = g.body }; zones = [] ++ zones_of (strings_of g.body) g }

      go : (p : Parsed (List (List ℕ))) → onward (verdict g (remembered nothing g (pool_says g p))) (λ m. pass (says (answer_at ed t) id) m gs) ≡ next k'
          → (k'.pool ≡ record { start = g.start; body = g.body }) × (k'.zones ≡ zones_of (strings_of g.body) g ++ seen_of (strings_of g.body) gs)
      go (bad n) q = clash cc
      go (got ss r) q = let u = pass-grown gs k'' k' a q in (u.pool-is, u.zones-are)
