-- The named question beside the check: it keeps what the check keeps, up to the zone or field 3 that decides it. Assumes nothing.
use Rattle.base.specs.declared.Refusal.{Refusal}
use Rattle.base.specs.declared.Refusal.TheVariants.{BadData, NotFound, TooManySteps}
use Rattle.std.specs.Prelude.{Err, Ok, Result}
use mathlib.Core.Path.{◌≡◌, refl, sym, ap, ◌∙◌, subst}
use mathlib.Core.Bool.{Bool, true, false}
use mathlib.Core.List.{List, [], ◌++◌}
use mathlib.Core.Logic.{◌⊎◌, inl, inr}
use Prim.Native.Nat.{ℕ, ◌+◌, ◌≤◌}
use native.Mathlib.Omega.{arith}
use lib.ListN.{length}
use lib.Dec.{eqb}
use borrow.Author.Tests.{eq-eqb, ne_eqb, lt-ltb, le-ltb, eqb-true, eqb-false}
use Rattle.base.specs.Pick.{pick}
use Rattle.base.specs.Run.{stop}
use Rattle.base.specs.Parsed.{Parsed, got, bad}
use Rattle.base.proofs.Tests.{clash}
use Rattle.texts.specs.Text.{read_text}
use Rattle.pool.specs.Pool.{strings_of}
use Rattle.zones.specs.Content.{Zone}
use Rattle.zones.specs.Editions.{under}
use Rattle.zones.specs.Lookup.{in_zone}
use Rattle.zones.specs.declared.Edition.{Edition}
use Rattle.aliases.specs.Dictionary.{Dictionary}
use Rattle.aliases.specs.Field.{parse_aliases, entries_in, entries_of}
use Rattle.alias_lookup.specs.Lookup.{Named, here, unknown, deep, lookup, most}
use Rattle.frames.specs.Frame.{Field}
use Rattle.frames.specs.Machine.{Out, found, refused, Content, bad as fault, answer, keep, verdict}
use Rattle.field_checks.specs.Check.{Memory, placed, with_text, text_in, text_kept, aliases_in, aliases_kept, judged, HasId}
use Rattle.answers.specs.Answers.{Pool, answered}
use Rattle.answers.specs.declared.Found.{Found}
use Rattle.questions.specs.Question.{answer_at}
use Rattle.named_fields.specs.Named.{Known, zone_in, zones_of, text_says, resolved, alias_says, says}
use Rattle.demands.proofs.Beside.{Alike, Passed, keeps, answers}

-- what is known of a field up to ID 2: field 0 has the file's pool, and no zone has the asked ID
pub record Prior (ts : List (List ℕ)) (id : List ℕ) (g : Field) : Type 0 where
  pub pool-is : g.id ≡ 0 → strings_of g.body ≡ ts
  pub low : g.id ≤ 2
  pub other : HasId ts id g → ⊥

abbrev pub Beside : List (List ℕ) → Memory → Known → Type 0
Beside ts x k = Alike ts x k.pool

module _ (ts : List (List ℕ)) (id : List ℕ) (ed : Edition) (t : ℕ) (x x' : Memory) (k : Known) (r : Beside ts x k) (g : Field) where
  -- field 0 and a zone, where the old question keeps them or answers
  old-keeps : Passed ts id g → judged x g.id g.start g.body ≡ keep x' → (k' : Known) × (says (answer_at ed t) id k g ≡ keep k') × Beside ts x' k'
  unfolding says
  old-keeps p e =
      let w = keeps ts id ed t x x' k.pool r g p e in
      (record { pool = w.0; zones = k.zones ++ zones_of (strings_of w.0.body) g }, rw (lt-ltb g.id 2 (omega (arith, p.low)), w.1), w.2)

  pub named-answers : (h : HasId ts id g) → judged x g.id g.start g.body ≡ keep x' → says (answer_at ed t) id k g ≡ answer (answered k.pool (in_zone t (under ed h.zone)))
  unfolding says
  named-answers h e = rw (lt-ltb g.id 2 (omega (arith, h.is-zone)), answers ts id ed t x x' k.pool r g h e)

  -- field 2
  text-keeps : (u : Result (ℕ × ℕ) Refusal) → text_in x g.start (length g.body) u ≡ keep x' → (text_says {A = Found} k (length g.body) u ≡ keep k) × (x'.pool ≡ x.pool)
  text-keeps (Err n) e = clash cc
  text-keeps (Ok (b, n)) e = go (eqb (b + n) (length g.body)) e
    where
      go : (y : Bool) → pick {A = Content Memory ⊥} y (keep (with_text x (placed (g.start + b) n))) (fault BadData) ≡ keep x' → (pick {A = Content Known Found} y (keep k) (fault BadData) ≡ keep k) × (x'.pool ≡ x.pool)
      go true q = let w : with_text x (placed (g.start + b) n) ≡ x' = cc in (refl, ap (λ (m : Memory). m.pool) (sym w))
      go false q = clash cc

  two-keeps : g.id ≡ 2 → judged x g.id g.start g.body ≡ keep x' → (k' : Known) × (says (answer_at ed t) id k g ≡ keep k') × Beside ts x' k'
  unfolding says judged text_kept
  two-keeps i e =
      let w = text-keeps (read_text g.body) (rw (ne_eqb g.id 0 (omega arith), ne_eqb g.id 1 (omega arith), eq-eqb g.id 2 i) at e) in
      (k, rw (le-ltb g.id 2 (omega arith), eq-eqb g.id 2 i) w.0, record { same = w.1 ∙ r.same; which = go r.which w.1 })
    where
      go : (x.pool ≡ ts) ⊎ (x.pool ≡ []) → x'.pool ≡ x.pool → (x'.pool ≡ ts) ⊎ (x'.pool ≡ [])
      go (inl h) q = inl (q ∙ h)
      go (inr h) q = inr (q ∙ h)

  -- a field up to ID 2 that the check keeps, and that isn't the asked zone, is kept
  pub named-keeps : Prior ts id g → judged x g.id g.start g.body ≡ keep x' → (k' : Known) × (says (answer_at ed t) id k g ≡ keep k') × Beside ts x' k'
  named-keeps p e = go (eqb g.id 2) refl
    where
      go : (b : Bool) → eqb g.id 2 ≡ b → (k' : Known) × (says (answer_at ed t) id k g ≡ keep k') × Beside ts x' k'
      go true h = two-keeps (eqb-true g.id 2 h) e
      go false h =
          let n : g.id ≡ 2 → ⊥ = eqb-false g.id 2 h in
          old-keeps (record { pool-is = p.pool-is; low = omega (arith, p.low); other = p.other }) e

  -- at field 3 it stops, with where the name leads
  pub alias-says : g.id ≡ 3 → judged x g.id g.start g.body ≡ keep x'
      → says (answer_at ed t) id k g ≡ resolved (answer_at ed t) k.pool (lookup (zone_in k.zones) (entries_of (strings_of k.pool.body) g.body) most id)
  unfolding says judged aliases_kept
  alias-says i e =
      rw (le-ltb g.id 2 (omega arith), ne_eqb g.id 2 (omega arith))
      (go (parse_aliases (strings_of k.pool.body) g.body) (subst (λ (ss : List (List ℕ)). aliases_in x (parse_aliases ss g.body) ≡ keep x') r.same (rw (ne_eqb g.id 0 (omega arith), ne_eqb g.id 1 (omega arith), ne_eqb g.id 2 (omega arith), eq-eqb g.id 3 i) at e)))
    where
      go : (p : Parsed Dictionary) → aliases_in x p ≡ keep x' → alias_says (answer_at ed t) id k p ≡ resolved (answer_at ed t) k.pool (lookup (zone_in k.zones) (entries_in p) most id)
      go (got es q) h = refl
      go (bad n) h = clash cc

-- where a name leads is a stop
abbrev pub resolved_at : Edition → ℕ → Field → Pool → Named Zone → Out Known Found
resolved_at ed t g p (here b) = found (answered p (in_zone t (under ed b))) g.past
resolved_at ed t g p unknown = refused NotFound g.place
resolved_at ed t g p deep = refused TooManySteps g.place

pub resolved-stops : (ed : Edition) (t : ℕ) (g : Field) (p : Pool) (n : Named Zone) → verdict g (resolved (answer_at ed t) p n) ≡ stop (resolved_at ed t g p n)
resolved-stops ed t g p (here b) = refl
resolved-stops ed t g p unknown = refl
resolved-stops ed t g p deep = refl
