-- The question beside the check: what it keeps and where it answers. Assumes nothing.
use Rattle.base.specs.declared.Refusal.{Refusal}
use Rattle.base.specs.declared.Refusal.TheVariants.{SecondZone}
use mathlib.Core.Path.{◌≡◌, refl, sym, ap, ◌∙◌}
use mathlib.Core.Bool.{Bool, true, false}
use mathlib.Core.List.{List, []}
use mathlib.Core.Logic.{◌⊎◌, inl, inr}
use Prim.Native.Nat.{ℕ, ◌≤◌, ◌<◌}
use native.Mathlib.Omega.{arith}
use lib.Dec.{eqb}
use lib.ListN.{length, get_or}
use borrow.Author.Tests.{eq-eqb, ne_eqb, eqb-true, eqb-false}
use Rattle.base.specs.Pick.{pick}
use Rattle.base.specs.Parsed.{Parsed, got, bad}
use Rattle.pool.specs.Pool.{parse_pool, strings_in, strings_of}
use Rattle.base.specs.Equal.{equal}
use Rattle.base.proofs.EqualLaws.{equal-true, equal-refl}
use Rattle.zones.specs.Content.{Zone}
use Rattle.zones.specs.Parse.{parse_zone}
use Rattle.zones.specs.Editions.{under}
use Rattle.zones.specs.Lookup.{in_zone}
use Rattle.zones.specs.declared.Edition.{Edition}
use Rattle.zones.proofs.SoundLaws.{zone-sound}
use Rattle.ids.specs.Ids.{among}
use Rattle.frames.specs.Frame.{Field}
use Rattle.frames.specs.Machine.{Content, bad as fault, answer, keep}
use Rattle.answers.specs.Answers.{Pool, answered}
use Rattle.locate.specs.Asked.{pool_says, zone_says, says}
use Rattle.questions.specs.Question.{answer_at}
use Rattle.answers.specs.declared.Found.{Found}
use Rattle.field_checks.specs.Check.{Memory, start, pool_in, pool_kept, new_id, with_id, zone_in, zone_kept, judged, HasId}
use Rattle.base.proofs.Tests.{clash}

-- the check and the question remember the same pool, that of the file or none yet
pub record Alike (ts : List (List ℕ)) (x : Memory) (y : Pool) : Type 0 where
  pub same : x.pool ≡ strings_of y.body
  pub which : (x.pool ≡ ts) ⊎ (x.pool ≡ [])

-- what is known of a field: field 0 has the file's pool, and no zone has the asked ID
pub record Passed (ts : List (List ℕ)) (id : List ℕ) (g : Field) : Type 0 where
  pub pool-is : g.id ≡ 0 → strings_of g.body ≡ ts
  pub low : g.id ≤ 1
  pub other : HasId ts id g → ⊥

no-keep : {M A G : Type 0} {n : Refusal} {m : M} → ◌≡◌ {A = Content M A} (fault n) (keep m) → G
no-keep e = clash cc

module _ (ts : List (List ℕ)) (id : List ℕ) (ed : Edition) (t : ℕ) (x x' : Memory) (y : Pool) (r : Alike ts x y) (g : Field) where
  -- field 0
  pool-beside : (strings_of g.body ≡ ts) → (p : Parsed (List (List ℕ))) → parse_pool g.body ≡ p → pool_in x p ≡ keep x'
      → (y' : Pool) × (pool_says {A = Found} g p ≡ keep y') × Alike ts x' y'
  pool-beside h (got ss q) e k =
      let s : ss ≡ strings_of g.body = ap strings_in (sym e) in
      let w : ss ≡ x'.pool = kept-pool k in
      (record { start = g.start; body = g.body }, refl, record { same = sym w ∙ s; which = inl (sym w ∙ s ∙ h) })
    where
      kept-pool : pool_in x (got ss q) ≡ keep x' → ss ≡ x'.pool
      kept-pool k = ap pool_of k
        where
          pool_of : Content Memory ⊥ → List (List ℕ)
          pool_of (fault n) = []
          pool_of (answer v) = []
          pool_of (keep m) = m.pool
  pool-beside h (bad n) e k = no-keep k

  -- a zone that the check keeps was read from the file's pool
  record Read (z : Zone) (q : List ℕ) : Type 0 where
    pool-is : x.pool ≡ ts
    parsed : parse_zone (length ts) g.body ≡ got z q

  read : (z : Zone) (q : List ℕ) → parse_zone (length x.pool) g.body ≡ got z q → Read z q
  read z q e = go r.which
    where
      go : (x.pool ≡ ts) ⊎ (x.pool ≡ []) → Read z q
      go (inl h) = record { pool-is = h; parsed = rw h at e }
      go (inr h) =
          let n : z.id < 0 = (zone-sound 0 g.body z q (rw h at e)).0.id-ok in
          absurd (omega arith)

  same-pool : (z : Zone) (q : List ℕ) → zone_in x (got z q) ≡ keep x' → x'.pool ≡ x.pool
  unfolding new_id
  same-pool z q k = go (among (get_or x.pool z.id []) x.ids) k
    where
      go : (b : Bool) → pick {A = Content Memory ⊥} b (fault SecondZone) (keep (with_id x (get_or x.pool z.id []))) ≡ keep x' → x'.pool ≡ x.pool
      go true e = no-keep e
      go false e = let w : with_id x (get_or x.pool z.id []) ≡ x' = cc in ap (λ (m : Memory). m.pool) (sym w)

  zone-beside : g.id ≡ 1 → (HasId ts id g → ⊥) → (p : Parsed Zone) → parse_zone (length x.pool) g.body ≡ p → zone_in x p ≡ keep x'
      → (y' : Pool) × (zone_says (answer_at ed t) id y p ≡ keep y') × Alike ts x' y'
  zone-beside i o (got z q) e k =
      let w = read z q e in
      let n : equal (get_or (strings_of y.body) z.id []) id ≡ false = different w (equal (get_or (strings_of y.body) z.id []) id) refl in
      (y, rw n, record { same = same-pool z q k ∙ r.same; which = inl (same-pool z q k ∙ w.pool-is) })
    where
      different : Read z q → (b : Bool) → equal (get_or (strings_of y.body) z.id []) id ≡ b → b ≡ false
      different w false h = refl
      different w true h =
          absurd (o (record {
            zone = z;
            rest = q;
            is-zone = i;
            parsed = w.parsed;
            bytes = ap (λ (ss : List (List ℕ)). get_or ss z.id []) (sym w.pool-is ∙ r.same) ∙ equal-true _ _ h;
          }))
  zone-beside i o (bad n) e k = no-keep k

  -- a field that the check keeps, and that isn't the asked zone, is kept by the question
  pub keeps : Passed ts id g → judged x g.id g.start g.body ≡ keep x' → (y' : Pool) × (says (answer_at ed t) id y g ≡ keep y') × Alike ts x' y'
  unfolding judged pool_kept zone_kept says
  keeps p k = go (eqb g.id 0) refl
    where
      go : (b : Bool) → eqb g.id 0 ≡ b → (y' : Pool) × (says (answer_at ed t) id y g ≡ keep y') × Alike ts x' y'
      go true h = rw h (pool-beside (p.pool-is (eqb-true g.id 0 h)) (parse_pool g.body) refl (rw h at k))
      go false h =
          let n : g.id ≡ 0 → ⊥ = eqb-false g.id 0 h in
          let o : g.id ≡ 1 = omega (arith, p.low) in
          rw (h, ← (ap length r.same)) (zone-beside o p.other (parse_zone (length x.pool) g.body) refl (rw (h, eq-eqb g.id 1 o) at k))

  -- the asked zone answers
  pub answers : (h : HasId ts id g) → judged x g.id g.start g.body ≡ keep x' → says (answer_at ed t) id y g ≡ answer (answered y (in_zone t (under ed h.zone)))
  unfolding judged zone_kept says
  answers h k =
      let n : g.id ≡ 0 → ⊥ = omega (arith, h.is-zone) in
      rw (ne_eqb g.id 0 n, ← (ap length r.same)) (go (parse_zone (length x.pool) g.body) refl (rw (ne_eqb g.id 0 n, eq-eqb g.id 1 h.is-zone) at k))
    where
      go : (p : Parsed Zone) → parse_zone (length x.pool) g.body ≡ p → zone_in x p ≡ keep x' → zone_says (answer_at ed t) id y p ≡ answer (answered y (in_zone t (under ed h.zone)))
      go (got z q) e m =
          let w = read z q e in
          let same : got h.zone h.rest ≡ got z q = sym h.parsed ∙ w.parsed in
          let i : h.zone ≡ z = cc in
          let b : get_or (strings_of y.body) z.id [] ≡ id =
          ap (λ (ss : List (List ℕ)). get_or ss z.id []) (sym r.same ∙ w.pool-is) ∙ ap (λ (u : Zone). get_or ts u.id []) (sym i) ∙ h.bytes in
          rw (b, equal-refl id) (ap (λ (u : Zone). answer (answered y (in_zone t (under ed u)))) (sym i))
      go (bad n) e m = no-keep m

  -- and was read from the file's pool
  pub zone-pool : HasId ts id g → judged x g.id g.start g.body ≡ keep x' → x.pool ≡ ts
  unfolding judged zone_kept
  zone-pool h k =
      let n : g.id ≡ 0 → ⊥ = omega (arith, h.is-zone) in
      go (parse_zone (length x.pool) g.body) refl (rw (ne_eqb g.id 0 n, eq-eqb g.id 1 h.is-zone) at k)
    where
      go : (p : Parsed Zone) → parse_zone (length x.pool) g.body ≡ p → zone_in x p ≡ keep x' → x.pool ≡ ts
      go (got z q) e m = (read z q e).pool-is
      go (bad n) e m = no-keep m
