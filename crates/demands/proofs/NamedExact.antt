-- DEMAND 3 FOR THE NAMED QUESTION, standing answers and exactly. Assumes nothing.
use Rattle.std.specs.Prelude.{Ok}
use mathlib.Core.Path.{◌≡◌, refl, sym, ap, ◌∙◌, subst}
use mathlib.Core.Bool.{Bool, true, false}
use mathlib.Core.List.{List, [], ◌∷◌, ◌++◌, append-nil, append_assoc}
use mathlib.Core.Logic.{◌⊎◌, inl, inr}
use Prim.Native.Nat.{ℕ, ◌+◌, ◌≤◌, ◌<◌}
use native.Mathlib.Omega.{arith}
use lib.IntN.{ℤ}
use lib.ListN.{length, take, drop, take-append-drop}
use lib.Dec.{eqb}
use borrow.Author.Tests.{ne_eqb, eqb-true, eqb-false}
use Rattle.base.specs.Run.{stop, next}
use Rattle.base.specs.All.{All, all_none, all-also}
use Rattle.base.proofs.AllLaws.{all_head, all_tail, all_map, all_left, all_right}
use Rattle.base.proofs.Tests.{by_order}
use Rattle.signed.specs.Instant.{instant_of}
use Rattle.pool.specs.Pool.{strings_of}
use Rattle.zones.specs.Content.{Zone}
use Rattle.zones.specs.Editions.{under}
use Rattle.zones.specs.Lookup.{in_zone}
use Rattle.zones.specs.declared.Edition.{Edition}
use Rattle.aliases.specs.Field.{entries_of}
use Rattle.alias_lookup.specs.Lookup.{Named, here, unknown, deep, lookup, most}
use Rattle.frames.specs.Frame.{Field}
use Rattle.frames.specs.Machine.{Out, found, keep, verdict, walk}
use Rattle.frames.specs.Fields.{FieldOf, end_at, listing, fields, pass, up_to}
use Rattle.frames.proofs.ChainLaws.{Chain, listing-chain, chain-fields, chain_first, chain-split}
use Rattle.frames.proofs.RisingLaws.{chain-less, chain-behind, up_to-low}
use Rattle.frames.proofs.ThereLaws.{past-there, there-past}
use Rattle.frames.proofs.PassLaws.{pass-first, pass-head, lockstep}
use Rattle.frames.proofs.PartLaws.{absent_beside, walk-ended, up_to-first}
use Rattle.frames.proofs.StopLaws.{walk-stops, StopsAt, stops_at}
use Rattle.field_checks.specs.Check.{Memory, start, job, judged, WellFormed, file_pool, HasId}
use Rattle.answers.specs.Answers.{Pool, no_pool, answered, name_of}
use Rattle.answers.specs.declared.Mark.{Mark}
use Rattle.answers.specs.declared.Mark.TheVariants.{More, All as Whole}
use Rattle.answers.specs.declared.Found.{Found}
use Rattle.locate.specs.Asked.{says as asked_says}
use Rattle.questions.specs.Question.{answer_at, question, finish, ask}
use Rattle.named_fields.specs.Named.{Seen, zone_in, Known, nothing, zones_of, seen_of, says, naming, ask_named}
use Rattle.named_questions.proofs.GrowLaws.{pass-asked, pass-first-pool}
use Rattle.named_questions.proofs.NameLaws.{standing-name}
use Rattle.demands.specs.Zones.{InRange, Asked, NoZone}
use Rattle.demands.specs.Named.{StandingNamed, Aliases, NoAliases, Until, first_pool, given_by, ByZone, ByAlias, Unnamed, NamedPart}
use Rattle.demands.proofs.Standing.{standing-job, waits}
use Rattle.demands.proofs.Lone.{none_before}
use Rattle.demands.proofs.Beside.{answers}
use Rattle.demands.proofs.Exact.{asks, begin-alike}
use Rattle.demands.proofs.Agree.{asked-or-none}
use Rattle.demands.proofs.NamedBeside.{Prior, Beside, named-keeps, named-answers, alias-says, resolved_at, resolved-stops}

-- STANDING
pub standing-named : (ed : Edition) (bs more id : List ℕ) (z : ℤ) (mark : Mark) → StandingNamed ed bs more id z mark
unfolding ask_named
standing-named ed bs more id z mark =
    record { same = standing-job (naming (answer_at ed (instant_of z)) id) nothing bs more mark (eqb (instant_of z) 0); same_name = standing-name bs more id z ed }

pub asks-named : (bs id : List ℕ) (z : ℤ) (mark : Mark) (ed : Edition) → InRange z → ask_named bs id z mark ed ≡ finish mark (walk (naming (answer_at ed (instant_of z)) id) nothing bs)
unfolding ask_named
asks-named bs id z mark ed h = rw (ne_eqb (instant_of z) 0 h)

not_three : (gs : List Field) → All (λ h. h.id ≤ 3) gs → All (λ h. h.id ≡ 3 → ⊥) gs → All (λ h. h.id ≤ 2) gs
not_three [] a b = all_none
not_three (g ∷ gs) a b =
    let n : g.id ≡ 3 → ⊥ = all_head b in
    let p : g.id ≤ 2 = omega (arith, all_head a) in
    all-also p (not_three gs (all_tail a) (all_tail b))

-- the zones of fields
seen-append : (ts : List (List ℕ)) (xs ys : List Field) → seen_of ts (xs ++ ys) ≡ seen_of ts xs ++ seen_of ts ys
unfolding seen_of
seen-append ts [] ys = refl
seen-append ts (x ∷ xs) ys = ap (λ (zs : List Seen). zones_of ts x ++ zs) (seen-append ts xs ys) ∙ sym (append_assoc (zones_of ts x) (seen_of ts xs) (seen_of ts ys))

seen_none : (ts : List (List ℕ)) (xs : List Field) → All (λ h. 2 ≤ h.id) xs → seen_of ts xs ≡ []
unfolding seen_of zones_of
seen_none ts [] a = refl
seen_none ts (x ∷ xs) a =
    let l : 2 ≤ x.id = all_head a in
    rw (ne_eqb x.id 1 (λ e. omega arith)) (seen_none ts xs (all_tail a))

module _ (ed : Edition) (f id : List ℕ) where
  abbrev ts : List (List ℕ)
  ts = file_pool (fields f)

  later-prior : (gs : List Field) → All (λ h. 0 < h.id) gs → All (λ h. h.id ≤ 2) gs → All (λ h. HasId ts id h → ⊥) gs → All (Prior ts id) gs
  later-prior [] a b c = all_none
  later-prior (g ∷ gs) a b c =
      let p : 0 < g.id = all_head a in
      all-also
      (record { pool-is = λ (e : g.id ≡ 0). absurd (omega arith); low = all_head b; other = all_head c })
      (later-prior gs (all_tail a) (all_tail b) (all_tail c))

  prior : (gs hs : List Field) → fields f ≡ gs ++ hs → All (λ h. h.id ≤ 2) gs → All (λ h. HasId ts id h → ⊥) gs → All (Prior ts id) gs
  unfolding file_pool
  prior [] hs e b c = all_none
  prior (g ∷ gs) hs e b c =
      let n = chain_first f 4 g (gs ++ hs) (rw e at (listing-chain f 255)) in
      all-also
      (record { pool-is = λ k. sym (ap file_pool e); low = all_head b; other = all_head c })
      (later-prior gs (all_left gs hs n.1) (all_tail b) (all_tail c))

  field_of : (gs : List Field) (g : Field) (hs : List Field) → fields f ≡ gs ++ g ∷ hs → FieldOf f g
  field_of gs g hs e = all_head (all_right gs (g ∷ hs) (subst (All (FieldOf f)) e (chain-fields f false 0 4 (fields f) (listing-chain f 255))))

  -- the question comes to the field g, having kept those before it
  record Reached (t : ℕ) (gs : List Field) (g : Field) : Type 0 where
    whole : (listing 255 f).ending ≡ end_at (length f)
    known : Known
    kept : pass (says (answer_at ed t) id) nothing gs ≡ next known
    checked : Memory
    after : Memory
    beside : Beside ts checked known
    content : judged checked g.id g.start g.body ≡ keep after

  reach : (t : ℕ) (gs : List Field) (g : Field) (hs : List Field) → WellFormed f → fields f ≡ gs ++ g ∷ hs → All (Prior ts id) gs → Reached t gs g
  reach t gs g hs w e a =
      let c = walk-ended job start w.memory f (length f) w.ends in
      let q = pass-first job.content start w.memory gs (g ∷ hs) (subst (λ (xs : List Field). pass job.content start xs ≡ next w.memory) e c.kept) in
      let u = lockstep (Beside ts) (Prior ts id) job.content (says (answer_at ed t) id) (λ x x' y g' p r k. named-keeps ts id ed t x x' y r g' p k) gs start q.0 nothing a (begin-alike ts) q.1 in
      let d = pass-head job.content q.0 w.memory g hs q.2 in
      record { whole = c.whole; known = u.0; kept = u.1; checked = q.0; after = d.0; beside = u.2; content = d.1 }

  -- the pool that it remembers behind field 0
  reached-pool : (gs : List Field) (g : Field) (hs : List Field) → fields f ≡ gs ++ g ∷ hs → 0 < g.id → (k : Known) (t : ℕ) → pass (says (answer_at ed t) id) nothing gs ≡ next k → k.pool ≡ first_pool (fields f)
  unfolding first_pool
  reached-pool [] g hs e i k t p =
      let n = chain_first f 4 g hs (rw e at (listing-chain f 255)) in
      absurd (omega (arith, n.0))
  reached-pool (g₀ ∷ gs) g hs e i k t p =
      let n = chain_first f 4 g₀ (gs ++ g ∷ hs) (rw e at (listing-chain f 255)) in
      rw e (pass-first-pool id ed t g₀ gs k n.0 (all_left gs (g ∷ hs) n.1) p).0

  -- what it remembers before field 3 is the file's pool and its zones
  known-before : (gs : List Field) (g : Field) (hs : List Field) → fields f ≡ gs ++ g ∷ hs → g.id ≡ 3 → (k : Known) (t : ℕ) → pass (says (answer_at ed t) id) nothing gs ≡ next k
      → (k.zones ≡ seen_of ts (fields f)) × (k.pool ≡ first_pool (fields f)) × (strings_of (first_pool (fields f)).body ≡ ts)
  unfolding file_pool first_pool
  known-before [] g hs e i k t p =
      let n = chain_first f 4 g hs (rw e at (listing-chain f 255)) in
      absurd (omega (arith, n.0))
  known-before (g₀ ∷ gs) g hs e i k t p =
      let c : Chain f false 0 4 (g₀ ∷ (gs ++ g ∷ hs)) = rw e at (listing-chain f 255) in
      let n = chain_first f 4 g₀ (gs ++ g ∷ hs) c in
      let u = pass-first-pool id ed t g₀ gs k n.0 (all_left gs (g ∷ hs) n.1) p in
      let two : 2 ≤ g.id = omega arith in
      let late : All (λ h. 2 ≤ h.id) (g ∷ hs) = all-also two (all_map (λ h q. omega arith) (chain-behind f false 0 4 (g₀ ∷ gs) g hs c)) in
      let q : seen_of (strings_of g₀.body) ((g₀ ∷ gs) ++ g ∷ hs) ≡ seen_of (strings_of g₀.body) (g₀ ∷ gs) =
      seen-append (strings_of g₀.body) (g₀ ∷ gs) (g ∷ hs) ∙ ap (λ (zs : List Seen). seen_of (strings_of g₀.body) (g₀ ∷ gs) ++ zs) (seen_none (strings_of g₀.body) (g ∷ hs) late) ∙ append-nil (seen_of (strings_of g₀.body) (g₀ ∷ gs)) in
      rw e (u.1 ∙ sym q, u.0, refl)

  module _ (z : ℤ) (h : InRange z) where
    abbrev t : ℕ
    t = instant_of z

    until : (g : Field) (k : ℕ) → k ≤ length f → FieldOf f g → (whole : (listing 255 f).ending ≡ end_at (length f)) (o : Out Known Found)
        → StopsAt (naming (answer_at ed t) id) nothing f (length f) whole g o k → finish More o ≡ finish Whole o → Until ed f id z g k
    until g k l q whole o s m =
        let part : FieldOf (take k f) g → ask_named (take k f) id z More ed ≡ ask_named f id z Whole ed
        = λ b. asks-named (take k f) id z More ed h ∙ ap (finish More) (s.exactly.from_then (there-past f k l g b) ∙ s.given) ∙ m ∙ sym (asks-named f id z Whole ed h ∙ ap (finish Whole) s.given) in
        record {
          before = λ b. by_order k g.past
              (λ i. rw (asks-named (take k f) id z More ed h) (waits (walk (naming (answer_at ed t) id) nothing (take k f)) (s.exactly.before i)))
              (λ i. absurd (b (past-there f k l g q i)));
          from_then = part;
          same_name = λ b x e. sym (standing-name (take k f) (drop k f) id z ed x (part b ∙ e)) ∙ ap (λ (bs : List ℕ). name_of bs x) (take-append-drop k f);
        }

    -- A ZONE'S ID
    by-zone : WellFormed f → (g : Field) → Asked f id g → (k : ℕ) → k ≤ length f → ByZone ed f id z g k
    by-zone w g a k l =
        let low = all_map {Q = λ (e : Field). e.id ≤ 1} (λ g' e. omega (arith, e.rising, a.has.is-zone)) (chain-split f false 0 4 a.before g a.behind (rw a.splits at (listing-chain f 255))) in
        let r = reach t a.before g a.behind w a.splits (prior a.before (g ∷ a.behind) a.splits (all_map (λ g' e. omega arith) low) (none_before f id g w a)) in
        let v : Found = answered r.known.pool (in_zone t (under ed a.has.zone)) in
        let o : Out Known Found = found v g.past in
        let n : verdict g (says (answer_at ed t) id r.known g) ≡ stop o = ap (verdict g) (named-answers ts id ed t r.checked r.after r.known r.beside g a.has r.content) in
        let s = stops_at (naming (answer_at ed t) id) nothing f (length f) r.whole a.before g a.behind r.known o a.splits (omega (arith, a.has.is-zone)) r.kept n k l in
        let p : verdict g (asked_says (answer_at ed t) id r.known.pool g) ≡ stop (found v g.past) = ap (verdict g) (answers ts id ed t r.checked r.after r.known.pool r.beside g a.has r.content) in
        let q : walk (question ed id t) no_pool f ≡ found v g.past =
        walk-stops (question ed id t) no_pool f (length f) r.whole a.before g a.behind r.known.pool (found v g.past) a.splits (omega (arith, a.has.is-zone)) (pass-asked id ed t a.before nothing r.known low r.kept) p in
        record {
          until = until g k l (field_of a.before g a.behind a.splits) r.whole o s refl;
          answer-is = asks-named f id z Whole ed h ∙ ap (finish Whole) s.given ∙ sym (asks f id z Whole ed h ∙ ap (finish Whole) q);
        }

    -- and what it is
    pub zone-given : WellFormed f → (g : Field) (a : Asked f id g) → ask f id z Whole ed ≡ Ok (answered (first_pool (fields f)) (in_zone t (under ed a.has.zone)))
    zone-given w g a =
        let low = all_map {Q = λ (e : Field). e.id ≤ 1} (λ g' e. omega (arith, e.rising, a.has.is-zone)) (chain-split f false 0 4 a.before g a.behind (rw a.splits at (listing-chain f 255))) in
        let r = reach t a.before g a.behind w a.splits (prior a.before (g ∷ a.behind) a.splits (all_map (λ g' e. omega arith) low) (none_before f id g w a)) in
        let v : Found = answered r.known.pool (in_zone t (under ed a.has.zone)) in
        let p : verdict g (asked_says (answer_at ed t) id r.known.pool g) ≡ stop (found v g.past) = ap (verdict g) (answers ts id ed t r.checked r.after r.known.pool r.beside g a.has r.content) in
        let q : walk (question ed id t) no_pool f ≡ found v g.past =
        walk-stops (question ed id t) no_pool f (length f) r.whole a.before g a.behind r.known.pool (found v g.past) a.splits (omega (arith, a.has.is-zone)) (pass-asked id ed t a.before nothing r.known low r.kept) p in
        let o : r.known.pool ≡ first_pool (fields f) = reached-pool a.before g a.behind a.splits (omega (arith, a.has.is-zone)) r.known t r.kept in
        asks f id z Whole ed h ∙ ap (finish Whole) q ∙ ap (λ (y : Pool). Ok (answered y (in_zone t (under ed a.has.zone)))) o

    -- NO ZONE'S ID, and a field 3
    final-named : (g : Field) (p : Pool) (n : Named Zone) → finish More (resolved_at ed t g p n) ≡ finish Whole (resolved_at ed t g p n)
    final-named g p (here b) = refl
    final-named g p unknown = refl
    final-named g p deep = refl

    given-named : (g : Field) (p : Pool) (n : Named Zone) → finish Whole (resolved_at ed t g p n) ≡ given_by ed t g.place p n
    given-named g p (here b) = refl
    given-named g p unknown = refl
    given-named g p deep = refl

    pub by-alias : WellFormed f → NoZone f id → (g : Field) → Aliases f g → (k : ℕ) → k ≤ length f → ByAlias ed f id z g k
    by-alias w n g a k l =
        let c : Chain f false 0 4 (a.before ++ g ∷ a.behind) = rw a.splits at (listing-chain f 255) in
        let low = all_map {Q = λ (e : Field). e.id ≤ 2} (λ g' e. omega (arith, a.is-aliases)) (chain-less f false 0 4 a.before g a.behind c (rw a.is-aliases refl)) in
        let none_before = all_left a.before (g ∷ a.behind) (subst (All (λ e. HasId ts id e → ⊥)) a.splits n) in
        let r = reach t a.before g a.behind w a.splits (prior a.before (g ∷ a.behind) a.splits low none_before) in
        let m : Named Zone = lookup (zone_in r.known.zones) (entries_of (strings_of r.known.pool.body) g.body) most id in
        let o : Out Known Found = resolved_at ed t g r.known.pool m in
        let v : verdict g (says (answer_at ed t) id r.known g) ≡ stop o =
        ap (verdict g) (alias-says ts id ed t r.checked r.after r.known r.beside g a.is-aliases r.content) ∙ resolved-stops ed t g r.known.pool m in
        let s = stops_at (naming (answer_at ed t) id) nothing f (length f) r.whole a.before g a.behind r.known o a.splits (omega (arith, a.is-aliases)) r.kept v k l in
        let e = known-before a.before g a.behind a.splits a.is-aliases r.known t r.kept in
        record {
          until = until g k l (field_of a.before g a.behind a.splits) r.whole o s (final-named g r.known.pool m);
          answer-is = asks-named f id z Whole ed h ∙ ap (finish Whole) s.given ∙ given-named g r.known.pool m ∙ rw (e.0, e.1, e.2);
        }

    -- NEITHER
    by-neither : WellFormed f → NoZone f id → NoAliases f → (k : ℕ) → k ≤ length f → Unnamed ed f id z k
    by-neither w n a k l =
        let s = up_to-first 3 (fields f) in
        let low = not_three (up_to 3 (fields f)) (up_to-low 3 (fields f)) (all_left (up_to 3 (fields f)) s.0 (subst (All (λ e. e.id ≡ 3 → ⊥)) s.1 a)) in
        let none_before = all_left (up_to 3 (fields f)) s.0 (subst (All (λ e. HasId ts id e → ⊥)) s.1 n) in
        let x = absent_beside job (naming (answer_at ed t) id) (Beside ts) (Prior ts id) (λ x x' y g' p r e. named-keeps ts id ed t x x' y r g' p e) refl start w.memory nothing f (length f) w.ends
        (begin-alike ts) (prior (up_to 3 (fields f)) s.0 s.1 low none_before) k l in
        record {
          before = λ b. rw (asks-named (take k f) id z More ed h) (waits (walk (naming (answer_at ed t) id) nothing (take k f)) (x.waits b));
          from_then = λ q e b. asks-named (take k f) id z More ed h ∙ ap (finish More) (x.refuses q e b);
        }

-- a file has a field 3 or has none
find-three : (gs : List Field) → ((before : List Field) × (g : Field) × (behind : List Field) × (gs ≡ before ++ g ∷ behind) × (g.id ≡ 3)) ⊎ All (λ h. h.id ≡ 3 → ⊥) gs
find-three [] = inr all_none
find-three (g ∷ gs) = go (eqb g.id 3) refl (find-three gs)
  where
    go : (b : Bool) → eqb g.id 3 ≡ b → ((before : List Field) × (g' : Field) × (behind : List Field) × (gs ≡ before ++ g' ∷ behind) × (g'.id ≡ 3)) ⊎ All (λ h. h.id ≡ 3 → ⊥) gs
        → ((before : List Field) × (g' : Field) × (behind : List Field) × (g ∷ gs ≡ before ++ g' ∷ behind) × (g'.id ≡ 3)) ⊎ All (λ h. h.id ≡ 3 → ⊥) (g ∷ gs)
    go true e r = inl ([], g, gs, refl, eqb-true g.id 3 e)
    go false e (inl x) = inl (g ∷ x.0, x.1, x.2, ap (λ (hs : List Field). g ∷ hs) x.3, x.4)
    go false e (inr a) = inr (all-also (eqb-false g.id 3 e) a)

pub aliases-or-none : (f : List ℕ) → ((g : Field) × Aliases f g) ⊎ NoAliases f
aliases-or-none f = go (find-three (fields f))
  where
    go : ((before : List Field) × (g : Field) × (behind : List Field) × (fields f ≡ before ++ g ∷ behind) × (g.id ≡ 3)) ⊎ NoAliases f → ((g : Field) × Aliases f g) ⊎ NoAliases f
    go (inl x) = inl (x.1, record { before = x.0; behind = x.2; splits = x.3; is-aliases = x.4 })
    go (inr a) = inr a

-- DEMAND 3 FOR THE NAMED QUESTION, of a well-formed file, any first part of it, and an instant in range
pub named-part : (ed : Edition) (f id : List ℕ) (z : ℤ) (k : ℕ) → WellFormed f → InRange z → k ≤ length f → NamedPart ed f id z k
named-part ed f id z k w h l =
    record {
      which = which (asked-or-none f id);
      zone = λ g a. by-zone ed f id z h w g a k l;
      alias = λ n g a. by-alias ed f id z h w n g a k l;
      neither = λ n a. by-neither ed f id z h w n a k l;
    }
  where
    which : ((g : Field) × Asked f id g) ⊎ NoZone f id → ((g : Field) × Asked f id g) ⊎ (NoZone f id × (((g : Field) × Aliases f g) ⊎ NoAliases f))
    which (inl a) = inl a
    which (inr n) = inr (n, aliases-or-none f)
