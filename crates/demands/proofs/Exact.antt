-- DEMAND 3, exactly: of a well-formed file, any first part of it, and an instant in range. Assumes nothing.
use Rattle.base.specs.declared.Refusal.TheVariants.{NotFound}
use Rattle.std.specs.Prelude.{Err, Ok}
use mathlib.Core.Path.{◌≡◌, refl, sym, ap, ◌∙◌, subst}
use mathlib.Core.Bool.{Bool, true, false}
use mathlib.Core.List.{List, [], ◌∷◌, ◌++◌}
use mathlib.Core.Logic.{inr}
use mathlib.Core.Option.{Option, none, some}
use Prim.Native.Nat.{ℕ, ◌≤◌, ◌<◌}
use native.Mathlib.Omega.{arith}
use lib.IntN.{ℤ}
use lib.ListN.{length, take, drop, take-append-drop}
use lib.Dec.{ltb}
use borrow.Author.Tests.{ne_eqb, ltb-false}
use Rattle.base.specs.Pick.{pick}
use Rattle.base.specs.Run.{next}
use Rattle.signed.specs.Instant.{instant_of}
use Rattle.counts.specs.Groups.{read_groups}
use Rattle.frames.specs.Frame.{Field}
use Rattle.frames.specs.Machine.{walk}
use Rattle.frames.specs.Fields.{FieldOf, end_at, fields, pass, outcome, up_to, first_above}
use Rattle.base.specs.All.{All, all_none, all-also}
use Rattle.base.proofs.AllLaws.{all_head, all_tail, all_map, all_left, all_right}
use Rattle.base.proofs.Tests.{by_order}
use Rattle.frames.proofs.ChainLaws.{listing-chain, chain-fields, chain_first, chain-split}
use Rattle.frames.proofs.ThereLaws.{past-there, there-past}
use Rattle.frames.proofs.GrowthLaws.{exactly}
use Rattle.frames.proofs.PassLaws.{pass-first, lockstep}
use Rattle.frames.proofs.CapLaws.{stop_at}
use Rattle.frames.proofs.PartLaws.{absent_beside, answer-beside, walk-ended, walk-fields}
use Rattle.zones.specs.Editions.{under}
use Rattle.zones.specs.Lookup.{in_zone}
use Rattle.zones.specs.declared.Edition.{Edition}
use Rattle.answers.specs.Answers.{Pool, no_pool, answered, name_of}
use Rattle.questions.specs.Question.{question, finish, ask}
use Rattle.answers.specs.declared.Mark.{Mark}
use Rattle.answers.specs.declared.Mark.TheVariants.{More, All as Whole}
use Rattle.questions.proofs.NameLaws.{standing-name}
use Rattle.field_checks.specs.Check.{start, job, WellFormed, file_pool, HasId}
use Rattle.demands.specs.Zones.{InRange, Asked, NoZone}
use Rattle.demands.specs.Parts.{marked, There, Missing}
use Rattle.demands.specs.Whole.{or_end, absent_at}
use Rattle.demands.proofs.Lone.{none_before}
use Rattle.demands.proofs.Standing.{waits}
use Rattle.demands.proofs.Beside.{Alike, Passed, keeps, answers}

-- in range, the question is what the walk gives
pub asks : (bs id : List ℕ) (z : ℤ) (mark : Mark) (ed : Edition) → InRange z → ask bs id z mark ed ≡ finish mark (walk (question ed id (instant_of z)) no_pool bs)
unfolding ask
asks bs id z mark ed h = rw (ne_eqb (instant_of z) 0 h)

-- what is known of the fields up to ID 1 that don't have the asked ID: the first has the file's pool
module _ (f id : List ℕ) where
  abbrev ts : List (List ℕ)
  ts = file_pool (fields f)

  later-passed : (gs : List Field) → All (λ h. 0 < h.id) gs → All (λ h. h.id ≤ 1) gs → All (λ h. HasId ts id h → ⊥) gs → All (Passed ts id) gs
  later-passed [] a b c = all_none
  later-passed (g ∷ gs) a b c =
      let p : 0 < g.id = all_head a in
      all-also
      (record { pool-is = λ (e : g.id ≡ 0). absurd (omega arith); low = all_head b; other = all_head c })
      (later-passed gs (all_tail a) (all_tail b) (all_tail c))

  -- a first part gs of the file's fields
  pub passed : (gs hs : List Field) → fields f ≡ gs ++ hs → All (λ h. h.id ≤ 1) gs → All (λ h. HasId ts id h → ⊥) gs → All (Passed ts id) gs
  unfolding file_pool
  passed [] hs e b c = all_none
  passed (g ∷ gs) hs e b c =
      let n = chain_first f 4 g (gs ++ hs) (rw e at (listing-chain f 255)) in
      all-also
      (record { pool-is = λ k. sym (ap file_pool e); low = all_head b; other = all_head c })
      (later-passed gs (all_left gs hs n.1) (all_tail b) (all_tail c))

up-to-low : (gs : List Field) → All (λ h. h.id ≤ 1) (up_to 1 gs)
unfolding up_to
up-to-low [] = all_none
up-to-low (g ∷ gs) = go (ltb 1 g.id) refl (up-to-low gs)
  where
    go : (t : Bool) → ltb 1 g.id ≡ t → All (λ h. h.id ≤ 1) (up_to 1 gs) → All (λ h. h.id ≤ 1) (pick t [] (g ∷ up_to 1 gs))
    go true e a = all_none
    go false e a = let p : g.id ≤ 1 = omega (arith, ltb-false 1 g.id e) in all-also p a

up-to-first : (gs : List Field) → (hs : List Field) × (gs ≡ up_to 1 gs ++ hs)
unfolding up_to
up-to-first [] = ([], refl)
up-to-first (g ∷ gs) = go (ltb 1 g.id) (up-to-first gs)
  where
    go : (t : Bool) → (hs : List Field) × (gs ≡ up_to 1 gs ++ hs) → (hs : List Field) × (g ∷ gs ≡ pick t [] (g ∷ up_to 1 gs) ++ hs)
    go true s = (g ∷ gs, refl)
    go false s = (s.0, ap (λ (xs : List Field). g ∷ xs) s.1)

pub begin-alike : (ts : List (List ℕ)) → Alike ts start no_pool
unfolding read_groups
begin-alike ts = record { same = refl; which = inr refl }

-- the file has the asked zone
pub zone-there : (ed : Edition) (f id : List ℕ) (z : ℤ) (g : Field) (k : ℕ) → WellFormed f → Asked f id g → InRange z → k ≤ length f → There ed marked f id z g k
zone-there ed f id z g k w a h l =
    let t : ℕ = instant_of z in
    let low = all_map {Q = λ (h : Field). h.id ≤ 1} (λ g' e. omega (arith, e.rising, a.has.is-zone)) (chain-split f false 0 4 a.before g a.behind (rw a.splits at (listing-chain f 255))) in
    let first = none_before f id g w a in
    let o : FieldOf f g = all_head (all_right a.before (g ∷ a.behind) (subst (All (FieldOf f)) a.splits (chain-fields f false 0 4 (fields f) (listing-chain f 255)))) in
    let v = answer-beside job (question ed id t) (Alike (file_pool (fields f))) (Passed (file_pool (fields f)) id)
    (λ x x' y g' p r e. keeps (file_pool (fields f)) id ed t x x' y r g' p e) refl start w.memory no_pool f (length f) w.ends (begin-alike (file_pool (fields f)))
    a.before g a.behind a.splits (passed f id a.before (g ∷ a.behind) a.splits low first) (omega (arith, a.has.is-zone))
    (λ x x' y r e. (answered y (in_zone t (under ed a.has.zone)), answers (file_pool (fields f)) id ed t x x' y r g a.has e)) in
    let x = exactly (question ed id t) no_pool f v.0 g.past k v.1 l in
    let part : FieldOf (take k f) g → ask (take k f) id z More ed ≡ Ok v.0
    = λ b. asks (take k f) id z More ed h ∙ ap (finish More) (x.from_then (there-past f k l g b) ∙ v.1) in
    let all : ask f id z Whole ed ≡ Ok v.0 = asks f id z Whole ed h ∙ ap (finish Whole) v.1 in
    record {
      given = v.0;
      answered = all;
      before = λ b. by_order k g.past
          (λ s. rw (asks (take k f) id z More ed h) (waits (walk (question ed id t) no_pool (take k f)) (x.before s)))
          (λ s. absurd (b (past-there f k l g o s)));
      from_then = λ b. part b ∙ sym all;
      same_name = λ b. sym (standing-name (take k f) (drop k f) id z ed v.0 (part b)) ∙ ap (λ (bs : List ℕ). name_of bs v.0) (take-append-drop k f);
    }

-- the file has no such zone
pub zone-missing : (ed : Edition) (f id : List ℕ) (z : ℤ) (k : ℕ) → WellFormed f → NoZone f id → InRange z → k ≤ length f → Missing ed marked f id z k
zone-missing ed f id z k w n h l =
    let t : ℕ = instant_of z in
    let s = up-to-first (fields f) in
    let x = absent_beside job (question ed id t) (Alike (file_pool (fields f))) (Passed (file_pool (fields f)) id)
    (λ x x' y g' p r e. keeps (file_pool (fields f)) id ed t x x' y r g' p e) refl start w.memory no_pool f (length f) w.ends (begin-alike (file_pool (fields f)))
    (passed f id (up_to 1 (fields f)) s.0 s.1 (up-to-low (fields f)) (all_left (up_to 1 (fields f)) s.0 (subst (All (λ h. HasId (file_pool (fields f)) id h → ⊥)) s.1 n))) k l in
    record {
      before = λ b. rw (asks (take k f) id z More ed h) (waits (walk (question ed id t) no_pool (take k f)) (x.waits b));
      from_then = λ q e b. asks (take k f) id z More ed h ∙ ap (finish More) (x.refuses q e b);
    }

-- The whole file, as all there is, says 12 where it lacks the zone: at the first byte of a field with an ID above 1, or at its end.
pub missing-whole : (ed : Edition) (f id : List ℕ) (z : ℤ) → WellFormed f → NoZone f id → InRange z → ask f id z Whole ed ≡ Err (NotFound, absent_at f)
missing-whole ed f id z w n h =
    let t : ℕ = instant_of z in
    let s = up-to-first (fields f) in
    let c = walk-ended job start w.memory f (length f) w.ends in
    let q = pass-first job.content start w.memory (up_to 1 (fields f)) s.0 (subst (λ (gs : List Field). pass job.content start gs ≡ next w.memory) s.1 c.kept) in
    let u = lockstep (Alike (file_pool (fields f))) (Passed (file_pool (fields f)) id) job.content (question ed id t).content
    (λ x x' y g' p r e. keeps (file_pool (fields f)) id ed t x x' y r g' p e) (up_to 1 (fields f)) start q.0 no_pool
    (passed f id (up_to 1 (fields f)) s.0 s.1 (up-to-low (fields f)) (all_left (up_to 1 (fields f)) s.0 (subst (All (λ g'. HasId (file_pool (fields f)) id g' → ⊥)) s.1 n)))
    (begin-alike (file_pool (fields f))) q.1 in
    let o : walk (question ed id t) no_pool f ≡ outcome (stop_at (first_above 1 (fields f)) (end_at (length f))) u.0 =
    walk-fields (question ed id t) no_pool f (length f) c.whole ∙ rw u.1 in
    rw (asks f id z Whole ed h, o) (go (first_above 1 (fields f)) u.0)
  where
    go : (a : Option ℕ) (m : Pool) → finish Whole (outcome (stop_at a (end_at (length f))) m) ≡ Err (NotFound, or_end f a)
    go none m = refl
    go (some q) m = refl
