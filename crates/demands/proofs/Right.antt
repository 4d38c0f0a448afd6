-- DEMAND 2, for readers: on a well-formed file each instant from year 1 to year 9999 falls in exactly one interval of each zone, and the
-- offset, savings, standard offset, name and bounds given are those of that interval. Assumes nothing.
use mathlib.Core.Path.{◌≡◌, refl, sym, ap, ◌∙◌, subst, subst⁻¹}
use mathlib.Core.Bool.{false}
use mathlib.Core.List.{List, [], ◌∷◌}
use Prim.Native.Nat.{ℕ, ◌≤◌, ◌<◌}
use native.Mathlib.Omega.{arith}
use lib.IntN.{ℤ}
use lib.ListN.{length, get_or}
use Rattle.base.specs.Run.{next}
use Rattle.base.specs.Parsed.{got}
use Rattle.base.specs.Moment.{Finite}
use Rattle.signed.specs.Instant.{instant_of}
use Rattle.pool.specs.Pool.{strings_of}
use Rattle.zones.specs.Content.{Zone}
use Rattle.zones.specs.Editions.{under}
use Rattle.zones.specs.Lookup.{in_zone}
use Rattle.zones.specs.declared.Edition.{Edition}
use Rattle.zones.specs.declared.Found.{Found as Interval}
use Rattle.zones.proofs.SoundLaws.{zone-sound}
use Rattle.zones.proofs.EditionLaws.{under-sound}
use Rattle.zones.proofs.RangeLaws.{zone-found}
use Rattle.zones.proofs.PartitionLaws.{lookup-holds, lookup-only}
use Rattle.frames.specs.Frame.{Field}
use Rattle.frames.specs.Machine.{keep}
use Rattle.frames.specs.Fields.{fields, pass, FieldOf}
use Rattle.base.specs.All.{All, all_none, all-also}
use Rattle.base.proofs.AllLaws.{all_head, all_tail, all_map, all_left}
use Rattle.frames.proofs.ChainLaws.{listing-chain, chain-fields, chain-split}
use Rattle.frames.proofs.PassLaws.{pass-first, pass-head, lockstep}
use Rattle.frames.proofs.PartLaws.{walk-ended, walk-answer}
use Rattle.answers.specs.Answers.{number_of, Pool, no_pool, answered}
use Rattle.answers.proofs.NameLaws.{Located, name-is}
use Rattle.locate.specs.Asked.{says}
use Rattle.questions.specs.Question.{answer_at, question, finish, plain_mark}
use Rattle.signed.proofs.IntegerLaws.{instant-finite}
use Rattle.field_checks.specs.Check.{Memory, start, job, judged, WellFormed, file_pool, HasId}
use Rattle.field_checks.proofs.ZoneIdLaws.{each-zone}
use Rattle.demands.specs.Zones.{InRange, ZoneIn, Asked}
use Rattle.demands.specs.Right.{Right, Answered}
use Rattle.demands.proofs.Beside.{Alike, Passed, keeps, answers, zone-pool}
use Rattle.questions.proofs.NameLaws.{by-kept}
use Rattle.demands.proofs.Standard.{standard-right}
use Rattle.demands.proofs.Lone.{none_before}
use Rattle.demands.proofs.Exact.{asks, passed, begin-alike}

record Beside (f : List ℕ) (ts : List (List ℕ)) (x : Memory) (y : Pool) : Type 0 where
  alike : Alike ts x y
  located : Located f y

record Known (f : List ℕ) (ts : List (List ℕ)) (id : List ℕ) (g : Field) : Type 0 where
  passes : Passed ts id g
  is_field : FieldOf f g

field-located : (f : List ℕ) (g : Field) → FieldOf f g → Located f (record { start = g.start; body = g.body })
field-located f g o = record { within = omega (arith, o.ends, o.within); part = o.bytes }

go_on : (f : List ℕ) (ts : List (List ℕ)) (id : List ℕ) (ed : Edition) (t : ℕ) (x x' : Memory) (y : Pool) (g : Field) → Known f ts id g → Beside f ts x y
    → judged x g.id g.start g.body ≡ keep x' → (y' : Pool) × (says (answer_at ed t) id y g ≡ keep y') × Beside f ts x' y'
go_on f ts id ed t x x' y g k r e =
    let w = keeps ts id ed t x x' y r.alike g k.passes e in
    (w.0, w.1, record { alike = w.2; located = by-kept (Located f) id ed t y g w.0 w.1 r.located (field-located f g k.is_field) })

known : (f : List ℕ) (ts : List (List ℕ)) (id : List ℕ) (gs : List Field) → All (Passed ts id) gs → All (FieldOf f) gs → All (Known f ts id) gs
known f ts id [] a b = all_none
known f ts id (g ∷ gs) a b = all-also (record { passes = all_head a; is_field = all_head b }) (known f ts id gs (all_tail a) (all_tail b))

-- of the asked zone
pub right : (ed : Edition) (f id : List ℕ) (z : ℤ) (g : Field) → WellFormed f → (a : Asked f id g) → InRange z → Right ed f id z a.has.zone
right ed f id z g w a h =
    let t : ℕ = instant_of z in
    let ts : List (List ℕ) = file_pool (fields f) in
    let zone : Zone = under ed a.has.zone in
    let fin : Finite t = instant-finite t z refl h in
    let ok = under-sound ed (length ts) a.has.zone (zone-sound (length ts) g.body a.has.zone a.has.rest a.has.parsed).0 in
    let c = walk-ended job start w.memory f (length f) w.ends in
    let q = pass-first job.content start w.memory a.before (g ∷ a.behind)
    (subst (λ (gs : List Field). pass job.content start gs ≡ next w.memory) a.splits c.kept) in
    let low = all_map {Q = λ (e : Field). e.id ≤ 1} (λ g' e. omega (arith, e.rising, a.has.is-zone))
    (chain-split f false 0 4 a.before g a.behind (rw a.splits at (listing-chain f 255))) in
    let fs = all_left a.before (g ∷ a.behind) (subst (All (FieldOf f)) a.splits (chain-fields f false 0 4 (fields f) (listing-chain f 255))) in
    let u = lockstep (Beside f ts) (Known f ts id) job.content (question ed id t).content (λ x x' y g' k r e. go_on f ts id ed t x x' y g' k r e)
    a.before start q.0 no_pool (known f ts id a.before (passed f id a.before (g ∷ a.behind) a.splits low (none_before f id g w a)) fs)
    (record { alike = begin-alike ts; located = record { within = omega arith; part = refl } }) q.1 in
    let p = pass-head job.content q.0 w.memory g a.behind q.2 in
    let y : Pool = u.0 in
    let i : Interval = in_zone t zone in
    let s = answers ts id ed t q.0 p.0 y u.2.alike g a.has p.1 in
    let o = walk-answer (question ed id t) no_pool f (length f) c.whole a.before g a.behind y (answered y i) a.splits (omega (arith, a.has.is-zone)) u.1 s in
    let l = lookup-holds (length ts) t zone ok fin in
    let same : strings_of y.body ≡ ts = sym u.2.alike.same ∙ zone-pool ts id ed t q.0 p.0 y u.2.alike g a.has p.1 in
    record {
      number_is = ap number_of (asks f id z plain_mark ed h ∙ ap (finish plain_mark) o);
      given = answered y i;
      plain = asks f id z plain_mark ed h ∙ ap (finish plain_mark) o;
      marked = λ mark. asks f id z mark ed h ∙ ap (finish mark) o;
      interval = i;
      of-zone = l.0;
      holds = l.1;
      only = λ x e k. lookup-only (length ts) t zone ok fin x e k;
      wall-is = refl;
      savings-is = refl;
      standard-is = refl;
      start_is = refl;
      end_is = refl;
      named = name-is f y i u.2.located (subst⁻¹ (λ (ss : List (List ℕ)). i.name < length ss) same (zone-found (length ts) t zone ok fin).name-ok)
          ∙ ap (λ (ss : List (List ℕ)). get_or ss i.name []) same;
      standard = standard-right y (length ts) i (zone-found (length ts) t zone ok fin);
    }

-- a zone of a file is the asked one where its ID bytes are asked
pub zone-asked : (f : List ℕ) (g : Field) → ZoneIn f g → (x : List ℕ) → HasId (file_pool (fields f)) x g → Asked f x g
zone-asked f g i x k = record { before = i.before; behind = i.behind; splits = i.splits; has = k }

-- DEMAND 2, FOR READERS: every well-formed file, every zone of it, every instant from year 1 to year 9999, under either
-- edition
pub demand-2 : (f : List ℕ) → WellFormed f → (g : Field) → ZoneIn f g → Answered f g
unfolding zone-asked
demand-2 f w g i =
    let ts : List (List ℕ) = file_pool (fields f) in
    let k = (each-zone f w i.before g i.behind i.splits i.is-zone).1 in
    let e = k.parsed ∙ ap (got k.zone) (zone-sound (length ts) g.body k.zone k.rest k.parsed).1 in
    let own : HasId ts (get_or ts k.zone.id []) g = record { zone = k.zone; rest = []; is-zone = i.is-zone; parsed = e; bytes = refl } in
    record {
      zone = k.zone;
      parsed = e;
      right = λ ed z h. right ed f (get_or ts k.zone.id []) z g w (zone-asked f g i (get_or ts k.zone.id []) own) h;
    }
