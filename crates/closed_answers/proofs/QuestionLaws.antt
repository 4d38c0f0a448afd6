-- QUESTIONS BY A ZONE'S ID, on two files whose fields say the same one by one: the answers are the same, places aside. Assumes nothing.
use Rattle.base.specs.Coded.{Fault}
use Rattle.std.specs.Prelude.{Err, Ok, Result}
use mathlib.Core.Path.{◌≡◌, refl, ap, ◌∙◌, subst}
use mathlib.Core.Bool.{Bool, true, false}
use mathlib.Core.List.{List, []}
use Prim.Native.Nat.{ℕ}
use native.Mathlib.Omega.{arith}
use lib.Dec.{eqb}
use lib.IntN.{ℤ}
use lib.ListN.{length, get_or}
use borrow.Author.Tests.{eq-eqb, ne_eqb, eqb-false}
use Rattle.base.specs.Pick.{pick}
use Rattle.base.specs.Equal.{equal}
use Rattle.base.specs.Moment.{Finite}
use Rattle.base.specs.Parsed.{got}
use Rattle.signed.specs.Instant.{instant_of}
use Rattle.signed.proofs.IntegerLaws.{instant-finite}
use Rattle.pool.specs.Pool.{parse_pool, strings_of, strings_in}
use Rattle.zones.specs.Content.{Zone}
use Rattle.zones.specs.Parse.{parse_zone}
use Rattle.zones.specs.declared.Edition.{Edition}
use Rattle.frames.specs.Frame.{Field}
use Rattle.frames.specs.Fields.{FieldOf}
use Rattle.frames.specs.Machine.{Out, answer, keep, walk}
use Rattle.answers.specs.Answers.{Pool, no_pool, pool_of}
use Rattle.answers.specs.declared.Mark.{Mark}
use Rattle.answers.specs.declared.Found.{Found}
use Rattle.answers.proofs.NameLaws.{Located}
use Rattle.locate.specs.Asked.{says, asking, Held, held}
use Rattle.questions.specs.Question.{answer_at, finish, ask}
use Rattle.local_times.specs.Tally.{tally_of}
use Rattle.local_times.specs.Instants.{instants_of}
use Rattle.wall_times.specs.WallTime.{MapsTo}
use Rattle.wall_times.specs.View.{local_of, mapping_of, mapping_at, mapping_in}
use Rattle.wall_times.proofs.MapLaws.{map-some, map-one}
use Rattle.demands.specs.Same.{SameFound, SameAnswer, both-answer, both-refuse}
use Rattle.closed_answers.specs.Closed.{SameMapping, both-map, both-deny}
use Rattle.closed_answers.proofs.BesideLaws.{SameContent, both-keep, SameOut, both_found}
use Rattle.closed_answers.proofs.BesideLaws.{both-refused, both-cut, both-ended, Beside, walk-beside}
use Rattle.closed_answers.proofs.BesideLaws.{both-answer as both-answered}
use Rattle.closed_answers.proofs.SameLaws.{SameZone, SamePools, SameField, SameFiles, same-found}

-- what a question makes of field 0, and of a zone
module _ {A : Type 0} (make : Pool → Zone → A) (id : List ℕ) where
  pub pool-kept : (ts : List (List ℕ)) (p : Pool) (g : Field) → g.id ≡ 0 → parse_pool g.body ≡ got ts []
      → says make id p g ≡ keep (pool_of g.start g.body)
  unfolding says
  pool-kept ts p g i e = rw (eq-eqb g.id 0 i, e)

  pub zone-asked : (ts : List (List ℕ)) (p : Pool) (g : Field) (z : Zone) → g.id ≡ 1 → strings_of p.body ≡ ts
      → parse_zone (length ts) g.body ≡ got z []
      → says make id p g ≡ pick (equal (get_or ts z.id []) id) (answer (make p z)) (keep p)
  unfolding says
  zone-asked ts p g z i s e = rw (ne_eqb g.id 0 (λ q. omega arith), s, e, s)

-- a mapping is the same as itself
same-mapping : (m : Result (ℕ × ℤ × ℤ) Fault) → SameMapping m m
same-mapping (Ok (n, a, e)) = both-map
same-mapping (Err (n, p)) = both-deny

-- the data of a field of f is a part of it
pub field-located : (f : List ℕ) (g : Field) → FieldOf f g → Located f (pool_of g.start g.body)
field-located f g o = record { within = omega (arith, o.ends, o.within); part = o.bytes }

module _ (f h : List ℕ) (ts us : List (List ℕ)) (s : SameFiles f h ts us) where
  abbrev b : Beside (SameField f h ts us) f h
  b = s.beside

  pub first-pools : SamePools f h ts us (pool_of b.first.start b.first.body) (pool_of b.first'.start b.first'.body)
  first-pools =
      record {
        strings = ap strings_in s.pool;
        strings' = ap strings_in s.pool';
        located = field-located f b.first s.of-file;
        located' = field-located h b.first' s.of-file';
      }

  module _ {A B : Type 0} (Q : A → B → Type 0) (make : Pool → Zone → A) (make' : Pool → Zone → B)
      (made : (x y : Pool) (z w : Zone) → SamePools f h ts us x y → SameZone ts us z w → Q (make x z) (make' y w)) (id : List ℕ) where
    -- a zone of both
    pub zone-same : (x y : Pool) (g k : Field) → SameField f h ts us g k → g.id ≡ 1 → SamePools f h ts us x y
        → SameContent (SamePools f h ts us) Q (says make id x g) (says make' id y k)
    zone-same x y g k a i p =
        let d = a.zone i in
        rw (
          zone-asked make id ts x g d.zone i p.strings d.parsed,
          zone-asked make' id us y k d.zone' (a.same_id ∙ i) p.strings'
              d.parsed',
          d.same.id,
        )
        (go (equal (get_or ts d.zone.id []) id) (made x y d.zone d.zone' p d.same))
      where
        go : (t : Bool) {v : A} {w : B} → Q v w → SameContent (SamePools f h ts us) Q (pick t (answer v) (keep x)) (pick t (answer w) (keep y))
        go true q = both-answered q
        go false q = both-keep p

    pub asking-same : SameOut (SamePools f h ts us) Q (walk (asking make id) no_pool f) (walk (asking make' id) no_pool h)
    asking-same =
        walk-beside (SamePools f h ts us) Q (SameField f h ts us) f h b (asking make id) (asking make' id) refl
        (λ x y g k a l p. zone-same x y g k a (omega (arith, a.some)) p) no_pool _ no_pool _
        (pool-kept make id ts no_pool b.first b.is-first s.pool)
        (pool-kept make' id us no_pool b.first' b.is-first' s.pool') first-pools

  -- THE SAME ANSWERS, whatever the mark and the edition, for every ID and instant, in range or not
  pub finish-same : {M N : Type 0} (R : M → N → Type 0) (mark : Mark) (x : Out M Found) (y : Out N Found) → SameOut R (SameFound f h) x y
      → SameAnswer f h (finish mark x) (finish mark y)
  finish-same R mark x y (both_found s) = both-answer s
  finish-same R mark x y both-refused = both-refuse
  finish-same R mark x y both-cut = both-refuse
  finish-same R mark x y (both-ended r) = both-refuse

  pub asked-at : (ed : Edition) (t : ℕ) → Finite t → (x y : Pool) (z w : Zone) → SamePools f h ts us x y → SameZone ts us z w
      → SameFound f h (answer_at ed t x z) (answer_at ed t y w)
  asked-at ed t k x y z w p q = same-found f h ts us x y _ _ p (q.interval ed t k)

  pub ask-same : (id : List ℕ) (z : ℤ) (mark : Mark) (ed : Edition) → SameAnswer f h (ask f id z mark ed) (ask h id z mark ed)
  unfolding ask
  ask-same id z mark ed = go (eqb (instant_of z) 0) refl
    where
      go : (t : Bool) → eqb (instant_of z) 0 ≡ t → SameAnswer f h (ask f id z mark ed) (ask h id z mark ed)
      go true e = rw e both-refuse
      go false e =
          let t = instant_of z in
          let k : Finite t = instant-finite t z refl (eqb-false t 0 e) in
          rw e (finish-same _ mark _ _ (asking-same (SameFound f h) (answer_at ed t) (answer_at ed t) (asked-at ed t k) id))

  -- THE SAME MAPPING of a wall time, or the same refusal
  abbrev SameHeld : Held → Held → Type 0
  SameHeld v w = SameZone ts us v.zone w.zone

  mapping-at : {R : Pool → Pool → Type 0} (l : ℕ) (x y : Out Pool Held) → SameOut R SameHeld x y → SameMapping (mapping_at l x) (mapping_at l y)
  mapping-at l x y (both_found {v = v} s) = rw (s.instants l) (same-mapping (mapping_of (tally_of (instants_of l v.zone.body))))
  mapping-at l x y both-refused = both-deny
  mapping-at l x y both-cut = both-deny
  mapping-at l x y (both-ended r) = both-deny

  pub maps-same : (id : List ℕ) (local : ℤ) (r q : Result (ℕ × ℤ × ℤ) Fault) → MapsTo f id local r → MapsTo h id local q → SameMapping r q
  maps-same id local r q m n =
      subst (λ (x : Result (ℕ × ℤ × ℤ) Fault). SameMapping x q) (map-one f id local (mapping_in f id local) r (map-some f id local) m)
      (subst (SameMapping (mapping_in f id local)) (map-one h id local (mapping_in h id local) q (map-some h id local) n)
      (mapping-at (local_of local) _ _ (asking-same SameHeld held held (λ x y z w p r. r) id)))
