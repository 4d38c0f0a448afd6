-- The mapping of the walk to the asked zone is the one that Ask 3 means, and the only one. Assumes nothing.
use Rattle.base.specs.declared.Refusal.{Refusal}
use Rattle.base.specs.declared.Refusal.TheVariants.{CutShort, NotFound}
use Rattle.base.specs.Coded.{Fault}
use Rattle.std.specs.Prelude.{Err, Ok, Result}
use mathlib.Core.Path.{◌≡◌, refl, sym, ap, ◌∙◌, subst}
use mathlib.Core.List.{List}
use Prim.Native.Nat.{ℕ}
use native.Mathlib.Omega.{arith}
use lib.IntN.{ℤ, pos}
use lib.ListN.{length}
use Rattle.base.specs.Moment.{Finite}
use Rattle.base.proofs.PairLaws.{err_parts}
use Rattle.base.proofs.Tests.{clash}
use Rattle.signed.specs.Instant.{biased_of, instant_of, ticks_of, InRange}
use Rattle.signed.specs.OffsetSum.{milliseconds_of}
use Rattle.signed.proofs.IntegerLaws.{instant-ticks, ticks-instant, instant-finite}
use Rattle.pool.specs.Pool.{strings_of}
use Rattle.zones.specs.Content.{Zone}
use Rattle.zones.specs.Sound.{Sound, FoundOk}
use Rattle.zones.specs.Editions.{under}
use Rattle.zones.specs.Lookup.{in_zone}
use Rattle.zones.specs.declared.Edition.TheVariants.{Two}
use Rattle.zones.proofs.RangeLaws.{zone-found}
use Rattle.frames.specs.Machine.{Out, found, refused, cut, ended, walk}
use Rattle.frames.specs.Mapped.{map_out}
use Rattle.answers.specs.Answers.{Pool, no_pool}
use Rattle.answers.specs.declared.Mark.TheVariants.{All}
use Rattle.answers.specs.declared.Found.{Found}
use Rattle.locate.specs.Asked.{Held, holder, of_held}
use Rattle.questions.specs.Question.{answer_at, finish}
use Rattle.questions.proofs.HeldLaws.{Holding, ask-held, holding-asks, holding-sound}
use Rattle.local_times.specs.Reads.{Reads}
use Rattle.local_times.specs.Tally.{tally_of}
use Rattle.local_times.specs.Instants.{instants_of}
use Rattle.local_times.proofs.InstantLaws.{instants-list}
use Rattle.wall_times.specs.WallTime.{ask_all, local_time, ReadsBy, MapsBy, MapsTo}
use Rattle.wall_times.specs.View.{local_of, mapping_of, mapping_at, mapping_in}
use Rattle.wall_times.proofs.NumberLaws.{reads-number, number-reads}
use Rattle.wall_times.proofs.TickedLaws.{tally-counts}
use Rattle.wall_times.proofs.CountLaws.{count-one}

-- a question that looks a sound zone up at every instant in range: an instant of the zone that reads as the local time is one by the question,
-- and the other way round
module _ (q : ℤ → Result Found Fault) (local : ℤ) (n : ℕ) (zone : Zone) (sound : Sound n zone) (found-at : ℕ → Found)
    (asks : (z : ℤ) → InRange z → q z ≡ Ok (found-at (instant_of z))) (walls : (t : ℕ) → (found-at t).wall ≡ milliseconds_of (in_zone t zone).wall) where
  in-ticks : (t : ℕ) → Finite t → InRange (ticks_of t)
  in-ticks t f e = omega (arith, f.low, instant-ticks t f)

  reads-to : (t : ℕ) → Reads zone (local_of local) t → ReadsBy q local (ticks_of t)
  reads-to t r = record {
    in-range = in-ticks t r.finite;
    given = found-at t;
    answer = asks (ticks_of t) (in-ticks t r.finite) ∙ ap (λ (u : ℕ). Ok (found-at u)) (instant-ticks t r.finite);
    sum = ap (local_time (ticks_of t)) (walls t) ∙ reads-number t (in_zone t zone).wall local r.finite r.sum;
  }

  reads-from : (z : ℤ) → ReadsBy q local z → Reads zone (local_of local) (instant_of z)
  reads-from z r =
      let g : Finite (instant_of z) = instant-finite (instant_of z) z refl r.in-range in
      let o : FoundOk n (in_zone (instant_of z) zone) = zone-found n (instant_of z) zone sound g in
      let same : ◌≡◌ {A = Result Found Fault} (Ok (found-at (instant_of z))) (Ok r.given) = sym (asks z r.in-range) ∙ r.answer in
      let e : found-at (instant_of z) ≡ r.given = cc in
      record {
        finite = g;
        sum = number-reads (instant_of z) (in_zone (instant_of z) zone).wall local g o.wall-high
            (ap (λ (u : ℤ). local_time u (milliseconds_of (in_zone (instant_of z) zone).wall)) (ticks-instant z g)
            ∙ ap (local_time z) (sym (walls (instant_of z))) ∙ ap (λ (x : Found). local_time z x.wall) e ∙ r.sum);
      }

  -- the zone's instants are the question's
  pub map-looked : MapsBy q local (mapping_of (tally_of (instants_of (local_of local) zone.body)))
  map-looked = record {
    refuses = λ z n p r e. let w : ◌≡◌ {A = Result Found Fault} (Ok (found-at (instant_of z))) (Err (n, p)) = sym (asks z r) ∙ e in clash cc;
    counts = λ z x r e.
        tally-counts (Reads zone (local_of local)) (ReadsBy q local) (λ t r. r.finite) (λ z r. r.in-range) reads-to reads-from
        (instants_of (local_of local) zone.body) (instants-list n (local_of local) zone sound);
  }

module _ (q : ℤ → Result Found Fault) (local : ℤ) where
  -- a refusal at every instant in range is given
  pub map-denied : (n : Refusal) (p : ℕ) → ((z : ℤ) → InRange z → q z ≡ Err (n, p)) → MapsBy q local (Err (n, p))
  map-denied n p asked = record {
    refuses = λ z n' p' r e.
        let s : ◌≡◌ {A = Result Found Fault} (Err (n, p)) (Err (n', p')) = sym (asked z r) ∙ e in
        let a : n ≡ n' = (err_parts s).0 in
        let b : p ≡ p' = (err_parts s).1 in
        rw (a, b);
    counts = λ z x r e. let s : ◌≡◌ {A = Result Found Fault} (Err (n, p)) (Ok x) = sym (asked z r) ∙ e in clash cc;
  }

  -- THERE IS NO OTHER RESULT: the question at 1970-01-01T00:00Z answers or refuses
  pub one-mapping : (r s : Result (ℕ × ℤ × ℤ) Fault) → MapsBy q local r → MapsBy q local s → r ≡ s
  unfolding biased_of
  one-mapping r s a b = go (q (pos 0)) refl
    where
      epoch-in : InRange (pos 0)
      epoch-in e = omega arith

      go : (x : Result Found Fault) → q (pos 0) ≡ x → r ≡ s
      go (Ok x) e = count-one (ReadsBy q local) r s (a.counts (pos 0) x epoch-in e) (b.counts (pos 0) x epoch-in e)
      go (Err (n, p)) e = a.refuses (pos 0) n p epoch-in e ∙ sym (b.refuses (pos 0) n p epoch-in e)

-- the question of a file looks the zone up that the walk holds
module _ (f id : List ℕ) (local : ℤ) where
  map-held : (k : Holding f id) → MapsTo f id local (mapping_of (tally_of (instants_of (local_of local) k.zone.zone.body)))
  unfolding under
  map-held k =
      map-looked (ask_all f id) local _ k.zone.zone (holding-sound f id k) (λ t. of_held (answer_at Two t) k.zone)
      (λ z r. holding-asks f id z All Two r k) (λ t. refl)

  held_none : (n : Refusal) (p : ℕ) → ((t : ℕ) → finish All (map_out (of_held (answer_at Two t)) (walk (holder id) no_pool f)) ≡ Err (n, p)) → MapsTo f id local (Err (n, p))
  held_none n p h = map-denied (ask_all f id) local n p (λ z r. ask-held f id z All Two r ∙ h (instant_of z))

  -- ON ANY BYTES THERE IS SUCH A RESULT
  pub map-some : MapsTo f id local (mapping_in f id local)
  map-some = go (walk (holder id) no_pool f) refl
    where
      go : (o : Out Pool Held) → walk (holder id) no_pool f ≡ o → MapsTo f id local (mapping_at (local_of local) o)
      go (found v p) e = map-held (record { zone = v; past = p; is = e })
      go (refused n p) e = held_none n p (λ t. rw e)
      go (cut p) e = held_none CutShort p (λ t. rw e)
      go (ended m p) e = held_none NotFound p (λ t. rw e)

  pub map-one : (r s : Result (ℕ × ℤ × ℤ) Fault) → MapsTo f id local r → MapsTo f id local s → r ≡ s
  map-one = one-mapping (ask_all f id) local

  -- the code's own result
  pub map_is : (l : ℕ) (r : Result (ℕ × ℤ × ℤ) Fault) → l ≡ local_of local → r ≡ mapping_at l (walk (holder id) no_pool f) → MapsTo f id local r
  map_is l r e g = subst (MapsTo f id local) (sym (g ∙ ap (λ (u : ℕ). mapping_at u (walk (holder id) no_pool f)) e)) map-some
