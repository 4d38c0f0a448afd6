-- The answer at an interval's end, and what the edition changes. Assumes nothing.
use Rattle.base.specs.declared.Refusal.TheVariants.{OutOfRange}
use Rattle.base.specs.Coded.{Fault}
use Rattle.std.specs.Prelude.{Err, Ok, Result}
use mathlib.Core.Path.{◌≡◌, refl, sym, ap, ◌∙◌}
use mathlib.Core.Bool.{Bool, true, false}
use mathlib.Core.List.{List}
use mathlib.Core.Logic.{◌⊎◌, inl, inr}
use Prim.Native.Nat.{ℕ, ◌≤◌, ◌<◌}
use native.Mathlib.Omega.{arith}
use lib.Dec.{eqb}
use lib.IntN.{ℤ}
use borrow.Author.Tests.{eqb-false, ne_eqb, le-ltb}
use Rattle.base.specs.Pick.{pick}
use Rattle.base.specs.Parsed.{Parsed, got, bad}
use Rattle.base.specs.Moment.{Finite, end_of_time}
use Rattle.base.proofs.Tests.{clash, by_order}
use Rattle.signed.specs.Instant.{biased_of, instant_of, InRange, ticks_of}
use Rattle.signed.proofs.IntegerLaws.{instant-finite, instant-ticks}
use Rattle.pool.specs.Index.{room_of}
use Rattle.location_lookup.specs.Location.{lent_part}
use Rattle.zones.specs.Content.{FixedName, fixed, Zone}
use Rattle.zones.specs.Editions.{nameless, under}
use Rattle.zones.specs.Lookup.{in_body, in_zone}
use Rattle.zones.specs.Sound.{Sound}
use Rattle.zones.specs.declared.Edition.{Edition}
use Rattle.zones.specs.declared.Edition.TheVariants.{One, Two}
use Rattle.zones.specs.declared.Found.{Found as Interval}
use Rattle.zones.proofs.EditionLaws.{fixed-or-same, under-sound}
use Rattle.zones.proofs.SoundLaws.{zone-sound}
use Rattle.zones.proofs.EndLaws.{end-finite, next-start}
use Rattle.answers.specs.declared.Found.{Found}
use Rattle.found_zones.specs.FoundZone.{answer_in, zone_at, zone_answer, ask_zone}
use Rattle.found_zones.specs.declared.FoundZone.{FoundZone}

-- end of time is out of range
pub end-out : (m : ℕ) → end_of_time ≤ m → instant_of (ticks_of m) ≡ 0
unfolding biased_of
end-out m h = rw (ne_eqb m 0 (λ e. omega arith), le-ltb m end_of_time h) refl

module _ (f : List ℕ) (v : FoundZone) (ed : Edition) where
  -- the zone that a question answered for
  pub record Answers (z : ℤ) (x : Found) : Type 0 where
    pub zone : Zone
    pub rest : List ℕ
    pub zone-is : zone_at f v ≡ got zone rest
    pub in-range : InRange z
    pub is : x ≡ answer_in f v (in_zone (instant_of z) (under ed zone))

  pub answered : (z : ℤ) (x : Found) → ask_zone f v z ed ≡ Ok x → Answers z x
  unfolding ask_zone
  answered z x e = go (eqb (instant_of z) 0) refl e
    where
      on : InRange z → (p : Parsed Zone) → zone_at f v ≡ p → zone_answer f v ed (instant_of z) p ≡ Ok x → Answers z x
      on g (got w r) q k = let i : x ≡ answer_in f v (in_zone (instant_of z) (under ed w)) = cc in record {
        zone = w;
        rest = r;
        zone-is = q;
        in-range = g;
        is = i;
      }
      on g (bad n) q k = clash cc

      go : (b : Bool) → eqb (instant_of z) 0 ≡ b → pick b (Err (OutOfRange, 0)) (zone_answer f v ed (instant_of z) (zone_at f v)) ≡ Ok x → Answers z x
      go true q a = clash cc
      go false q a = on (eqb-false (instant_of z) 0 q) (zone_at f v) refl a

  -- and the answer at a tick in range, of the zone that was read
  pub answers_at : (w : Zone) (r : List ℕ) → zone_at f v ≡ got w r → (z : ℤ) → InRange z → ask_zone f v z ed ≡ Ok (answer_in f v (in_zone (instant_of z) (under ed w)))
  unfolding ask_zone
  answers_at w r q z g = rw (ne_eqb (instant_of z) 0 g) (ap (zone_answer f v ed (instant_of z)) q)

  module _ (z : ℤ) (x : Found) (a : Answers z x) where
    abbrev shown : Zone
    shown = under ed a.zone

    abbrev here : Interval
    here = in_zone (instant_of z) shown

    finite-here : Finite (instant_of z)
    finite-here = instant-finite (instant_of z) z refl a.in-range

    -- an end in range is before end of time
    end_before : InRange x.end → here.end < end_of_time
    end_before g =
        by_order here.end end_of_time (λ (h : here.end < end_of_time). h)
        (λ (h : end_of_time ≤ here.end). absurd (g (ap (λ (y : Found). instant_of y.end) a.is ∙ end-out here.end h)))

    sound : Sound (room_of (lent_part f v.pool v.past)) shown
    sound =
        let n : ℕ = room_of (lent_part f v.pool v.past) in
        under-sound ed n a.zone (zone-sound n (lent_part f v.start v.end) a.zone a.rest a.zone-is).0

    -- THE ANSWER AT AN INTERVAL'S END STARTS THERE
    pub ask-next : (y : Found) → ask_zone f v x.end ed ≡ Ok y → y.start ≡ x.end
    ask-next y e =
        let b = answered x.end y e in
        let n : ℕ = room_of (lent_part f v.pool v.past) in
        let l : here.end < end_of_time = end_before b.in-range in
        let t : instant_of x.end ≡ here.end =
        ap (λ (u : Found). instant_of u.end) a.is ∙ instant-ticks here.end (end-finite n shown sound (instant_of z) finite-here l) in
        let k : ◌≡◌ {A = Result Found Fault} (Ok y) (Ok (answer_in f v (in_zone (instant_of x.end) shown))) = sym e ∙ answers_at a.zone a.rest a.zone-is x.end b.in-range in
        let i : y ≡ answer_in f v (in_zone (instant_of x.end) shown) = cc in
        ap (λ (u : Found). u.start) i
        ∙ ap (λ (u : ℕ). ticks_of (in_zone u shown).start) t
        ∙ ap ticks_of (next-start n shown sound (instant_of z) finite-here l)
        ∙ ap (λ (u : Found). u.end) (sym a.is)

-- a zone that is not fixed is the same under both editions
under_same : (ed : Edition) (w : Zone) → nameless w.body ≡ w.body → under ed w ≡ w
unfolding under
under_same One w e = rw e
under_same Two w e = refl

-- a fixed one has no end
fixed-end : (ed : Edition) (w : Zone) (t offset : ℕ) (n : FixedName) → w.body ≡ fixed offset n → (in_zone t (under ed w)).end ≡ end_of_time
unfolding under nameless in_body
fixed-end One w t offset n e = rw e refl
fixed-end Two w t offset n e = rw e refl

-- WHERE AN INTERVAL HAS AN END, THE EDITION CHANGES NOTHING
module _ (f : List ℕ) (v : FoundZone) (ed : Edition) (z : ℤ) (x : Found) (e : ask_zone f v z ed ≡ Ok x) (g : InRange x.end) where
  abbrev held : Answers f v ed z x
  held = answered f v ed z x e

  same-zone : under ed held.zone ≡ held.zone
  same-zone = go (fixed-or-same held.zone.body)
    where
      go : (nameless held.zone.body ≡ held.zone.body) ⊎ ((offset : ℕ) × (n : FixedName) × (held.zone.body ≡ fixed offset n))
          → under ed held.zone ≡ held.zone
      go (inl h) = under_same ed held.zone h
      go (inr h) = absurd (g (ap (λ (y : Found). instant_of y.end) held.is ∙ end-out (here f v ed z x held).end (omega (arith, fixed-end ed held.zone (instant_of z) h.0 h.1 h.2))))

  pub edition-same : (y : ℤ) → ask_zone f v y ed ≡ ask_zone f v y Two
  unfolding ask_zone under
  edition-same y =
      ap (λ (p : Parsed Zone). pick (eqb (instant_of y) 0) (Err (OutOfRange, 0)) (zone_answer f v ed (instant_of y) p)) held.zone-is
      ∙ ap (λ (w : Zone). pick (eqb (instant_of y) 0) (Err (OutOfRange, 0)) (Ok (answer_in f v (in_zone (instant_of y) w)))) same-zone
      ∙ ap (λ (p : Parsed Zone). pick (eqb (instant_of y) 0) (Err (OutOfRange, 0)) (zone_answer f v Two (instant_of y) p)) (sym held.zone-is)
