-- At each instant of an interval that was found, the lookup and the question on a found zone give it again. Assumes nothing.
use Rattle.base.specs.declared.Refusal.TheVariants.{OutOfRange}
use Rattle.base.specs.declared.Refusal.{Refusal}
use Rattle.base.specs.Coded.{Fault}
use Rattle.std.specs.Prelude.{Err, Ok, Result}
use mathlib.Core.Path.{◌≡◌, refl, sym, ap, ◌∙◌, subst}
use mathlib.Core.Bool.{Bool, true, false}
use mathlib.Core.List.{List}
use Prim.Native.Nat.{ℕ, ◌≤◌, ◌<◌}
use lib.IntN.{ℤ}
use lib.Dec.{T, eqb, leb→le, ltb→lt}
use lib.Signed.{le_z, lt_z, ◌≤ℤ◌, ◌<ℤ◌}
use borrow.Author.Tests.{eqb-false}
use Rattle.base.specs.Pick.{pick}
use Rattle.base.specs.Parsed.{Parsed, got, bad}
use Rattle.base.specs.Moment.{Finite}
use Rattle.base.proofs.Tests.{clash}
use Rattle.signed.specs.Instant.{instant_of, InRange, ticks_of}
use Rattle.signed.proofs.IntegerLaws.{instant-finite, ticks-instant}
use Rattle.signed.proofs.TickLaws.{ticks-le, ticks-lt}
use Rattle.pool.specs.Index.{room_of}
use Rattle.location_lookup.specs.Location.{lent_part}
use Rattle.zones.specs.Content.{Zone}
use Rattle.zones.specs.Parse.{parse_zone}
use Rattle.zones.specs.Editions.{under}
use Rattle.zones.specs.Lookup.{in_zone, answer_of}
use Rattle.zones.specs.Intervals.{Holds}
use Rattle.zones.specs.Sound.{Sound}
use Rattle.zones.specs.declared.Edition.{Edition}
use Rattle.zones.specs.declared.Found.{Found as Interval}
use Rattle.zones.proofs.EditionLaws.{under-sound}
use Rattle.zones.proofs.SoundLaws.{zone-sound}
use Rattle.zones.proofs.EndLaws.{holds, same_at}
use Rattle.answers.specs.declared.Found.{Found}
use Rattle.found_zones.specs.FoundZone.{answer_in, zone_at, zone_answer, ask_zone}
use Rattle.found_zones.specs.declared.FoundZone.{FoundZone}
use Rattle.found_zones.proofs.AskLaws.{zone-inside}

-- the lookup in a zone that was read, at an instant of the interval x
module _ (ed : Edition) (n : ℕ) (s : List ℕ) (t : ℕ) (f : Finite t) (x : Interval) where
  pub found-holds : (p : Parsed Zone) → parse_zone n s ≡ p → answer_of ed t p ≡ Ok x → Holds x t
  found-holds (bad k) q e = clash cc
  found-holds (got w o) q e =
      let a : in_zone t (under ed w) ≡ x = cc in
      subst (λ (i : Interval). Holds i t) a (holds n (under ed w) (under-sound ed n w (zone-sound n s w o q).0) t f)

  pub found-same : (p : Parsed Zone) → parse_zone n s ≡ p → answer_of ed t p ≡ Ok x → (u : ℕ) → Finite u → Holds x u → answer_of ed u p ≡ Ok x
  found-same (bad k) q e u g h = clash cc
  found-same (got w o) q e u g h =
      let a : in_zone t (under ed w) ≡ x = cc in
      let m : Holds (in_zone t (under ed w)) u = subst (λ (i : Interval). Holds i u) (sym a) h in
      ap Ok (same_at n (under ed w) (under-sound ed n w (zone-sound n s w o q).0) t f u g m ∙ a)

-- a tick in range, against that of a moment
module _ (z : ℤ) (r : InRange z) where
  instant : Finite (instant_of z)
  instant = instant-finite (instant_of z) z refl r

  from_le : (m : ℕ) → ticks_of m ≤ℤ z → m ≤ instant_of z
  from_le m h =
      leb→le m (instant_of z) (subst T (ticks-le m (instant_of z) instant)
      (subst (λ (u : ℤ). T (le_z (ticks_of m) u)) (sym (ticks-instant z instant)) h.le))

  from-lt : (m : ℕ) → z <ℤ ticks_of m → instant_of z < m
  from-lt m h =
      ltb→lt (instant_of z) m (subst T (ticks-lt m (instant_of z) instant)
      (subst (λ (u : ℤ). T (lt_z u (ticks_of m))) (sym (ticks-instant z instant)) h.lt))

module _ (f : List ℕ) (v : FoundZone) (ed : Edition) (x : Found) where
  -- at two instants of one interval
  in-same : (p : Parsed Zone) → zone_at f v ≡ p → (z : ℤ) → InRange z → zone_answer f v ed (instant_of z) p ≡ Ok x
      → (y : ℤ) → InRange y → x.start ≤ℤ y → y <ℤ x.end → Ok x ≡ zone_answer f v ed (instant_of y) p
  in-same (bad n) q z r e y s h k = clash cc
  in-same (got w o) q z r e y s h k =
      let a : answer_in f v (in_zone (instant_of z) (under ed w)) ≡ x = cc in
      let m : Holds (in_zone (instant_of z) (under ed w)) (instant_of y) = record {
        from = from_le y s _ (subst (λ (u : Found). u.start ≤ℤ y) (sym a) h);
        to = from-lt y s _ (subst (λ (u : Found). y <ℤ u.end) (sym a) k);
      } in
      let b : ◌≡◌ {A = Result Interval Refusal} (Ok (in_zone (instant_of y) (under ed w))) (Ok (in_zone (instant_of z) (under ed w))) =
      found-same ed (room_of (lent_part f v.pool v.past)) (lent_part f v.start v.end) (instant_of z) (instant z r) _ (got w o) q refl (instant_of y) (instant y s) m in
      let c : in_zone (instant_of y) (under ed w) ≡ in_zone (instant_of z) (under ed w) = cc in
      ap Ok (sym a) ∙ ap (λ (i : Interval). Ok (answer_in f v i)) (sym c)

  -- AT EACH TICK OF AN INTERVAL THE QUESTION GIVES IT
  pub ask-same : (z : ℤ) → ask_zone f v z ed ≡ Ok x → (y : ℤ) → InRange y → x.start ≤ℤ y → y <ℤ x.end → ask_zone f v y ed ≡ Ok x
  unfolding ask_zone
  ask-same z e y s h k = go (eqb (instant_of z) 0) refl e
    where
      go : (b : Bool) → eqb (instant_of z) 0 ≡ b → pick {A = Result Found Fault} b (Err (OutOfRange, 0)) (zone_answer f v ed (instant_of z) (zone_at f v)) ≡ Ok x → ask_zone f v y ed ≡ Ok x
      go true q a = clash cc
      go false q a =
          sym (zone-inside f v y ed (instant_of y) refl s (Ok x) (in-same (zone_at f v) refl z (eqb-false (instant_of z) 0 q) a y s h k))
