-- Whether an answer has the offset shown, and how long the offset lasts. Assumes nothing.
use Rattle.base.specs.declared.Refusal.{Refusal}
use Rattle.std.specs.Prelude.{Err, Ok, Result}
use mathlib.Core.Path.{◌≡◌, refl, sym, ap, ◌∙◌}
use mathlib.Core.Bool.{Bool, true, false}
use mathlib.Core.List.{List}
use Prim.Native.Nat.{ℕ, ◌≤◌, ◌<◌}
use native.Mathlib.Omega.{arith}
use lib.IntN.{ℤ, pos, negsuc}
use lib.Signed.{lt_z}
use borrow.Author.Tests.{ltb-false, le-ltb}
use Rattle.base.specs.Pick.{pick}
use Rattle.base.specs.Moment.{Finite}
use Rattle.base.proofs.Tests.{never}
use Rattle.signed.specs.Instant.{instant_of, InRange}
use Rattle.signed.specs.OffsetSum.{milliseconds_of}
use Rattle.signed.proofs.IntegerLaws.{instant-finite}
use Rattle.pool.specs.Index.{room_of}
use Rattle.location_lookup.specs.Location.{lent_part}
use Rattle.zones.specs.Parse.{parse_zone}
use Rattle.zones.specs.Intervals.{Holds}
use Rattle.zones.specs.Lookup.{answer_of}
use Rattle.zones.specs.declared.Edition.TheVariants.{Two}
use Rattle.zones.specs.declared.Found.{Found as Interval}
use Rattle.found_zones.specs.FoundZone.{ask_zone}
use Rattle.found_zones.specs.declared.FoundZone.{FoundZone}
use Rattle.found_zones.proofs.SameLaws.{found-holds, found-same}
use Rattle.found_zones.proofs.AskLaws.{in-denied, in-found, zone-outside, zone-inside}
use Rattle.trace_records.specs.Record.{same_as, gives}
use Rattle.trace_records.specs.Kept.{Lasts, OffsetAt}

-- integers of which neither is less are equal
not-less : (a b : ℤ) → lt_z a b ≡ false → lt_z b a ≡ false → a ≡ b
not-less (pos a) (pos b) e f = ap pos (omega (arith, ltb-false a b e, ltb-false b a f))
not-less (pos a) (negsuc b) e f = never refl f
not-less (negsuc a) (pos b) e f = never refl e
not-less (negsuc a) (negsuc b) e f = ap negsuc (omega (arith, ltb-false b a e, ltb-false a b f))

itself : (a : ℤ) → lt_z a a ≡ false
itself (pos a) = le-ltb a a (omega arith)
itself (negsuc a) = le-ltb a a (omega arith)

pub same_self : (a : ℤ) → same_as a a ≡ true
unfolding same_as
same_self a = rw (itself a) refl

pub same-one : (a b : ℤ) → same_as a b ≡ true → a ≡ b
unfolding same_as
same-one a b e = go (lt_z a b) refl (lt_z b a) refl e
  where
    go : (t : Bool) → lt_z a b ≡ t → (u : Bool) → lt_z b a ≡ u → pick t false (pick u false true) ≡ true → a ≡ b
    go true k u l e = never e refl
    go false k true l e = never e refl
    go false k false l e = not-less a b k l

module _ (a b : ℤ) where
  pub less-no : lt_z a b ≡ true → false ≡ same_as a b
  unfolding same_as
  less-no e = rw e refl

  pub more_no : lt_z a b ≡ false → lt_z b a ≡ true → false ≡ same_as a b
  unfolding same_as
  more_no e f = rw (e, f) refl

  pub same-yes : lt_z a b ≡ false → lt_z b a ≡ false → true ≡ same_as a b
  unfolding same_as
  same-yes e f = rw (e, f) refl

-- the question on a found zone, at the tick z
module _ (f : List ℕ) (v : FoundZone) (z shown : ℤ) (t : ℕ) (e : t ≡ instant_of z) where
  pub shown-outside : t ≡ 0 → false ≡ gives shown (ask_zone f v z Two)
  shown-outside h = ap (gives shown) (zone-outside f v z Two t e h)

  -- by the lookup, in the parts that were lent
  module _ (inside : t ≡ 0 → ⊥) (pool zone : List ℕ) (count : ℕ) (a : Result Interval Refusal)
      (lent-pool : pool ≡ lent_part f v.pool v.past) (counts : count ≡ room_of pool) (lent-zone : zone ≡ lent_part f v.start v.end)
      (finds : a ≡ answer_of Two t (parse_zone count zone)) where
    pub shown-denied : (n : Refusal) → a ≡ Err n → false ≡ gives shown (ask_zone f v z Two)
    shown-denied n h =
        ap (gives shown) (zone-inside f v z Two t e inside _ (in-denied f v Two t pool zone count a lent-pool counts lent-zone finds n _ h refl))

    pub shown-found : (x : Interval) → a ≡ Ok x → (r : Bool) → r ≡ same_as (milliseconds_of x.wall) shown → r ≡ gives shown (ask_zone f v z Two)
    shown-found x h r k =
        k ∙ ap (gives shown) (zone-inside f v z Two t e inside _ (in-found f v Two t pool zone count a lent-pool counts lent-zone finds x h _ _ refl refl))

-- at an instant
module _ (f : List ℕ) (v : FoundZone) (t : ℕ) (g : Finite t) (pool zone : List ℕ) (count : ℕ) (a : Result Interval Refusal)
    (lent-pool : pool ≡ lent_part f v.pool v.past) (counts : count ≡ room_of pool) (lent-zone : zone ≡ lent_part f v.start v.end)
    (finds : a ≡ answer_of Two t (parse_zone count zone)) where
  inside : t ≡ 0 → ⊥
  inside e = omega (arith, g.low)

  pub offset-none : (n : Refusal) → a ≡ Err n → OffsetAt f v t (record { from = 0; to = 0; wall = pos 0 })
  offset-none n h = record {
    lasts = record { each = λ z w r l m. absurd (omega arith) };
    begun = λ l. absurd (omega arith);
    none = λ l z w e. shown-denied f v z w t e inside pool zone count a lent-pool counts lent-zone finds n h;
  }

  pub offset-found : (x : Interval) → a ≡ Ok x → (y : ℤ) → y ≡ milliseconds_of x.wall → OffsetAt f v t (record { from = x.start; to = x.end; wall = y })
  offset-found x h y q = record {
    lasts = record { each = each };
    begun = λ l. now.from;
    none = λ l z w e. absurd (omega (arith, now.to));
  }
    where
      now : Holds x t
      now = found-holds Two count zone t g x (parse_zone count zone) refl (sym finds ∙ h)

      each : (z w : ℤ) → InRange z → x.start ≤ instant_of z → instant_of z < x.end → same_as y w ≡ gives w (ask_zone f v z Two)
      each z w r l m =
          let u = instant-finite (instant_of z) z refl r in
          let e = found-same Two count zone t g x (parse_zone count zone) refl (sym finds ∙ h) (instant_of z) u (record { from = l; to = m }) in
          shown-found f v z w (instant_of z) refl r pool zone count (answer_of Two (instant_of z) (parse_zone count zone)) lent-pool counts lent-zone refl x e (same_as y w)
          (ap (λ (o : ℤ). same_as o w) q)
