-- What an answer of a zone says is in its ranges. Assumes nothing.
use Rattle.std.specs.Prelude.{Ok}
use mathlib.Core.Path.{◌≡◌, refl, sym, subst}
use mathlib.Core.Bool.{Bool, true, false}
use mathlib.Core.List.{List, [], ◌∷◌}
use Prim.Native.Nat.{ℕ, ◌+◌, ◌-◌, ◌≤◌, ◌<◌}
use native.Mathlib.Omega.{arith}
use lib.Dec.{ltb}
use borrow.Author.Tests.{ltb-false}
use Rattle.base.specs.Pick.{pick}
use Rattle.base.specs.Parsed.{Parsed, got, bad}
use Rattle.base.specs.Moment.{Finite, start_of_time, end_of_time}
use Rattle.base.proofs.Tests.{pick-holds, clash}
use Rattle.recurrence.specs.Tails.{wall_of, lookup}
use Rattle.rules.proofs.FieldLaws.{sum-range}
use Rattle.intervals.specs.declared.Interval.{Interval}
use Rattle.intervals.specs.Sound.{Ranged, Rising}
use Rattle.tails.specs.declared.NamedTail.{NamedTail}
use Rattle.tails.specs.Sound.{NamedTailOk}
use Rattle.zones.specs.Content.{untailed, tailed, absent, present, Body, fixed, listed, Zone}
use Rattle.zones.specs.Parse.{parse_zone}
use Rattle.zones.specs.Sound.{BodyOk, Sound, FoundOk}
use Rattle.zones.specs.Editions.{under}
use Rattle.zones.specs.Lookup.{zero_offset, until, holding, in_list, in_tail, behind_list, fixed_name_of, in_body, in_zone, answer_of}
use Rattle.zones.proofs.SoundLaws.{zone-sound}
use Rattle.zones.proofs.EditionLaws.{under-sound}
use Rattle.zones.specs.declared.Edition.{Edition}
use Rattle.zones.specs.declared.Found.{Found}

until-ok : (pool : ℕ) (i : Interval) (end : ℕ) → Ranged pool i → FoundOk pool (until i end)
until-ok pool i end h = record {
  name-ok = h.name-ok;
  wall-high = omega (arith, h.wall-high);
  savings-high = omega (arith, h.savings-high);
  standard-low = h.standard-low;
  standard-high = h.standard-high;
}

holding-ok : (pool t end : ℕ) (i : Interval) (prev : ℕ) (is : List Interval) → Ranged pool i → Rising pool prev is → FoundOk pool (holding t end i is)
unfolding holding
holding-ok pool t end i prev [] h l = until-ok pool i end h
holding-ok pool t end i prev (j ∷ is) h l =
    pick-holds (FoundOk pool) (ltb t j.start) (λ _. until-ok pool i j.start h) (λ _. holding-ok pool t end j j.start is l.0.ranged l.1)

tail-ok : (pool end t : ℕ) (n : NamedTail) → NamedTailOk pool end n → FoundOk pool (in_tail t n)
unfolding in_tail lookup
tail-ok pool end t n o =
    let r = go (lookup n.tail t).daylight in
    record { name-ok = r.0; wall-high = r.1; savings-high = r.2; standard-low = r.3; standard-high = r.4 }
  where
    s : (86400000 < n.tail.offset + n.tail.savings) × (n.tail.offset + n.tail.savings < 259200000)
    s = sum-range n.tail.offset n.tail.savings o.tail-ok.sum-ok

    go : (b : Bool)
        → (pick b n.daylight n.standard < pool) × (pick b (wall_of n.tail) n.tail.offset < 172800000)
        × (pick b n.tail.savings 86400000 < 172800000)
        × (pick b n.tail.savings 86400000 < pick b (wall_of n.tail) n.tail.offset + 86400000)
        × (pick b (wall_of n.tail) n.tail.offset < pick b n.tail.savings 86400000 + 86400000)
    go true =
        (o.daylight-ok, omega (arith, s), omega (arith, o.savings-high), omega (arith, s, o.offset-low), omega (arith, s, o.tail-ok.offset-high))
    go false = (o.standard-ok, o.tail-ok.offset-high, omega arith, omega (arith, o.offset-low), omega (arith, o.tail-ok.offset-high))

fixed-ok : (pool offset name : ℕ) → 1 ≤ offset → offset ≤ 172799999 → name < pool
    → FoundOk pool (record { wall = offset; savings = zero_offset; name = name; start = start_of_time; end = end_of_time })
fixed-ok pool offset name l h k =
    record { name-ok = k; wall-high = omega arith; savings-high = omega arith; standard-low = omega arith; standard-high = omega arith }

body-found : (pool t id : ℕ) (b : Body) → id < pool → BodyOk pool b → Finite t → FoundOk pool (in_body t id b)
unfolding in_body in_list behind_list fixed_name_of
body-found pool t id (fixed offset absent) i h f = fixed-ok pool offset id h.0 h.1 i
body-found pool t id (fixed offset (present n)) i h f = fixed-ok pool offset n h.0 h.1 h.2
body-found pool t id (listed [] end e) i h f = absurd h.0
body-found pool t id (listed (j ∷ is) end untailed) i h f =
    pick-holds (FoundOk pool) (ltb t end) (λ _. holding-ok pool t end j j.start is h.0.1 h.0.2)
    (λ e. absurd (omega (arith, ltb-false t end e, h.1, f.high)))
body-found pool t id (listed (j ∷ is) end (tailed n)) i h f =
    pick-holds (FoundOk pool) (ltb t end) (λ _. holding-ok pool t end j j.start is h.0.1 h.0.2) (λ _. tail-ok pool end t n h.1.2)

pub zone-found : (pool t : ℕ) (z : Zone) → Sound pool z → Finite t → FoundOk pool (in_zone t z)
zone-found pool t z h f = body-found pool t z.id z.body h.id-ok h.body_ok f

-- what a lookup gives
pub found_ok : (ed : Edition) (pool t : ℕ) (s : List ℕ) (x : Found) → Finite t → Ok x ≡ answer_of ed t (parse_zone pool s) → FoundOk pool x
found_ok ed pool t s x f e = go (parse_zone pool s) refl e
  where
    go : (p : Parsed Zone) → p ≡ parse_zone pool s → Ok x ≡ answer_of ed t p → FoundOk pool x
    go (got z r) k h =
        let y : in_zone t (under ed z) ≡ x = cc in
        subst (FoundOk pool) y (zone-found pool t (under ed z) (under-sound ed pool z (zone-sound pool s z r (sym k)).0) f)
    go (bad n) k h = clash cc
