-- The content of a zone that was read is in its ranges. Assumes nothing.
use Rattle.base.specs.declared.Refusal.{Refusal}
use Rattle.base.specs.declared.Refusal.TheVariants.{BadData, BadInterval, TooLarge}
use mathlib.Core.Path.{◌≡◌, refl, sym, ◌∙◌, subst}
use mathlib.Core.Bool.{Bool, true, false}
use mathlib.Core.List.{List, [], ◌∷◌}
use mathlib.Core.Logic.{inl, inr}
use Prim.Native.Nat.{ℕ, ◌≤◌, ◌<◌}
use native.Mathlib.Omega.{arith}
use lib.Dec.{ltb, eqb}
use lib.ListN.{length}
use borrow.Author.Tests.{ltb-true, ltb-false, eqb-true, eqb-false}
use Rattle.base.specs.Pick.{pick, both}
use Rattle.base.specs.Parsed.{Parsed, got, bad, bind, parse, parse_byte, many, behind}
use Rattle.base.specs.Moment.{Finite, end_of_time}
use Rattle.base.proofs.Tests.{both_left, both_right}
use Rattle.base.proofs.ParseLaws.{bad-got, bind-good, pick_good, pick-bad, ended-good}
use Rattle.base.proofs.MomentLaws.{Moment}
use Rattle.counts.specs.Count.{read_count}
use Rattle.offsets.specs.Offset.{read_sum}
use Rattle.transitions.specs.Transition.{read_moment}
use Rattle.places.specs.Name.{parse_name}
use Rattle.places.proofs.ValueLaws.{moment-is, name-ok, sum_low, sum-high}
use Rattle.intervals.specs.declared.Interval.{Interval}
use Rattle.intervals.specs.Interval.{parse_interval, start_of}
use Rattle.intervals.specs.Sound.{ListOk}
use Rattle.intervals.proofs.SoundLaws.{list-sound, list_length}
use Rattle.tails.specs.Tail.{parse_tail}
use Rattle.tails.proofs.TailLaws.{tail-sound}
use Rattle.zones.specs.Content.{untailed, tailed, absent, present, Body, fixed, listed, Zone}
use Rattle.zones.specs.Parse.{zone_of, after_tail, parse_tailed, after_tail_byte, after_end, after_intervals, after_count, parse_listed, fixed_of, after_fixed_offset, parse_fixed, after_flag, after_id, parse_zone}
use Rattle.zones.specs.Sound.{BodyOk, Sound}

-- what a zone says, and that it ends with its data
pub record Whole (pool id : ℕ) (z : Zone) (q : List ℕ) : Type 0 where
  pub id-is : z.id ≡ id
  pub body_ok : BodyOk pool z.body
  pub ends : q ≡ []

zone-whole : (pool id : ℕ) (b : Body) (s : List ℕ) (z : Zone) (q : List ℕ) → BodyOk pool b → zone_of id b s ≡ got z q → Whole pool id z q
unfolding zone_of
zone-whole pool id b s z q h e =
    let k = ended-good (record { id = id; body = b }) z s q e in
    subst (λ (x : Zone). Whole pool id x q) k.0 (record { id-is = refl; body_ok = h; ends = k.2 })

fixed-whole : (pool id : ℕ) (s : List ℕ) (z : Zone) (q : List ℕ) → parse_fixed pool id s ≡ got z q → Whole pool id z q
unfolding parse_fixed after_fixed_offset
fixed-whole pool id s z q e =
    let a = bind-good (parse read_sum s) (after_fixed_offset pool id) z q e in
    go a.first a.rest (sum_low _ _ _ a.is) (sum-high _ _ _ a.is) a.on
  where
    go : (offset : ℕ) (r : List ℕ) → 1 ≤ offset → offset ≤ 172799999 → after_fixed_offset pool id offset r ≡ got z q → Whole pool id z q
    go offset [] l h k = zone-whole pool id (fixed offset absent) [] z q (l, h, tt) k
    go offset (c ∷ r) l h k =
        let b = bind-good (parse_name pool (c ∷ r)) (fixed_of id offset) z q k in
        zone-whole pool id (fixed offset (present b.first)) b.rest z q (l, h, name-ok pool _ _ _ b.is) b.on

-- an end transition after a start and before end of time is finite
end-finite : (m : ℕ) → Moment m → 0 < m → m < end_of_time → Finite m
end-finite m (inl x) a b = absurd (omega arith)
end-finite m (inr (inl x)) a b = absurd (omega arith)
end-finite m (inr (inr x)) a b = x

module _ (pool id : ℕ) (is : List Interval) (list : ListOk pool is) (few : length is ≤ 4096) (end : ℕ) (moment : Moment end) (z : Zone) (q : List ℕ) where
  tailed-whole : (s : List ℕ) → both (ltb (behind start_of end_of_time is) end) (ltb end end_of_time) ≡ true → parse_tailed pool id is end s ≡ got z q
      → Whole pool id z q
  unfolding parse_tailed after_tail
  tailed-whole s h e =
      let l : behind start_of end_of_time is < end = ltb-true _ _ (both_left (ltb (behind start_of end_of_time is) end) _ h) in
      let r : end < end_of_time = ltb-true _ _ (both_right (ltb (behind start_of end_of_time is) end) _ h) in
      let f : Finite end = end-finite end moment (omega arith) r in
      let a = bind-good (parse_tail pool end s) (after_tail id is end) z q e in
      zone-whole pool id (listed is end (tailed a.first)) a.rest z q (list, (l, f, tail-sound pool end _ _ _ f a.is), few) a.on

  byte-whole : (b : ℕ) (s : List ℕ) → after_tail_byte pool id is end b s ≡ got z q → Whole pool id z q
  unfolding after_tail_byte
  byte-whole b s e = go (eqb b 0) (eqb b 1) e
    where
      go : (t u : Bool)
          → pick t (pick (eqb end end_of_time) (zone_of id (listed is end untailed) s) (bad BadInterval))
          (pick u (pick (both (ltb (behind start_of end_of_time is) end) (ltb end end_of_time)) (parse_tailed pool id is end s) (bad BadInterval)) (bad BadData))
          ≡ got z q
          → Whole pool id z q
      go true u k =
          let a = pick_good (eqb end end_of_time) (zone_of id (listed is end untailed) s) BadInterval z q k in
          zone-whole pool id (listed is end untailed) s z q (list, eqb-true end end_of_time a.0, few) a.1
      go false true k =
          let a = pick_good (both (ltb (behind start_of end_of_time is) end) (ltb end end_of_time)) (parse_tailed pool id is end s) BadInterval z q k in
          tailed-whole s a.0 a.1
      go false false k = bad-got k

listed-whole : (pool id : ℕ) (s : List ℕ) (z : Zone) (q : List ℕ) → parse_listed pool id s ≡ got z q → Whole pool id z q
unfolding parse_listed after_count after_intervals after_end
listed-whole pool id s z q e =
    let a = bind-good (parse read_count s) (after_count pool id) z q e in
    let n : ℕ = a.first in
    let many-of : Parsed (List Interval) = many (parse_interval pool) start_of n end_of_time a.rest in
    let b = pick-bad (eqb n 0) (pick (ltb 4096 n) (bad TooLarge) (bind many-of (after_intervals pool id))) BadInterval z q a.on in
    let c = pick-bad (ltb 4096 n) (bind many-of (after_intervals pool id)) TooLarge z q b.1 in
    let d = bind-good many-of (after_intervals pool id) z q c.1 in
    let is : List Interval = d.first in
    let f = bind-good (parse (read_moment (behind start_of end_of_time is)) d.rest) (after_end pool id is) z q d.on in
    let g = bind-good (parse_byte f.rest) (after_tail_byte pool id is f.first) z q f.on in
    let few : length is ≤ 4096 = rw (list_length pool n _ _ is _ d.is) (ltb-false 4096 n c.0) in
    byte-whole pool id is (list-sound pool n _ is _ (eqb-false n 0 b.0) d.is) few f.first (moment-is _ _ _ _ f.is) z q g.first g.rest g.on

flag-whole : (pool id flag : ℕ) (s : List ℕ) (z : Zone) (q : List ℕ) → after_flag pool id flag s ≡ got z q → Whole pool id z q
unfolding after_flag
flag-whole pool id flag s z q = go (eqb flag 1) (eqb flag 2)
  where
    go : (t u : Bool) → pick t (parse_fixed pool id s) (pick u (parse_listed pool id s) (bad BadData)) ≡ got z q → Whole pool id z q
    go true u k = fixed-whole pool id s z q k
    go false true k = listed-whole pool id s z q k
    go false false k = bad-got k

-- the content of every zone that is read is sound, and nothing is left over
pub zone-sound : (pool : ℕ) (s : List ℕ) (z : Zone) (q : List ℕ) → parse_zone pool s ≡ got z q → Sound pool z × (q ≡ [])
unfolding parse_zone after_id
zone-sound pool s z q e =
    let a = bind-good (parse_name pool s) (after_id pool) z q e in
    let b = bind-good (parse_byte a.rest) (after_flag pool a.first) z q a.on in
    let w = flag-whole pool a.first b.first b.rest z q b.on in
    (record { id-ok = rw w.id-is (name-ok pool _ _ _ a.is); body_ok = w.body_ok }, w.ends)

-- its ID stands first
pub zone-id : (pool : ℕ) (s : List ℕ) (z : Zone) (q : List ℕ) (i : ℕ) (r : List ℕ) → parse_name pool s ≡ got i r → parse_zone pool s ≡ got z q
    → z.id ≡ i
unfolding parse_zone after_id
zone-id pool s z q i r n e =
    let a = bind-good (parse_name pool s) (after_id pool) z q e in
    let b = bind-good (parse_byte a.rest) (after_flag pool a.first) z q a.on in
    let w = flag-whole pool a.first b.first b.rest z q b.on in
    let k : got a.first a.rest ≡ got i r = sym a.is ∙ n in
    let j : a.first ≡ i = cc in
    w.id-is ∙ j

pub zone-bad : (pool : ℕ) (s : List ℕ) (k : Refusal) → parse_name pool s ≡ bad k → parse_zone pool s ≡ bad k
unfolding parse_zone
zone-bad pool s k e = rw e
