-- Each way out of the zone's readers. Assumes nothing.
use Rattle.base.specs.declared.Refusal.{Refusal}
use Rattle.base.specs.declared.Refusal.TheVariants.{BadData, BadInterval, TooLarge}
use mathlib.Core.Path.{◌≡◌, refl, sym, ap, subst}
use mathlib.Core.Bool.{Bool, true, false}
use mathlib.Core.List.{List, []}
use Prim.Native.Nat.{ℕ, suc, ◌≤◌, ◌<◌}
use native.Mathlib.Omega.{arith}
use lib.ListN.{length, drop, drop_of_length-le}
use lib.Seq.{drop-cons}
use lib.Dec.{ltb}
use borrow.Author.Tests.{lt-ltb, le-ltb, eq-eqb, ne_eqb}
use Rattle.base.specs.Pick.{pick, both}
use Rattle.base.specs.Parsed.{Parsed, got, bad, bind, parse, parse_byte, ended, behind}
use Rattle.base.specs.Moment.{end_of_time}
use Rattle.counts.specs.Count.{read_count}
use Rattle.transitions.specs.Transition.{read_moment}
use Rattle.places.specs.Name.{parse_name}
use Rattle.places.specs.Placed.{at}
use Rattle.places.proofs.PlaceLaws.{ended_here, ended-over}
use Rattle.pieces.specs.Content.{parse_head, after_id as head_id, after_flag as head_flag, after_count as head_count}
use Rattle.intervals.specs.declared.Interval.{Interval}
use Rattle.intervals.specs.Interval.{start_of}
use Rattle.intervals.proofs.FormLaws.{name-count}
use Rattle.tails.specs.declared.NamedTail.{NamedTail}
use Rattle.zones.specs.Content.{untailed, tailed, FixedName, absent, present, Body, fixed, listed, Zone}
use Rattle.zones.specs.Parse.{zone_of, after_tail_byte, parse_tailed, after_end, after_intervals, parse_intervals, after_count, fixed_of, after_fixed_offset, parse_fixed, parse_listed, after_flag}
use Rattle.zones.specs.Lookup.{fixed_name_of}
use Rattle.zones.specs.View.{FrontTo, FrontOf, EndTo, EndOf}
use Rattle.zones.specs.declared.ZoneFront.{ZoneFront}
use Rattle.zones.specs.declared.ZoneFront.TheVariants.{Fixed as AllFixed, Listed as Several, Refused as FrontRefused}
use Rattle.zones.specs.declared.ZoneEnd.{ZoneEnd}
use Rattle.zones.specs.declared.ZoneEnd.TheVariants.{Untailed, Tailed as WithTail, Refused as EndRefused}

-- a zone that ends where its data ends
pub zone-here : (id : ℕ) (b : Body) (s : List ℕ) (e : ℕ) → length s ≤ e → zone_of id b (drop e s) ≡ got (record { id = id; body = b }) []
unfolding zone_of
zone-here id b s e h = ended_here _ s e h

pub zone-over : (id : ℕ) (b : Body) (s : List ℕ) (e : ℕ) → e < length s → zone_of id b (drop e s) ≡ bad BadData
unfolding zone_of
zone-over id b s e h = ended-over _ s e h

-- a fixed zone whose data end behind the offset has no name; else a name stands there
pub name-absent : (pool id offset : ℕ) (s : List ℕ) (e : ℕ) → e ≡ length s
    → after_fixed_offset pool id offset (drop e s) ≡ got (record { id = id; body = fixed offset absent }) []
unfolding after_fixed_offset zone_of ended
name-absent pool id offset s e h =
    let l : length s ≤ e = omega arith in
    rw (drop_of_length-le s l)

pub name-present : (pool id offset : ℕ) (s : List ℕ) (e : ℕ) → e ≤ length s → (e ≡ length s → ⊥)
    → after_fixed_offset pool id offset (drop e s) ≡ bind (parse_name pool (drop e s)) (fixed_of id offset)
unfolding after_fixed_offset
name-present pool id offset s e h n = rw (drop-cons s e 0 (omega (arith, n)))

-- the front
module _ (pool : ℕ) (s : List ℕ) (p : Parsed Zone) (h : Parsed ℕ) where
  pub front-bad : (k : Refusal) → p ≡ bad k → FrontOf pool s p h (FrontRefused k)
  front-bad k e = record { means = e }

  pub front-absent : (id offset : ℕ) → h ≡ got 0 [] → p ≡ got (record { id = id; body = fixed offset absent }) [] → FrontOf pool s p h (AllFixed id offset id)
  unfolding fixed_name_of
  front-absent id offset f e = record { means = ((absent, e, refl), f) }

  pub front-present : (id offset n : ℕ) → h ≡ got 0 [] → p ≡ got (record { id = id; body = fixed offset (present n) }) []
      → FrontOf pool s p h (AllFixed id offset n)
  unfolding fixed_name_of
  front-present id offset n f e = record { means = ((present n, e, refl), f) }

  pub front-listed : (id n a : ℕ) → h ≡ got (suc n) (drop a s) → p ≡ parse_intervals pool id n (drop a s) → a ≤ length s → (n ≡ 0 → ⊥) → n ≤ 4096
      → FrontOf pool s p h (Several id n a)
  front-listed id n a f e w z k = record { means = ((e, w, omega (arith, z), k), f) }

  pub front-on : (q : Parsed Zone) (g : Parsed ℕ) (r : ZoneFront) → p ≡ q → h ≡ g → FrontOf pool s q g r → FrontOf pool s p h r
  front-on q g r e f k = subst (λ (x : Parsed Zone). FrontOf pool s x h r) (sym e) (subst (λ (x : Parsed ℕ). FrontOf pool s q x r) (sym f) k)

  -- by what was given
  module _ (r : ZoneFront) (k : FrontOf pool s p h r) where
    front-is : (x : ZoneFront) → r ≡ x → FrontTo pool s p h x
    front-is x e = (subst (FrontOf pool s p h) e k).means

    pub refused-front : (n : Refusal) → r ≡ FrontRefused n → p ≡ bad n
    refused-front n e = front-is (FrontRefused n) e

    pub fixed-front : (id offset n : ℕ) → r ≡ AllFixed id offset n
        → (m : FixedName) × (p ≡ got (record { id = id; body = fixed offset m }) []) × (n ≡ fixed_name_of id m)
    fixed-front id offset n e = (front-is (AllFixed id offset n) e).0

    pub fixed-head : (id offset n : ℕ) → r ≡ AllFixed id offset n → h ≡ got 0 []
    fixed-head id offset n e = (front-is (AllFixed id offset n) e).1

    pub listed-front : (id n a : ℕ) → r ≡ Several id n a
        → (p ≡ parse_intervals pool id n (drop a s)) × (a ≤ length s) × (0 < n) × (n ≤ 4096)
    listed-front id n a e = (front-is (Several id n a) e).0

    pub listed-head : (id n a : ℕ) → r ≡ Several id n a → h ≡ got (suc n) (drop a s)
    listed-head id n a e = (front-is (Several id n a) e).1

-- how many transitions a zone has, behind its ID and its flag
module _ (pool : ℕ) (s : List ℕ) (id a flag e : ℕ) (n : parse_name pool s ≡ got id (drop a s)) (b : parse_byte (drop a s) ≡ got flag (drop e s)) where
  pub head_fixed : flag ≡ 1 → parse_head s ≡ got 0 []
  unfolding parse_head head_id head_flag
  head_fixed f = rw (name-count pool s id (drop a s) n, b, ne_eqb flag 2 (omega arith))

  pub head-listed : flag ≡ 2 → parse_head s ≡ bind (parse read_count (drop e s)) head_count
  unfolding parse_head head_id head_flag
  head-listed f = rw (name-count pool s id (drop a s) n, b, eq-eqb flag 2 f)

-- what stands behind the intervals
module _ (f : ℕ → List Interval → Parsed Zone) (last : ℕ) where
  abbrev Behind : List Interval → Type 0
  Behind is = last ≡ behind start_of end_of_time is

  pub end-bad : (k : Refusal) → ((id : ℕ) (is : List Interval) → Behind is → f id is ≡ bad k) → EndOf f last (EndRefused k)
  end-bad k h = record { means = h }

  pub end-untailed : (end : ℕ) → end ≡ end_of_time
      → ((id : ℕ) (is : List Interval) → Behind is → f id is ≡ got (record { id = id; body = listed is end untailed }) []) → EndOf f last Untailed
  end-untailed end e h = record { means = λ id is b. rw e at (h id is b) }

  pub end-tailed : (end : ℕ) (n : NamedTail)
      → ((id : ℕ) (is : List Interval) → Behind is → f id is ≡ got (record { id = id; body = listed is end (tailed n) }) []) → EndOf f last (WithTail n)
  end-tailed end n h = record { means = λ id is b. (end, h id is b) }

  pub end_on : (g : ℕ → List Interval → Parsed Zone) (r : ZoneEnd) → ((id : ℕ) (is : List Interval) → Behind is → f id is ≡ g id is)
      → EndOf g last r → EndOf f last r
  end_on g r h k = record { means = λ id is b. subst (λ (p : Parsed Zone). EndTo id is p r) (sym (h id is b)) (k.means id is b) }

pub end_is : {f : ℕ → List Interval → Parsed Zone} {last : ℕ} {r x : ZoneEnd} → EndOf f last r → r ≡ x → EndOf f last x
end_is {f} {last} h e = subst (EndOf f last) e h

-- the tail byte, then the end transition
module _ (pool id : ℕ) (is : List Interval) (end b : ℕ) (s : List ℕ) where
  pub none_kept : b ≡ 0 → end ≡ end_of_time → after_tail_byte pool id is end b s ≡ zone_of id (listed is end untailed) s
  unfolding after_tail_byte
  none_kept e f = rw (eq-eqb b 0 e, eq-eqb end end_of_time f)

  pub none-refused : b ≡ 0 → (end ≡ end_of_time → ⊥) → after_tail_byte pool id is end b s ≡ bad BadInterval
  unfolding after_tail_byte
  none-refused e f = rw (eq-eqb b 0 e, ne_eqb end end_of_time f)

  pub tail-kept : (last : ℕ) → last ≡ behind start_of end_of_time is → b ≡ 1 → last < end → end < end_of_time
      → after_tail_byte pool id is end b s ≡ parse_tailed pool id is end s
  unfolding after_tail_byte
  tail-kept last l e f g = rw (ne_eqb b 0 (omega arith), eq-eqb b 1 e, ← l, lt-ltb last end f, lt-ltb end end_of_time g)

  pub tail-early : (last : ℕ) → last ≡ behind start_of end_of_time is → b ≡ 1 → end ≤ last → after_tail_byte pool id is end b s ≡ bad BadInterval
  unfolding after_tail_byte
  tail-early last l e f = rw (ne_eqb b 0 (omega arith), eq-eqb b 1 e, ← l, le-ltb last end f)

  pub tail-endless : b ≡ 1 → end_of_time ≤ end → after_tail_byte pool id is end b s ≡ bad BadInterval
  unfolding after_tail_byte
  tail-endless e f = rw (ne_eqb b 0 (omega arith), eq-eqb b 1 e, le-ltb end end_of_time f) (go (ltb (behind start_of end_of_time is) end))
    where
      go : (t : Bool) → pick (both t false) (parse_tailed pool id is end s) (bad BadInterval) ≡ bad BadInterval
      go true = refl
      go false = refl

  pub tail-unknown : (b ≡ 0 → ⊥) → (b ≡ 1 → ⊥) → after_tail_byte pool id is end b s ≡ bad BadData
  unfolding after_tail_byte
  tail-unknown e f = rw (ne_eqb b 0 e, ne_eqb b 1 f)

-- the end transition is read behind the last start
pub after_last : (pool id : ℕ) (is : List Interval) (m : ℕ) (s : List ℕ) → m ≡ behind start_of end_of_time is
    → after_intervals pool id is s ≡ bind (parse (read_moment m) s) (after_end pool id is)
unfolding after_intervals
after_last pool id is m s e = ap (λ (x : ℕ). bind (parse (read_moment x) s) (after_end pool id is)) (sym e)

-- the interval count
module _ (pool id n : ℕ) (s : List ℕ) where
  pub count-zero : n ≡ 0 → after_count pool id n s ≡ bad BadInterval
  unfolding after_count
  count-zero e = rw (eq-eqb n 0 e)

  pub count_past : 4096 < n → after_count pool id n s ≡ bad TooLarge
  unfolding after_count
  count_past h = rw (ne_eqb n 0 (omega arith), lt-ltb 4096 n h)

  pub count-some : (n ≡ 0 → ⊥) → n ≤ 4096
      → after_count pool id n s ≡ parse_intervals pool id n s
  unfolding after_count
  count-some e h = rw (ne_eqb n 0 e, le-ltb 4096 n h)

-- the zone's flag
module _ (pool id flag : ℕ) (s : List ℕ) where
  pub flag-fixed : flag ≡ 1 → after_flag pool id flag s ≡ parse_fixed pool id s
  unfolding after_flag
  flag-fixed e = rw (eq-eqb flag 1 e)

  pub flag-listed : (flag ≡ 1 → ⊥) → flag ≡ 2 → after_flag pool id flag s ≡ parse_listed pool id s
  unfolding after_flag
  flag-listed e f = rw (ne_eqb flag 1 e, eq-eqb flag 2 f)

  pub flag-unknown : (flag ≡ 1 → ⊥) → (flag ≡ 2 → ⊥) → after_flag pool id flag s ≡ bad BadData
  unfolding after_flag
  flag-unknown e f = rw (ne_eqb flag 1 e, ne_eqb flag 2 f)
