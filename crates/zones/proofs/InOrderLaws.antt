-- The stages of a zone are what the paper says in its order. Assumes nothing.
use Rattle.base.specs.declared.Refusal.TheVariants.{BadData}
use mathlib.Core.Path.{◌≡◌, refl}
use Prim.Native.Nat.{ℕ}
use mathlib.Core.List.{List, [], ◌∷◌}
use lib.Dec.{eqb}
use Rattle.base.specs.Pick.{pick}
use Rattle.base.specs.Parsed.{Parsed, got, bad, bind, parse, parse_byte}
use Rattle.offsets.specs.Offset.{read_sum}
use Rattle.places.specs.Name.{parse_name}
use Rattle.intervals.specs.Interval.{judge_standard, after_wall, after_name, parse_details, after_start, parse_interval}
use Rattle.intervals.specs.InOrder.{interval_in_order}
use Rattle.tails.specs.Tail.{after_time, parse_time, after_day, parse_day, after_month, parse_month, after_byte, parse_rule, after_standard_name, after_offset, parse_standard, after_savings, parse_savings, after_daylight_name, parse_daylight, parse_tail}
use Rattle.tails.specs.InOrder.{rule_in_order, tail_in_order}
use Rattle.zones.specs.Parse.{zone_of, after_tail, parse_tailed, after_tail_byte, after_end, after_intervals, after_count, parse_listed, after_fixed_offset, parse_fixed, after_flag, after_id, parse_zone}
use Rattle.zones.specs.InOrder.{name_in_order, fixed_in_order, listed_in_order, zone_in_order}

name-stages : (pool id offset : ℕ) (s : List ℕ) → name_in_order pool id offset s ≡ after_fixed_offset pool id offset s
unfolding name_in_order after_fixed_offset zone_of
name-stages pool id offset [] = refl
name-stages pool id offset (b ∷ s) = refl

fixed-stages : (pool id : ℕ) (s : List ℕ) → fixed_in_order pool id s ≡ parse_fixed pool id s
unfolding fixed_in_order parse_fixed
fixed-stages pool id s = go (parse read_sum s)
  where
    go : (p : Parsed ℕ) → bind p (name_in_order pool id) ≡ bind p (after_fixed_offset pool id)
    go (got offset r) = name-stages pool id offset r
    go (bad n) = refl

listed-stages : (pool id : ℕ) (s : List ℕ) → listed_in_order pool id s ≡ parse_listed pool id s
unfolding listed_in_order zone_of after_tail parse_tailed after_tail_byte after_end after_intervals after_count parse_listed interval_in_order judge_standard after_wall after_name parse_details after_start parse_interval tail_in_order rule_in_order after_time parse_time after_day parse_day after_month parse_month after_byte parse_rule after_standard_name after_offset parse_standard after_savings parse_savings after_daylight_name parse_daylight parse_tail
listed-stages pool id s = refl

flag-stages : (pool id flag : ℕ) (s : List ℕ)
    → pick (eqb flag 1) (fixed_in_order pool id s) (pick (eqb flag 2) (listed_in_order pool id s) (bad BadData)) ≡ after_flag pool id flag s
unfolding after_flag
flag-stages pool id flag s = rw (fixed-stages pool id s, listed-stages pool id s) refl

pub zone-stages : (pool : ℕ) (s : List ℕ) → zone_in_order pool s ≡ parse_zone pool s
unfolding zone_in_order parse_zone after_id
zone-stages pool s = go (parse_name pool s)
  where
    after : (id : ℕ) (p : Parsed ℕ)
        → bind p (λ flag r. pick (eqb flag 1) (fixed_in_order pool id r) (pick (eqb flag 2) (listed_in_order pool id r) (bad BadData)))
        ≡ bind p (after_flag pool id)
    after id (got flag r) = flag-stages pool id flag r
    after id (bad n) = refl

    go : (p : Parsed ℕ)
        → bind p (λ id r. bind (parse_byte r) (λ flag r. pick (eqb flag 1) (fixed_in_order pool id r) (pick (eqb flag 2) (listed_in_order pool id r) (bad BadData))))
        ≡ bind p (after_id pool)
    go (got id r) = after id (parse_byte r)
    go (bad n) = refl
