-- The data of field 1, read left to right: its content, or the first fault. Each thing that is read is a stage of its
-- own, last stage first; "a value's code (7) comes before its use (4, 8 to 11), and each use is judged at once".
-- The code's way, tied to InOrder.antt by `zone-stages` (proofs/InOrderLaws.antt).
use Rattle.base.specs.declared.Refusal.TheVariants.{BadData, BadInterval, TooLarge}
use Rattle.std.specs.Prelude.{ℕ, List, [], ◌∷◌, ltb, eqb}
use Rattle.base.specs.Pick.{pick, both}
use Rattle.base.specs.Parsed.{Parsed, bad, bind, parse, parse_byte, ended, many, behind}
use Rattle.base.specs.Moment.{end_of_time}
use Rattle.counts.specs.Count.{read_count}
use Rattle.offsets.specs.Offset.{read_sum}
use Rattle.transitions.specs.Transition.{read_moment}
use Rattle.places.specs.Name.{parse_name}
use Rattle.intervals.specs.Interval.{start_of, parse_interval}
use Rattle.intervals.specs.declared.Interval.{Interval}
use Rattle.tails.specs.Tail.{parse_tail}
use Rattle.tails.specs.declared.NamedTail.{NamedTail}
use Rattle.zones.specs.Content.{untailed, tailed, absent, present, Body, fixed, listed, Zone}

-- A zone of either kind.
unfoldable pub zone_of : ℕ → Body → List ℕ → Parsed Zone
zone_of id b s = ended (record { id = id; body = b }) s

unfoldable pub after_tail : ℕ → List Interval → ℕ → NamedTail → List ℕ → Parsed Zone
after_tail id is end t s = zone_of id (listed is end (tailed t)) s

unfoldable pub parse_tailed : ℕ → ℕ → List Interval → ℕ → List ℕ → Parsed Zone
parse_tailed pool id is end s = bind (parse_tail pool end s) (after_tail id is end)

-- "Without a tail the end is end of time; with one it is finite and after the last start"; the end is judged
-- "only after the tail byte is read and is 0 or 1"; another tail byte is BadData
unfoldable pub after_tail_byte : ℕ → ℕ → List Interval → ℕ → ℕ → List ℕ → Parsed Zone
after_tail_byte pool id is end b s =
    pick (eqb b 0) (pick (eqb end end_of_time) (zone_of id (listed is end untailed) s) (bad BadInterval))
    (pick (eqb b 1)
    (pick (both (ltb (behind start_of end_of_time is) end) (ltb end end_of_time)) (parse_tailed pool id is end s) (bad BadInterval))
    (bad BadData))

unfoldable pub after_end : ℕ → ℕ → List Interval → ℕ → List ℕ → Parsed Zone
after_end pool id is end s = bind (parse_byte s) (after_tail_byte pool id is end)

unfoldable pub after_intervals : ℕ → ℕ → List Interval → List ℕ → Parsed Zone
after_intervals pool id is s = bind (parse (read_moment (behind start_of end_of_time is)) s) (after_end pool id is)

abbrev pub parse_intervals : ℕ → ℕ → ℕ → List ℕ → Parsed Zone
parse_intervals pool id n s = bind (many (parse_interval pool) start_of n end_of_time s) (after_intervals pool id)

-- "4,096 intervals a zone", "interval count 0" is BadInterval
unfoldable pub after_count : ℕ → ℕ → ℕ → List ℕ → Parsed Zone
after_count pool id n s = pick (eqb n 0) (bad BadInterval) (pick (ltb 4096 n) (bad TooLarge) (parse_intervals pool id n s))

unfoldable pub parse_listed : ℕ → ℕ → List ℕ → Parsed Zone
parse_listed pool id s = bind (parse read_count s) (after_count pool id)

abbrev pub fixed_of : ℕ → ℕ → ℕ → List ℕ → Parsed Zone
fixed_of id offset n s = zone_of id (fixed offset (present n)) s

-- "A fixed zone ending right after its offset is well formed": its data end there by their size; one byte or more there is a name,
-- with a name's faults
unfoldable pub after_fixed_offset : ℕ → ℕ → ℕ → List ℕ → Parsed Zone
after_fixed_offset pool id offset [] = zone_of id (fixed offset absent) []
after_fixed_offset pool id offset (b ∷ s) = bind (parse_name pool (b ∷ s)) (fixed_of id offset)

unfoldable pub parse_fixed : ℕ → ℕ → List ℕ → Parsed Zone
parse_fixed pool id s = bind (parse read_sum s) (after_fixed_offset pool id)

-- "unknown zone .. flag" is BadData
unfoldable pub after_flag : ℕ → ℕ → ℕ → List ℕ → Parsed Zone
after_flag pool id flag s =
    pick (eqb flag 1) (parse_fixed pool id s) (pick (eqb flag 2) (parse_listed pool id s) (bad BadData))

unfoldable pub after_id : ℕ → ℕ → List ℕ → Parsed Zone
after_id pool id s = bind (parse_byte s) (after_flag pool id)

-- pool is the pool's count
unfoldable pub parse_zone : ℕ → List ℕ → Parsed Zone
parse_zone pool s = bind (parse_name pool s) (after_id pool)
