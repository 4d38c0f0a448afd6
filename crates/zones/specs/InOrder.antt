-- A zone in the paper's order, four definitions: what a reader is to believe of `parse_zone` (Parse.antt), which is the same by `zone-stages`
-- (proofs/InOrderLaws.antt). Each thing that is read is judged at once, the end only after the tail byte.
use Rattle.base.specs.declared.Refusal.TheVariants.{BadData, BadInterval, TooLarge}
use Rattle.std.specs.Prelude.{ℕ, List, [], ◌∷◌, ltb, eqb}
use Rattle.base.specs.Pick.{pick, both}
use Rattle.base.specs.Parsed.{Parsed, bad, bind, parse, parse_byte, ended, many, behind}
use Rattle.base.specs.Moment.{end_of_time}
use Rattle.counts.specs.Count.{read_count}
use Rattle.offsets.specs.Offset.{read_sum}
use Rattle.transitions.specs.Transition.{read_moment}
use Rattle.places.specs.Name.{parse_name}
use Rattle.intervals.specs.Interval.{start_of}
use Rattle.intervals.specs.InOrder.{interval_in_order}
use Rattle.tails.specs.InOrder.{tail_in_order}
use Rattle.zones.specs.Content.{untailed, tailed, absent, present, fixed, listed, Zone}

-- "A fixed zone ending right after its offset is well formed": by the data's size; one byte or more behind the offset is a name
unfoldable pub name_in_order : ℕ → ℕ → ℕ → List ℕ → Parsed Zone
name_in_order pool id offset [] = ended (record { id = id; body = fixed offset absent }) []
name_in_order pool id offset (b ∷ r) =
    bind (parse_name pool (b ∷ r)) (λ name r. ended (record { id = id; body = fixed offset (present name) }) r)

-- "Flag 1, fixed: offset, then name"
unfoldable pub fixed_in_order : ℕ → ℕ → List ℕ → Parsed Zone
fixed_in_order pool id s = bind (parse read_sum s) (name_in_order pool id)

-- "Flag 2: interval count, at least 1; for each ..; then the end transition; tail byte 0 or 1; the tail if 1"
unfoldable pub listed_in_order : ℕ → ℕ → List ℕ → Parsed Zone
listed_in_order pool id s =
    bind (parse read_count s) (λ n r.
    pick (eqb n 0) (bad BadInterval) (pick (ltb 4096 n) (bad TooLarge) (
    bind (many (interval_in_order pool) start_of n end_of_time r) (λ is r.
    bind (parse (read_moment (behind start_of end_of_time is)) r) (λ end r.
    bind (parse_byte r) (λ b r.
    pick (eqb b 0) (pick (eqb end end_of_time) (ended (record { id = id; body = listed is end untailed }) r) (bad BadInterval))
    (pick (eqb b 1)
    (pick (both (ltb (behind start_of end_of_time is) end) (ltb end end_of_time))
    (bind (tail_in_order pool end r) (λ t r. ended (record { id = id; body = listed is end (tailed t) }) r)) (bad BadInterval))
    (bad BadData))))))))

-- "A zone is ID, flag, rest"
unfoldable pub zone_in_order : ℕ → List ℕ → Parsed Zone
zone_in_order pool s =
    bind (parse_name pool s) (λ id r.
    bind (parse_byte r) (λ flag r.
    pick (eqb flag 1) (fixed_in_order pool id r) (pick (eqb flag 2) (listed_in_order pool id r) (bad BadData))))
