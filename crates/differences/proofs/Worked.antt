-- Files worked through: their differences are computed from the definition. Assumes nothing.
use Rattle.base.specs.declared.Refusal.TheVariants.{NotFound, OutOfRange, TooShort}
use Rattle.base.specs.Coded.{Fault}
use Rattle.std.specs.Prelude.{Err, Ok, Result}
use mathlib.Core.Path.{◌≡◌, refl}
use mathlib.Core.List.{List, [], ◌∷◌, map}
use Prim.Native.Nat.{ℕ, ◌+◌}
use lib.IntN.{ℤ, pos, negsuc}
use Rattle.base.specs.Run.{iterate}
use Rattle.base.specs.Parsed.{parse_byte, ended, many, behind}
use Rattle.base.specs.Equal.{equal}
use Rattle.base.specs.Moment.{epoch}
use Rattle.signed.specs.Instant.{biased_of}
use Rattle.counts.specs.Groups.{any_groups, read_groups}
use Rattle.counts.specs.Fixed.{fixed_from}
use Rattle.offsets.specs.Offset.{read_sum}
use Rattle.transitions.specs.Transition.{from_count, read_moment}
use Rattle.utf8.specs.Utf8.{chars}
use Rattle.texts.specs.Text.{text_sized}
use Rattle.pool.specs.Pool.{all_strings, counted}
use Rattle.pool.specs.Index.{read_starts, starts_in}
use Rattle.places.specs.Name.{judge_name, parse_name}
use Rattle.intervals.specs.Interval.{judge_standard, after_wall, after_name, parse_details, after_start, parse_interval}
use Rattle.zones.specs.Parse.{zone_of, after_tail_byte, after_end, after_intervals, after_count, parse_listed}
use Rattle.zones.specs.Parse.{after_fixed_offset, parse_fixed, after_flag, after_id, parse_zone}
use Rattle.zones.specs.Editions.{under}
use Rattle.zones.specs.Lookup.{holding, in_list, behind_list, fixed_name_of, in_body}
use Rattle.frames.specs.Frame.{order, zeros, version, sized, field, frame}
use Rattle.frames.specs.Machine.{act, step, walk}
use Rattle.locate.specs.Asked.{says}
use Rattle.questions.specs.Question.{ask}
use Rattle.stretches.specs.Stretches.{opened, closed, stretches_from, stretches}
use Rattle.differences.specs.Difference.{differ, differences, listed, difference}

-- the version and the pool A, B, C, before zones
abbrev before : List ℕ → List ℕ
before zones = 0 ∷ 0 ∷ 0 ∷ 0 ∷ 0 ∷ 7 ∷ 3 ∷ 1 ∷ 65 ∷ 1 ∷ 66 ∷ 1 ∷ 67 ∷ zones

-- the zone A, fixed, with no offset, and its name A
abbrev plain : List ℕ
plain = before (1 ∷ 4 ∷ 0 ∷ 1 ∷ 0x30 ∷ 0 ∷ [])

-- the zone A in intervals: to tick 10 it has another offset, to tick 20 another name
abbrev changed : List ℕ
changed =
    before
    (1 ∷ 0x21 ∷ 0 ∷ 2 ∷ 3 ∷ 0 ∷ 0 ∷ 0x32 ∷ 0x30
    ∷ 2 ∷ 0 ∷ 0 ∷ 0 ∷ 0 ∷ 0 ∷ 0 ∷ 0 ∷ 10 ∷ 1 ∷ 0x30 ∷ 0x30
    ∷ 2 ∷ 0 ∷ 0 ∷ 0 ∷ 0 ∷ 0 ∷ 0 ∷ 0 ∷ 20 ∷ 0 ∷ 0x30 ∷ 0x30 ∷ 1 ∷ 0 ∷ [])

-- as `plain`, in one interval
abbrev listed-once : List ℕ
listed-once = before (1 ∷ 9 ∷ 0 ∷ 2 ∷ 1 ∷ 0 ∷ 0 ∷ 0x30 ∷ 0x30 ∷ 1 ∷ 0 ∷ [])

-- as `plain`, without the name
abbrev nameless : List ℕ
nameless = before (1 ∷ 3 ∷ 0 ∷ 1 ∷ 0x30 ∷ [])

-- as `plain`, with the pool B, A, C
abbrev other-pool : List ℕ
other-pool = 0 ∷ 0 ∷ 0 ∷ 0 ∷ 0 ∷ 7 ∷ 3 ∷ 1 ∷ 66 ∷ 1 ∷ 65 ∷ 1 ∷ 67 ∷ 1 ∷ 4 ∷ 1 ∷ 1 ∷ 0x30 ∷ 1 ∷ []

-- an hour ahead, and a damaged field behind the zone
abbrev damaged : List ℕ
damaged = before (1 ∷ 4 ∷ 0 ∷ 1 ∷ 0x32 ∷ 0 ∷ 0 ∷ [])

pub record Case : Type 0 where
  pub left : List ℕ
  pub right : List ℕ
  pub id : ℕ
  pub first : ℤ
  pub last : ℤ
  pub room : ℕ
  pub answer : Result ℕ Fault

abbrev case : List ℕ → List ℕ → ℕ → ℤ → ℤ → ℕ → Result ℕ Fault → Case
case f g id first last room answer = record { left = f; right = g; id = id; first = first; last = last; room = room; answer = answer }

abbrev cases : List Case
cases =
    -- one stretch from 0 to 20, though what differs changes at 10; and no room for it
    case plain changed 65 (pos 0) (pos 30) 1 (Ok 1)
    ∷ case changed plain 65 (pos 0) (pos 30) 0 (Err (TooShort, 0))
    -- the end of a window is out of it: from 20 on nothing differs
    ∷ case plain changed 65 (pos 19) (pos 20) 1 (Ok 1)
    ∷ case plain changed 65 (pos 20) (pos 30) 0 (Ok 0)
    -- out of range, before all else: the last tick of 9999 is in no window
    ∷ case [] [] 65 (pos 2534023007999999999) (pos 2534023008000000000) 1 (Err (OutOfRange, 0))
    ∷ case [] [] 65 (negsuc 621355968000000000) (pos 0) 1 (Err (OutOfRange, 0))
    -- a window that is turned round holds no instant, and the files are asked
    ∷ case plain changed 65 (pos 6) (pos 5) 0 (Ok 0)
    ∷ case plain changed 67 (pos 6) (pos 5) 0 (Err (NotFound, 19))
    -- a zone that neither file has; one that the second has not
    ∷ case (before []) (before []) 65 (pos 0) (pos 1) 0 (Err (NotFound, 13))
    ∷ case plain (before []) 65 (pos 0) (pos 1) 0 (Err (NotFound, 13))
    -- bounds of intervals are not compared, nor pool numbers; a zone without a name has its ID
    ∷ case plain listed-once 65 (pos 0) (pos 2) 0 (Ok 0)
    ∷ case plain nameless 65 (pos 0) (pos 2) 0 (Ok 0)
    ∷ case plain other-pool 65 (pos 0) (pos 2) 0 (Ok 0)
    -- what stands behind the zone isn't looked at
    ∷ case plain damaged 65 (pos 0) (pos 1) 1 (Ok 1)
    ∷ []

abbrev given : Case → Result ℕ Fault
given c = difference c.left c.right (c.id ∷ []) c.first c.last c.room

-- EACH CASE GIVES ITS ANSWER
pub worked : map given cases ≡ map (λ (c : Case). c.answer) cases
unfolding difference listed differ stretches stretches_from opened closed ask says biased_of walk iterate step act frame version zeros field order sized any_groups read_groups many counted all_strings ended chars text_sized equal read_starts starts_in parse_zone after_id after_flag parse_fixed after_fixed_offset zone_of parse_byte parse_name judge_name read_sum parse_listed after_count after_intervals after_end after_tail_byte behind read_moment from_count fixed_from parse_interval after_start parse_details after_name after_wall judge_standard under holding in_list behind_list fixed_name_of in_body
worked = refl

-- the stretch of the first case
pub one-stretch : differences plain changed (65 ∷ []) (pos 0) (pos 30) ≡ record { first = epoch; end = epoch + 20 } ∷ []
unfolding differ stretches stretches_from opened closed ask says biased_of walk iterate step act frame version zeros field order sized any_groups read_groups many counted all_strings ended chars text_sized equal read_starts starts_in parse_zone after_id after_flag parse_fixed after_fixed_offset zone_of parse_byte parse_name judge_name read_sum parse_listed after_count after_intervals after_end after_tail_byte behind read_moment from_count fixed_from parse_interval after_start parse_details after_name after_wall judge_standard under holding in_list behind_list fixed_name_of in_body
one-stretch = refl
