-- What a question says. To be believed.
use Rattle.base.specs.declared.Refusal.{Refusal}
use Rattle.base.specs.declared.Refusal.TheVariants.{CutShort, NotFound, NotYet}
use Rattle.base.specs.Coded.{Fault}
use Rattle.std.specs.Prelude.{ℕ, ◌+◌, List, [], length, Err, Ok, Result}
use Rattle.base.specs.Numbers.{number_given, place_given}
use Rattle.signed.specs.Instant.{ticks_of}
use Rattle.signed.specs.OffsetSum.{milliseconds_of}
use Rattle.pool.specs.Index.{span_of}
use Rattle.intervals.specs.Interval.{standard_sum}
use Rattle.strings.specs.Holder.{text_of}
use Rattle.strings.specs.declared.Holder.TheVariants.{InPool}
use Rattle.zones.specs.declared.Found.{Found as Interval}
use Rattle.answers.specs.declared.Mark.{Mark}
use Rattle.answers.specs.declared.Mark.TheVariants.{More, All}
use Rattle.answers.specs.declared.Found.{Found}
use Rattle.answers.specs.Numbers.{given_by_answer}
use Rattle.answers.specs.declared.Outcome.{Outcome}
use Rattle.answers.specs.declared.Outcome.TheVariants.{Answered, Refused as Stopped, Cut, End}

-- The table's number of an answer, and the place of a refusal
abbrev pub number_of : Result Found Fault → ℕ
number_of a = number_given (given_by_answer a)

abbrev pub place_of : Result Found Fault → ℕ
place_of a = place_given (given_by_answer a)

-- what a question remembers: where the data of field 0 starts in the file, and that data; none before field 0
pub record Pool : Type 0 where
  pub start : ℕ
  pub body : List ℕ

abbrev pub no_pool : Pool
no_pool = record { start = 0; body = [] }

-- "An answer carries wall offset, savings, the name as a part of the lent bytes, and the interval's start and end."; "The answer record gains
-- the standard offset, wall minus savings". The name is so many bytes at a place.
abbrev pub answer_by : ℕ → ℕ → Interval → Found
answer_by name size x =
    record {
      wall = milliseconds_of x.wall;
      savings = milliseconds_of x.savings;
      standard = milliseconds_of (standard_sum x.wall x.savings);
      name = name;
      length = size;
      start = ticks_of x.start;
      end = ticks_of x.end;
    }

abbrev pub answered : Pool → Interval → Found
answered p x = answer_by (p.start + (span_of p.body x.name).at) (span_of p.body x.name).len x

-- The mark is used here and nowhere else: 1 where more may come, and else 2 in the version or in a field and 12 at the end of one.
abbrev pub waiting : Mark → Refusal → Refusal
waiting More k = NotYet
waiting All k = k

-- the bytes of an answer's name; none where the place is not in the bytes, which no answer to them has
abbrev pub name_of : List ℕ → Found → List ℕ
name_of bs x = text_of bs bs (InPool x.name x.length)

abbrev pub pool_of : ℕ → List ℕ → Pool
pool_of start d = record { start = start; body = d }

-- what the mark makes of an outcome
abbrev pub answer_of : Mark → Outcome → Result Found Fault
answer_of mark (Answered x) = Ok x
answer_of mark (Stopped n p) = Err (n, p)
answer_of mark (Cut p) = Err (waiting mark CutShort, p)
answer_of mark (End p) = Err (waiting mark NotFound, p)
