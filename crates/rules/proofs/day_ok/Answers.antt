use native.Mathlib.Omega.{arith}
use borrow.Author.Tests.{le-leb, lt-leb}
use Rattle.rules.specs.Fields.{day_ok}
use Rattle.rules.proofs.FieldLaws.{month-range}
use Rattle.rules.proofs.day_ok.Goals as goal

pub returns-then-day-lt1 : goal.returns-then-day-lt1
unfolding day_ok
returns-then-day-lt1 c = simp (lt-leb _ _ c.if-day-lt1.true)

pub most_day-requires : goal.most_day-requires
most_day-requires c = omega (arith, month-range c.args.month c.requires)

pub returns : goal.returns
unfolding day_ok
returns c = simp (le-leb _ _ c.if-day-lt1.false, c.most_day.ensures)
