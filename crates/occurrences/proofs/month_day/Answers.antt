use native.Mathlib.Omega.{arith}
use Rattle.calendar.proofs.Months.{month-le, month-ge}
use Rattle.occurrences.specs.Rules.{month_day}
use Rattle.occurrences.proofs.RuleLaws.{short}
use borrow.Author.Rules.{rules}
use Rattle.occurrences.proofs.month_day.Goals as goal

pub overflow_add-result : goal.overflow_add-result
overflow_add-result c = omega (arith, month-le c.args.k c.args.r.month (search rules))

pub overflow_sub-result : goal.overflow_sub-result
overflow_sub-result c = omega (arith, month-ge c.args.k c.args.r.month, short c.args.r c.requires.1 c.if-r.true)

pub returns-then-r : goal.returns-then-r
unfolding month_day
returns-then-r c = simp c.if-r.true (omega arith)

pub returns-else-r : goal.returns-else-r
unfolding month_day
returns-else-r c = simp c.if-r.false (omega arith)
