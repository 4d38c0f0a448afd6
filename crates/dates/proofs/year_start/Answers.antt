use Rattle.calendar.specs.Calendar.{year_start}
use borrow.Author.Rules.{rules}
use Rattle.dates.proofs.year_start.Goals as goal

pub returns : goal.returns
unfolding year_start
returns c = search rules
