use mathlib.Core.Path.{◌≡◌}
use lib.ListN.{length}
use mir.Facts.{to_z-of_z}
use Rattle.signed.specs.Instant.{instant_of}
use Rattle.answer_tables.specs.Table.{kept_row}
use Rattle.table_questions.proofs.RowLaws.{listed-outside, listed-row, listed-asked}
use Rattle.table_questions.proofs.ask_listed.Goals as goal
use Rattle.table_questions.proofs.ask_listed.Goals.{After-instant, After-kept_row}

asked : (c : goal.After-instant) → c.instant.result ≡ instant_of c.args.ticks
asked c = rw (to_z-of_z c.ranges.ticks) at c.instant.ensures

kept : (c : goal.After-kept_row) → c.kept_row.result ≡ kept_row (length c.args.file.now) c.args.rows.now c.args.ticks
kept c = rw (to_z-of_z c.ranges.ticks) at c.kept_row.ensures

pub returns-then-instant-eq0 : goal.returns-then-instant-eq0
returns-then-instant-eq0 c = listed-outside _ _ _ _ _ _ (asked (goal.at.returns-then-instant-eq0 c).After-instant) c.if-instant-eq0.true

pub returns-in-Some : goal.returns-in-Some
returns-in-Some c = listed-row _ _ _ _ _ _ (asked (goal.at.returns-in-Some c).After-instant) c.if-instant-eq0.false _ (kept (goal.at.returns-in-Some c).After-kept_row) _ c.in-Some.is

pub returns-in-None : goal.returns-in-None
returns-in-None c = listed-asked _ _ _ _ _ _ (asked (goal.at.returns-in-None c).After-instant) c.if-instant-eq0.false _ (kept (goal.at.returns-in-None c).After-kept_row) c.in-None.is _ (rw (to_z-of_z c.ranges.ticks) at c.ask_zone.ensures)
