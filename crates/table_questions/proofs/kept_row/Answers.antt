use mir.Facts.{to_z-of_z}
use Rattle.table_questions.proofs.RowLaws.{kept-none}
use Rattle.table_questions.proofs.kept_row.Goals as goal

pub returns-then-count-eq0 : goal.returns-then-count-eq0
returns-then-count-eq0 c = kept-none _ _ _ c.if-count-eq0.true

pub returns : goal.returns
returns c = rw (to_z-of_z c.ranges.ticks) at c.row_at.ensures
