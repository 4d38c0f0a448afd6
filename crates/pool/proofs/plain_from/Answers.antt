use native.Mathlib.Omega.{arith}
use Rattle.base.proofs.Parts.{part-from}
use Rattle.pool.proofs.FillLaws.{plain-front}
use Rattle.pool.proofs.plain_from.Goals as goal

-- what was looked at again
pub returns-then-d-at-lt128-2 : goal.returns-then-d-at-lt128-2
returns-then-d-at-lt128-2 c = plain-front _ _ _ c.requires.0 (rw (part-from c.args.at c.args.d.now) at c.ascii_front.ensures)

pub overflow_add-result : goal.overflow_add-result
overflow_add-result c = omega (arith, (returns-then-d-at-lt128-2 c).0, c.well_formed.0.0)
