use native.Mathlib.Omega.{arith}
use Rattle.transitions.proofs.MomentLaws.{hours-early, hours-late, hours-from}
use Rattle.transition_readers.proofs.hours_after.Goals as goal

pub returns-then-previous-lt-FIRST : goal.returns-then-previous-lt-FIRST
returns-then-previous-lt-FIRST c = hours-early c.args.previous _ _ (omega arith)

pub returns-then-previous-gt-LAST : goal.returns-then-previous-gt-LAST
returns-then-previous-gt-LAST c = hours-late c.args.previous _ _ (omega arith)

pub returns : goal.returns
returns c = hours-from c.args.previous _ _ _ (record { low = omega arith; high = omega arith }) c.in_range.ensures
