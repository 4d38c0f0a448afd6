use native.Mathlib.Omega.{arith}
use Rattle.base.proofs.MomentLaws.{finite-yes, finite-low, finite-high}
use Rattle.transition_writers.proofs.hours_to.Goals as goal

pub returns-then-previous-lt-FIRST : goal.returns-then-previous-lt-FIRST
returns-then-previous-lt-FIRST c = rw (finite-low c.args.previous (omega arith))

pub returns-then-previous-gt-LAST : goal.returns-then-previous-gt-LAST
returns-then-previous-gt-LAST c = rw (finite-high c.args.previous (omega arith))

pub returns : goal.returns
returns c = rw (finite-yes c.args.previous (record { low = omega arith; high = omega arith })) c.units_to.ensures
