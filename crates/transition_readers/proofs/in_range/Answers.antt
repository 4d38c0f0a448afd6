use native.Mathlib.Omega.{arith}
use Rattle.transitions.proofs.MomentLaws.{range-in, range-out}
use Rattle.transition_readers.proofs.in_range.Goals as goal

pub returns-then-t-le-LAST : goal.returns-then-t-le-LAST
returns-then-t-le-LAST c = range-in _ c.args.t (record { low = omega arith; high = omega arith })

pub returns : goal.returns
returns c = range-out _ c.args.t (omega arith)
