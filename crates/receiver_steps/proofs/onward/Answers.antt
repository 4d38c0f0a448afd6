use native.Mathlib.Omega.{arith}
use Rattle.receivers.proofs.PieceLaws.{extent-past}
use Rattle.receiver_steps.proofs.onward.Goals as goal

pub returns-then-s-from : goal.returns-then-s-from
returns-then-s-from c = extent-past c.args.s.now c.args.from (omega arith)
