use native.Mathlib.Omega.{arith}
use Rattle.signed.proofs.IntegerLaws.{even, odd, odd-fits}
use Rattle.signed.proofs.unzigzag.Goals as goal

pub overflow_sub-result : goal.overflow_sub-result
overflow_sub-result c = odd-fits c.args.u (omega arith)

pub returns-then-u-eq0 : goal.returns-then-u-eq0
returns-then-u-eq0 c = even _ (omega arith) c.if-u-eq0.true

pub returns-else-u-eq0 : goal.returns-else-u-eq0
returns-else-u-eq0 c = odd _ (omega arith) c.if-u-eq0.false
