use native.Mathlib.Omega.{arith}
use Rattle.traces.proofs.TraceLaws.{within-yes, within-no}
use Rattle.traces.proofs.within.Goals as goal

pub returns-then-len-start : goal.returns-then-len-start
returns-then-len-start c = within-no _ _ _ (omega arith)

pub returns-then-len-start-2 : goal.returns-then-len-start-2
returns-then-len-start-2 c = within-no _ _ _ (omega arith)

pub returns : goal.returns
returns c = within-yes _ _ _ (omega arith)
