use native.Mathlib.Omega.{arith}
use Rattle.use_order.proofs.FillLaws.{put-none, put_one}
use Rattle.ordered_uses.proofs.put.Goals as goal

pub returns-then-u-eq0 : goal.returns-then-u-eq0
returns-then-u-eq0 c = put-none _ _ _ _ c.if-u-eq0.true

pub returns : goal.returns
returns c = put_one _ _ _ _ (omega arith)
