use Rattle.stretches.proofs.StepLaws.{mark-opens, mark-goes-on, mark-ends}
use Rattle.stretch_marks.proofs.mark.Goals as goal

pub returns-then-m-eq0 : goal.returns-then-m-eq0
returns-then-m-eq0 c = mark-opens _ c.args.m _ _ c.if-holds.true c.if-m-eq0.true

pub returns-then-holds : goal.returns-then-holds
returns-then-holds c = mark-goes-on _ c.args.m _ _ c.if-holds.true c.if-m-eq0.false

pub returns : goal.returns
returns c = mark-ends _ c.args.m _ _ c.if-holds.false _ _ c.put_stretch-k.ensures
