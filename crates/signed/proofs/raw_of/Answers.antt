use Rattle.signed.proofs.IntegerLaws.{raw-before, raw-after}
use Rattle.signed.proofs.raw_of.Goals as goal

pub returns-then-b-lt747583776000000000 : goal.returns-then-b-lt747583776000000000
returns-then-b-lt747583776000000000 c = raw-before _ c.if-b-lt747583776000000000.true

pub returns : goal.returns
returns c = raw-after _ c.if-b-lt747583776000000000.false
