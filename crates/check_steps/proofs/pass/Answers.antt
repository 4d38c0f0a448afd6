use Rattle.check_steps.proofs.PassLaws.{passed_none, passed-some}
use Rattle.check_steps.proofs.pass.Goals as goal

pub returns-then-prev-lt8 : goal.returns-then-prev-lt8
returns-then-prev-lt8 c = passed_none c.args.s.now c.args.c c.if-prev-lt8.true

pub returns : goal.returns
returns c = passed-some c.args.s.now c.args.c c.if-prev-lt8.false _ c.whole_end-x.ensures
