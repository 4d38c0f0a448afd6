use mathlib.Core.Path.{sym, ap}
use Rattle.answers.specs.Answers.{answer_of}
use Rattle.answers.proofs.finish.Goals as goal

pub returns-in-Answered : goal.returns-in-Answered
returns-in-Answered c = sym (ap (answer_of c.args.mark) c.in-Answered.is)

pub returns-in-Refused : goal.returns-in-Refused
returns-in-Refused c = sym (ap (answer_of c.args.mark) c.in-Refused.is)

pub returns-in-More : goal.returns-in-More
returns-in-More c = rw (c.in-Cut.is, c.in-More.is)

pub returns-in-All : goal.returns-in-All
returns-in-All c = rw (c.in-Cut.is, c.in-All.is)

pub returns-in-More-mark : goal.returns-in-More-mark
returns-in-More-mark c = rw (c.in-End.is, c.in-More-mark.is)

pub returns-in-All-mark : goal.returns-in-All-mark
returns-in-All-mark c = rw (c.in-End.is, c.in-All-mark.is)
