use mathlib.Core.Path.{ap, sym}
use Rattle.mentions.specs.Walk.{first_stage}
use Rattle.mentions.proofs.WalkLaws.{first_rest}
use Rattle.mention_steps.proofs.first.Goals as goal

pub returns-then-i-eq1 : goal.returns-then-i-eq1
unfolding first_stage
returns-then-i-eq1 c = ap first_stage (sym c.if-i-eq1.true)

pub returns-then-i-eq3 : goal.returns-then-i-eq3
unfolding first_stage
returns-then-i-eq3 c = ap first_stage (sym c.if-i-eq3.true)

pub returns-then-i-eq6 : goal.returns-then-i-eq6
unfolding first_stage
returns-then-i-eq6 c = ap first_stage (sym c.if-i-eq6.true)

pub returns-then-i-eq7 : goal.returns-then-i-eq7
unfolding first_stage
returns-then-i-eq7 c = ap first_stage (sym c.if-i-eq7.true)

pub returns : goal.returns
returns c = first_rest _ c.if-i-eq1.false c.if-i-eq3.false c.if-i-eq6.false c.if-i-eq7.false
