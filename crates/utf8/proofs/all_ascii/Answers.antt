use mathlib.Core.Path.{refl, sym, ◌∙◌}
use borrow.Author.Rules.{rules}
use Rattle.utf8.proofs.AsciiLaws.{marked-at, marked-end}
use Rattle.utf8.proofs.all_ascii.Goals as goal

pub loop-i-init : goal.loop-i-init
loop-i-init c = (search rules, refl)

pub loop-i-preserved : goal.loop-i-preserved
loop-i-preserved c = (search rules, rw c.marked-m.ensures (marked-at c.args.s.now c.loop-i.i c.loop-i.m c.loop-i-test.true ∙ c.loop-i.invariant.1))

pub returns : goal.returns
returns c = sym (marked-end c.args.s.now c.loop-i.i c.loop-i.m c.loop-i-test.false) ∙ c.loop-i.invariant.1
