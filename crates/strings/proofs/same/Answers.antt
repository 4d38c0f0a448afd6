use mathlib.Core.Path.{refl, sym, ◌∙◌}
use native.Mathlib.Omega.{arith}
use Rattle.base.proofs.EqualLaws.{lengths_differ, bytes-at, bytes-end}
use Rattle.strings.proofs.SameLaws.{mark-tells}
use Rattle.strings.proofs.same.Goals as goal

pub returns-then-a-b : goal.returns-then-a-b
returns-then-a-b c = lengths_differ _ _ c.if-a-b.true

pub loop-i-init : goal.loop-i-init
loop-i-init c = (omega arith, refl)

pub loop-i-preserved : goal.loop-i-preserved
loop-i-preserved c = (
  omega arith,
  rw (c.larger-m.ensures, c.differ.ensures, mark-tells)
      (bytes-at c.args.a.now c.args.b.now c.loop-i.i c.loop-i.m (omega arith) (omega arith) ∙ c.loop-i.invariant.1),
)

pub returns : goal.returns
returns c = sym (bytes-end c.args.a.now c.args.b.now c.loop-i.i c.loop-i.m (omega arith) (omega arith)) ∙ c.loop-i.invariant.1
