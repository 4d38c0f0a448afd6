use mathlib.Core.Path.{refl, ◌∙◌}
use native.Mathlib.Omega.{arith}
use Rattle.utf8.proofs.Utf8Laws.{three-passed}
use Rattle.utf8.proofs.past_threes.Goals as goal

pub loop-i-init : goal.loop-i-init
loop-i-init c = (omega arith, omega arith, refl)

pub loop-i-preserved : goal.loop-i-preserved
loop-i-preserved c = (omega arith, omega arith, three-passed _ c.loop-i.i (omega arith) (c.is_three.ensures c.if-not-is_three.false) ∙ c.loop-i.invariant.2)
