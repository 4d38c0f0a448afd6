use mathlib.Core.Path.{refl, sym, ap, ◌∙◌}
use mathlib.Core.List.{[]}
use native.Mathlib.Omega.{arith}
use lib.ListN.{length}
use Rattle.closed_pools.proofs.TextsLaws.{going_start, going_next, going_end, sum-next, sum-most}
use Rattle.closed_pools.proofs.texts_size.Goals as goal

pub loop-k-init : goal.loop-k-init
loop-k-init c = ([], going_start _ _, refl)

pub text_size-sum-requires : goal.text_size-sum-requires
text_size-sum-requires c = c.requires.0

pub overflow_add-sum : goal.overflow_add-sum
overflow_add-sum c = omega (arith, sum-most _ _ _ _ c.loop-k.invariant.1 c.loop-k-test.true _ _ c.loop-k.invariant.2 c.text_size-sum.ensures, c.requires.1)

pub loop-k-preserved : goal.loop-k-preserved
loop-k-preserved c = (_, going_next _ _ _ _ c.loop-k.invariant.1 c.loop-k-test.true, sum-next _ _ _ _ c.loop-k.invariant.1 c.loop-k-test.true _ _ c.loop-k.invariant.2 c.text_size-sum.ensures)

pub returns : goal.returns
returns c = c.loop-k.invariant.2 ∙ ap length (sym (going_end _ _ _ _ c.loop-k.invariant.1 c.loop-k-test.false))
