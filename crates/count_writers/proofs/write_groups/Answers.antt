use native.Mathlib.Omega.{arith}
use lib.ListN.{length-set}
use Rattle.base.proofs.WriteLaws.{no_room}
use Rattle.counts.proofs.GroupWriteLaws.{storing-start, storing-next, storing-end}
use Rattle.count_writers.proofs.write_groups.Goals as goal

pub returns-then-out-n : goal.returns-then-out-n
returns-then-out-n c = no_room _ _ (omega arith)

pub loop-i-init : goal.loop-i-init
loop-i-init c = storing-start _ _

pub loop-i-preserved : goal.loop-i-preserved
loop-i-preserved c = storing-next _ _ _ _ _ c.loop-i.invariant (omega arith)

pub shape_of-out : goal.shape_of-out
shape_of-out c = simp length-set c.loop-i.invariant.size

pub returns : goal.returns
returns c = storing-end _ _ _ _ _ c.loop-i.invariant _ c.count_size-n.ensures c.loop-i-test.false (omega arith)
