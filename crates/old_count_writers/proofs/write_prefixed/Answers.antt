use native.Mathlib.Omega.{arith}
use lib.ListN.{length-set}
use Rattle.base.proofs.WriteLaws.{no_room}
use Rattle.counts.specs.Fixed.{prefixed}
use Rattle.counts.proofs.FixedLaws.{length-prefixed}
use Rattle.old_counts.proofs.OldCountWriteLaws.{storing-size, storing-start, storing-next, storing-rest, storing-end}
use Rattle.old_count_writers.proofs.write_prefixed.Goals as goal

pub returns-then-out-n : goal.returns-then-out-n
returns-then-out-n c = no_room (prefixed c.args.n c.args.prefix c.args.v) _ (rw (length-prefixed c.args.n c.args.prefix c.args.v) (omega arith))

pub loop-i-init : goal.loop-i-init
loop-i-init c = storing-start _ _ _

pub bounds-out-i : goal.bounds-out-i
bounds-out-i c = omega (arith, storing-size c.loop-i.invariant, c.loop-i.invariant.inside)

pub loop-i-preserved : goal.loop-i-preserved
loop-i-preserved c = storing-next _ _ _ _ _ _ c.loop-i.invariant c.loop-i-test.true

pub overflow_add-out : goal.overflow_add-out
overflow_add-out c = omega (arith, storing-rest _ _ _ _ _ _ c.loop-i.invariant c.loop-i-test.false)

pub overflow_cast-out-2 : goal.overflow_cast-out-2
overflow_cast-out-2 c = omega (arith, storing-rest _ _ _ _ _ _ c.loop-i.invariant c.loop-i-test.false)

pub bounds-out-0 : goal.bounds-out-0
bounds-out-0 c = omega (arith, storing-size c.loop-i.invariant)

pub shape_of-out : goal.shape_of-out
shape_of-out c = simp length-set (storing-size c.loop-i.invariant)

pub returns : goal.returns
returns c = storing-end _ _ _ _ _ _ c.loop-i.invariant _ c.loop-i-test.false (omega arith)
