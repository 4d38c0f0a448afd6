use native.Mathlib.Omega.{arith}
use Rattle.utf8.proofs.AsciiLaws.{front-start, front-next, front-stop, front-all, front-end, front-tells}
use Rattle.utf8.proofs.ascii_front.Goals as goal

pub loop-at-init : goal.loop-at-init
loop-at-init c = front-start _

pub loop-at-preserved : goal.loop-at-preserved
loop-at-preserved c = front-next _ _ c.loop-at.invariant _ c.loop-at-test.true c.all_ascii.ensures c.if-all_ascii.true

pub returns-else-all_ascii : goal.returns-else-all_ascii
returns-else-all_ascii c = front-stop _ _ c.loop-at.invariant _ c.loop-at-test.true c.all_ascii.ensures c.if-all_ascii.false

pub returns-then-all_ascii-2 : goal.returns-then-all_ascii-2
returns-then-all_ascii-2 c = front-all _ _ c.loop-at.invariant _ c.loop-at-test.false c.all_ascii-then-at-lt128.ensures c.if-all_ascii-2.true

pub returns-then-at-lt128 : goal.returns-then-at-lt128
returns-then-at-lt128 c = front-end _ _ c.loop-at.invariant _ c.loop-at-test.false c.all_ascii-then-at-lt128.ensures c.if-all_ascii-2.false

pub returns-then-all_ascii-3 : goal.returns-then-all_ascii-3
returns-then-all_ascii-3 c = let f = c.loop-at.invariant in
    front-all _ _ f _ c.loop-at-test.false (front-tells _ _ _ f (omega arith) _ c.all_ascii-2.ensures) c.if-all_ascii-3.true

pub returns : goal.returns
returns c = let f = c.loop-at.invariant in
    front-end _ _ f _ c.loop-at-test.false (front-tells _ _ _ f (omega arith) _ c.all_ascii-2.ensures) c.if-all_ascii-3.false
