use native.Mathlib.Omega.{arith}
use Rattle.cursor_steps.proofs.UsualLaws.{usual-inside, usual-at}
use Rattle.cursor_steps.proofs.seek.Goals as goal

pub usual_end-m-requires : goal.usual_end-m-requires
usual_end-m-requires c = usual-inside _ _ _ _ c.requires.0

pub overflow_sub-c : goal.overflow_sub-c
overflow_sub-c c = omega (arith, c.usual_end-m.ensures.listed c.if-m-ne0.true)

pub at_usual-requires : goal.at_usual-requires
at_usual-requires c = c.usual_end-m.ensures.next.room c.if-m-ne0.true

pub returns-then-m-ne0 : goal.returns-then-m-ne0
returns-then-m-ne0 c = usual-at _ _ _ _ c.requires.0 _ _ c.usual_end-m.ensures c.if-m-ne0.true _ c.at_usual.ensures
