use Prim.Native.Nat.{◌<◌, ◌^◌}
use mathlib.Core.Path.{ap, ◌∙◌}
use mir.Syntax.{w64}
use mir.Facts.{to_z-of_z, to_z_pos}
use borrow.Author.Tests.{eq-eqb, ne_eqb}
use Rattle.replies.specs.Functions.{moment_reply}
use Rattle.replies.proofs.ReplyLaws.{gave, denied-number, instant-numbers}
use Rattle.moment_replies.proofs.give_moment.Goals as goal
use Rattle.moment_replies.proofs.give_moment.Goals.{In-Ok}

below : (c : goal.In-Ok) → c.in-Ok.n < 2 ^ 63
below c = (rw c.in-Ok.is at c.requires.to).1

pub overflow_cast-out : goal.overflow_cast-out
overflow_cast-out c = record { sfits = below (goal.at.overflow_cast-out c).In-Ok }

pub returns-then-m-eq0 : goal.returns-then-m-eq0
returns-then-m-eq0 c = rw (to_z_pos w64 (below (goal.at.returns-then-m-eq0 c).In-Ok))
    (gave _ _ _ (ap moment_reply c.in-Ok.is ∙ rw (eq-eqb c.in-Ok.m 0 c.if-m-eq0.true)))

pub overflow_cast-out-then-m-eq3281606784000000000 : goal.overflow_cast-out-then-m-eq3281606784000000000
overflow_cast-out-then-m-eq3281606784000000000 c = record { sfits = below (goal.at.overflow_cast-out-then-m-eq3281606784000000000 c).In-Ok }

pub returns-then-m-eq3281606784000000000 : goal.returns-then-m-eq3281606784000000000
returns-then-m-eq3281606784000000000 c = rw (to_z_pos w64 (below (goal.at.returns-then-m-eq3281606784000000000 c).In-Ok))
    (gave _ _ _ (ap moment_reply c.in-Ok.is ∙ rw (
      ne_eqb c.in-Ok.m 0 c.if-m-eq0.false,
      eq-eqb c.in-Ok.m 3281606784000000000 c.if-m-eq3281606784000000000.true,
    )))

pub overflow_cast-out-in-Ok : goal.overflow_cast-out-in-Ok
overflow_cast-out-in-Ok c = record { sfits = below (goal.at.overflow_cast-out-in-Ok c).In-Ok }

pub returns-else-m-eq3281606784000000000 : goal.returns-else-m-eq3281606784000000000
returns-else-m-eq3281606784000000000 c = rw (
  to_z-of_z {w = w64} {z = c.ticks.result} (record { sfits = c.ticks.type_inv }),
  to_z_pos w64 (below (goal.at.returns-else-m-eq3281606784000000000 c).In-Ok),
)
    (gave _ _ _ (ap moment_reply c.in-Ok.is
    ∙ instant-numbers _ _ _ c.if-m-eq0.false c.if-m-eq3281606784000000000.false c.ticks.ensures))

pub returns-in-Err : goal.returns-in-Err
returns-in-Err c = denied-number _ _ _ _ (ap moment_reply c.in-Err.is) c.number.ensures
