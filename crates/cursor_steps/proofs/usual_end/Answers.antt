use native.Mathlib.Omega.{arith}
use Rattle.cursor_steps.proofs.UsualLaws.{usual-none}
use Rattle.cursor_steps.proofs.usual_end.Goals as goal

pub returns-then-c-lt2 : goal.returns-then-c-lt2
returns-then-c-lt2 c = usual-none _ _ _ _

pub returns-then-t-c : goal.returns-then-t-c
returns-then-t-c c = usual-none _ _ _ _

pub short_next-m-requires : goal.short_next-m-requires
short_next-m-requires c = c.requires (omega (arith, c.if-c-lt2.false))

pub returns-then-m-t : goal.returns-then-m-t
returns-then-m-t c = usual-none _ _ _ _
