use mathlib.Core.Path.{◌∙◌}
use mir.Facts.{to_z-of_z}
use mir.Syntax.{w64}
use Rattle.stretches.proofs.StepLaws.{none-put, one-put}
use Rattle.stretch_marks.proofs.put_stretch.Goals as goal

pub returns-then-since-eq0 : goal.returns-then-since-eq0
returns-then-since-eq0 c = none-put _ _ _ _ c.if-since-eq0.true

pub returns : goal.returns
returns c = one-put _ _ _ _ _ _ _ c.if-since-eq0.false c.ticks-first.ensures c.ticks-end.ensures (c.put_number-2.ensures ∙ rw (to_z-of_z {w = w64} {z = c.ticks-end.result} (record { sfits = c.ticks-end.type_inv })) (rw (c.put_number.ensures, to_z-of_z {w = w64} {z = c.ticks-first.result} (record { sfits = c.ticks-first.type_inv }))))
