use mir.Syntax.{w64}
use mir.Facts.{to_z-of_z}
use Rattle.wall_times.proofs.WayLaws.{ticks-none, ticks-some}
use Rattle.wall_times.proofs.in_ticks.Goals as goal

pub returns-then-a-eq0 : goal.returns-then-a-eq0
returns-then-a-eq0 c = ticks-none _ c.if-a-eq0.true

pub returns : goal.returns
returns c = rw (to_z-of_z {w = w64} {z = c.ticks-first.result} (record { sfits = c.ticks-first.type_inv }), to_z-of_z {w = w64} {z = c.ticks-last.result} (record { sfits = c.ticks-last.type_inv })) (ticks-some _ _ _ c.if-a-eq0.false c.ticks-first.ensures c.ticks-last.ensures)
