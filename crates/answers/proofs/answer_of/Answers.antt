use mir.Syntax.{w64}
use mir.Facts.{to_z-of_z}
use Rattle.answers.proofs.answer_of.Goals as goal

pub returns : goal.returns
returns c = rw (
  to_z-of_z {w = w64} {z = c.milliseconds-wall.result} (record { sfits = c.milliseconds-wall.type_inv }),
  to_z-of_z {w = w64} {z = c.milliseconds-savings.result} (record { sfits = c.milliseconds-savings.type_inv }),
  to_z-of_z {w = w64} {z = c.milliseconds-standard.result} (record { sfits = c.milliseconds-standard.type_inv }),
  to_z-of_z {w = w64} {z = c.ticks-from.result} (record { sfits = c.ticks-from.type_inv }),
  to_z-of_z {w = w64} {z = c.ticks-to.result} (record { sfits = c.ticks-to.type_inv }),
  c.milliseconds-wall.ensures,
  c.milliseconds-savings.ensures,
  c.milliseconds-standard.ensures,
  c.ticks-from.ensures,
  c.ticks-to.ensures,
)
