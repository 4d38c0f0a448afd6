use mir.Syntax.{w64}
use mir.Facts.{to_z-of_z}
use native.Mathlib.Omega.{arith}
use Rattle.found_zones.proofs.AskLaws.{in-ok}
use Rattle.trace_records.proofs.ShownLaws.{offset-none, offset-found}
use Rattle.trace_records.proofs.offset_at.Goals as goal

pub milliseconds-requires : goal.milliseconds-requires
milliseconds-requires c = omega (arith, (in-ok _ c.args.v _ _ _ _ _ _ c.lent.ensures c.room-count.ensures c.lent-zone.ensures c.find.ensures _ c.in-Ok.is c.requires).wall-high)

pub returns-in-Err : goal.returns-in-Err
returns-in-Err c = offset-none _ _ _ c.requires _ _ _ _ c.lent.ensures c.room-count.ensures c.lent-zone.ensures c.find.ensures _ c.in-Err.is

pub returns-in-Ok : goal.returns-in-Ok
returns-in-Ok c = rw (to_z-of_z {w = w64} {z = c.milliseconds.result} (record { sfits = c.milliseconds.type_inv }))
    (offset-found _ _ _ c.requires _ _ _ _ c.lent.ensures c.room-count.ensures c.lent-zone.ensures c.find.ensures _ c.in-Ok.is _ c.milliseconds.ensures)
