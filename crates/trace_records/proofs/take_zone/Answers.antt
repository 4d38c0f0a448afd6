use mir.Syntax.{w64}
use mir.Facts.{to_z-of_z}
use Rattle.trace_records.proofs.KeptLaws.{zone-shown, zone-refused}
use Rattle.trace_records.proofs.take_zone.Goals as goal

pub returns-then-t-x : goal.returns-then-t-x
returns-then-t-x c = zone-shown _ _ _ _ c.requires _ _ c.offset_at-x.ensures _ c.with_offset-new.ensures c.if-t-x.true _
    (rw (to_z-of_z {w = w64} {z = c.offset_at-x.result.wall} (record { sfits = c.struct_told-1.given.1.1.0.1 }), to_z-of_z c.ranges.shown) at c.same-b.ensures)

pub returns : goal.returns
returns c = zone-refused _ _ _ _ c.requires _ _ c.offset_at-x.ensures _ c.with_offset-new.ensures c.if-t-x.false
