use mathlib.Core.Path.{refl}
use mir.Syntax.{w64}
use mir.Facts.{to_z-of_z}
use Rattle.signed.proofs.IntegerLaws.{instant-finite}
use Rattle.trace_records.proofs.KeptLaws.{outside-agrees, takes-held, takes-kept}
use Rattle.trace_records.proofs.take_same.Goals as goal

pub returns-then-t-eq0 : goal.returns-then-t-eq0
returns-then-t-eq0 c = record { agreed = outside-agrees _ _ _ _ _ _ c.signed_eight_at-instant.ensures refl _ (rw (to_z-of_z {w = w64} {z = c.signed_eight_at-instant.result} (record { sfits = c.signed_eight_at-instant.type_inv })) at c.instant-t.ensures) c.if-t-eq0.true; kept = c.requires.3 }

pub returns-then-k-t : goal.returns-then-k-t
returns-then-k-t c = takes-held _ _ _ _ _ _ c.signed_eight_at-instant.ensures c.signed_four_at-shown.ensures _ c.requires.3 c.requires.1 c.requires.2 _ (instant-finite _ _ c.instant-t.ensures c.if-t-eq0.false) (rw (to_z-of_z {w = w64} {z = c.signed_eight_at-instant.result} (record { sfits = c.signed_eight_at-instant.type_inv })) at c.instant-t.ensures) c.if-t-k.true c.if-k-t.true _
    (rw (to_z-of_z {w = w64} {z = c.args.k.wall} (record { sfits = c.struct_told-1.given.1.1.1.1.1.1.1.1.0.1 }), to_z-of_z {w = w64} {z = c.signed_four_at-shown.result} (record { sfits = c.signed_four_at-shown.type_inv })) at c.same-b.ensures)

pub take_zone-requires : goal.take_zone-requires
take_zone-requires c = instant-finite _ _ c.instant-t.ensures c.if-t-eq0.false

pub returns : goal.returns
returns c = takes-kept _ _ _ _ _ _ c.signed_eight_at-instant.ensures c.signed_four_at-shown.ensures _ c.requires.3 c.requires.1 c.requires.2 _ c.kept_zone-v.ensures _ (rw (to_z-of_z {w = w64} {z = c.signed_eight_at-instant.result} (record { sfits = c.signed_eight_at-instant.type_inv })) at c.instant-t.ensures) _ (rw (to_z-of_z {w = w64} {z = c.signed_four_at-shown.result} (record { sfits = c.signed_four_at-shown.type_inv })) at c.take_zone.ensures)
