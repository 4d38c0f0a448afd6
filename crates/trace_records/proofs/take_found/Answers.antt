use mathlib.Core.Path.{refl}
use mir.Syntax.{w64}
use mir.Facts.{to_z-of_z}
use Rattle.signed.proofs.IntegerLaws.{instant-finite}
use Rattle.trace_records.proofs.KeptLaws.{none-ok, outside-agrees, takes-found}
use Rattle.trace_records.proofs.take_found.Goals as goal

pub returns-then-t-eq0 : goal.returns-then-t-eq0
returns-then-t-eq0 c = record { agreed = outside-agrees _ _ _ _ _ _ c.signed_eight_at-instant.ensures refl _ (rw (to_z-of_z {w = w64} {z = c.signed_eight_at-instant.result} (record { sfits = c.signed_eight_at-instant.type_inv })) at c.instant-t.ensures) c.if-t-eq0.true; kept = none-ok _ _ _ _ c.none_kept-none.ensures }

pub take_zone-requires : goal.take_zone-requires
take_zone-requires c = instant-finite _ _ c.instant-t.ensures c.if-t-eq0.false

pub returns : goal.returns
returns c = takes-found _ _ _ _ _ _ c.signed_eight_at-instant.ensures c.signed_four_at-shown.ensures _ _ c.four_at-start.ensures.0 c.four_at-len.ensures.0 c.requires.1 _ c.requires.2 _ c.kept_by-k.ensures _ (rw (to_z-of_z {w = w64} {z = c.signed_eight_at-instant.result} (record { sfits = c.signed_eight_at-instant.type_inv })) at c.instant-t.ensures) _ (rw (to_z-of_z {w = w64} {z = c.signed_four_at-shown.result} (record { sfits = c.signed_four_at-shown.type_inv })) at c.take_zone.ensures)
