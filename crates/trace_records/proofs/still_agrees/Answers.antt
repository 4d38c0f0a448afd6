use mir.Syntax.{w64}
use mir.Facts.{to_z-of_z}
use Rattle.trace_records.proofs.KeptLaws.{not-still, still}
use Rattle.trace_records.proofs.still_agrees.Goals as goal

pub returns-then-t-eq0 : goal.returns-then-t-eq0
returns-then-t-eq0 c = not-still _ _ _ _

pub returns-then-t-k : goal.returns-then-t-k
returns-then-t-k c = not-still _ _ _ _

pub returns-then-k-t : goal.returns-then-k-t
returns-then-k-t c = not-still _ _ _ _

pub returns-then-same : goal.returns-then-same
returns-then-same c = still _ _ _ _ _ c.has_name.ensures _ c.signed_eight_at-instant.ensures _ (rw (to_z-of_z {w = w64} {z = c.signed_eight_at-instant.result} (record { sfits = c.signed_eight_at-instant.type_inv })) at c.instant-t.ensures) c.if-t-eq0.false c.if-t-k.false c.if-k-t.false _ c.signed_four_at-shown.ensures _
    (rw (to_z-of_z {w = w64} {z = c.args.k.wall} (record { sfits = c.struct_told-1.given.1.1.1.1.1.1.1.1.0.1 }), to_z-of_z {w = w64} {z = c.signed_four_at-shown.result} (record { sfits = c.signed_four_at-shown.type_inv })) at c.same.ensures) c.if-same.true

pub returns : goal.returns
returns c = not-still _ _ _ _
