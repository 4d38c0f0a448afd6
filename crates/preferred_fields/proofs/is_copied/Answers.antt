use mathlib.Core.Path.{ap}
use native.Mathlib.Omega.{arith}
use Rattle.places.specs.Placed.{of_read}
use Rattle.places.proofs.PlaceLaws.{stands-is}
use Rattle.preferred_fields.proofs.FieldLaws.{copied-other, copied-not, copied-flag}
use Rattle.preferred_fields.proofs.is_copied.Goals as goal

pub returns-then-i-ne1 : goal.returns-then-i-ne1
returns-then-i-ne1 c = copied-other _ _ c.if-i-ne1.true

pub returns-then-flags-id : goal.returns-then-flags-id
returns-then-flags-id c = copied-not _ _ c.if-i-ne1.false

pub returns-in-Err : goal.returns-in-Err
returns-in-Err c = copied-not _ _ c.if-i-ne1.false

pub returns-else-flags-id : goal.returns-else-flags-id
returns-else-flags-id c = copied-flag _ _ _ _ _ (λ i. omega (arith, c.shared_slice_known-1.given i)) c.if-i-ne1.false (c.requires c.if-i-ne1.false)
    (stands-is c.count_at.ensures (ap of_read c.in-Ok.is)) c.if-flags-id.false
