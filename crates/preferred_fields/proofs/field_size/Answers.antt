use mathlib.Core.Path.{◌≡◌, sym, ◌∙◌}
use native.Mathlib.Omega.{arith}
use Rattle.preferred_fields.proofs.FieldLaws.{copied-length, zone-length}
use Rattle.preferred_fields.proofs.field_size.Goals as goal
use Rattle.preferred_fields.proofs.field_size.Goals.{Else-is_copied}

zone : (c : goal.Else-is_copied) → c.args.i ≡ 1
zone c = c.is_copied.ensures.zone c.if-is_copied.false

pub whole_size-requires : goal.whole_size-requires
whole_size-requires c = omega (arith, copied-length _ _ _ c.is_copied.ensures c.if-is_copied.true, c.requires.1)

pub returns-then-is_copied : goal.returns-then-is_copied
returns-then-is_copied c = c.whole_size.ensures ∙ sym (copied-length _ _ _ c.is_copied.ensures c.if-is_copied.true)

pub zone_size-requires : goal.zone_size-requires
zone_size-requires c = (c.requires.0 (zone c)).content

pub whole_size-requires-2 : goal.whole_size-requires-2
whole_size-requires-2 c = omega (arith, zone-length _ c.args.d.now _ (zone (goal.at.whole_size-requires-2 c).Else-is_copied) c.zone_size.ensures, c.requires.1)

pub returns : goal.returns
returns c = c.whole_size-2.ensures ∙ sym (zone-length _ _ _ (zone (goal.at.returns c).Else-is_copied) c.zone_size.ensures)
