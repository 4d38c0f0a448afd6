use mathlib.Core.Path.{◌≡◌}
use mathlib.Core.List.{◌∷◌, ◌++◌}
use lib.ListN.{length}
use Rattle.counts.specs.Count.{write_count}
use Rattle.pieces.proofs.PutLaws.{put_is}
use Rattle.preferred_fields.specs.Field.{print_field, field_with}
use Rattle.preferred_fields.proofs.FieldLaws.{copied-limit, field-copied}
use Rattle.preferred_fields.proofs.write_field.Goals as goal
use Rattle.preferred_fields.proofs.write_field.Goals.{After-copy_field-arg-1, After-write_zone-arg-1}

-- what a copy writes
copy : (c : goal.After-copy_field-arg-1) → print_field (field_with c.args.i c.args.d.now) ≡ c.args.i ∷ (write_count (length c.args.d.now) ++ c.args.d.now)
copy c = field-copied _ _ _ c.is_copied.ensures c.if-is_copied.true

zone : (c : goal.After-write_zone-arg-1) → c.args.i ≡ 1
zone c = c.is_copied.ensures.zone c.if-is_copied.false

pub copy_field-requires : goal.copy_field-requires
copy_field-requires c = (
  copied-limit _ _ _ c.is_copied.ensures c.if-is_copied.true c.requires.1,
  rw (copy c) at c.requires.2,
)

pub returns-then-is_copied : goal.returns-then-is_copied
returns-then-is_copied c = put_is _ _ _ _ _ c.copy_field.ensures (copy (goal.at.returns-then-is_copied c).After-copy_field-arg-1)

pub write_zone-requires : goal.write_zone-requires
write_zone-requires c = (
  (c.requires.0 (zone c)).content,
  rw (zone c) at c.requires.1,
  rw (zone c) at c.requires.2,
)

pub returns : goal.returns
returns c = rw (zone (goal.at.returns c).After-write_zone-arg-1) c.write_zone.ensures
