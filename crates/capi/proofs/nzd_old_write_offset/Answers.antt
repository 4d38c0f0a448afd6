use mir.Facts.{to_z-of_z}
use Rattle.base.specs.Writing.{Writes}
use Rattle.old_offsets.specs.OldOffset.{old_offset_form}
use Rattle.capi.proofs.OldLaws.{old-offset-form}
use Rattle.capi.proofs.PutLaws.{puts, result-small}
use Rattle.capi.proofs.nzd_old_write_offset.Goals as goal
use Rattle.capi.proofs.nzd_old_write_offset.Goals.{After-slice_known-2-1}

wrote_it : (c : goal.After-slice_known-2-1) → Writes (old_offset_form c.args.ms) c.args.out.now c.write_offset-w.result c.write_offset-w.new.out
wrote_it c = rw (to_z-of_z c.ranges.ms) at c.write_offset-w.ensures

pub written-requires : goal.written-requires
written-requires c = result-small _ _ _ _ (wrote_it c) (old-offset-form _)

pub returns : goal.returns
returns c = puts _ _ _ _ _ (wrote_it (goal.at.returns c).After-slice_known-2-1) c.written.ensures
