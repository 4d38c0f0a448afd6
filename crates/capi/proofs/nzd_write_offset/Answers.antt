use mir.Facts.{to_z-of_z}
use Rattle.base.specs.Writing.{Writes}
use Rattle.offsets.specs.Offset.{offset_form}
use Rattle.capi.proofs.FormLaws.{offset-short}
use Rattle.capi.proofs.PutLaws.{puts, result-small}
use Rattle.capi.proofs.nzd_write_offset.Goals as goal
use Rattle.capi.proofs.nzd_write_offset.Goals.{After-slice_known-2-1}

wrote_it : (c : goal.After-slice_known-2-1) → Writes (offset_form c.args.ms) c.args.out.now c.write_offset-w.result c.write_offset-w.new.out
wrote_it c = rw (to_z-of_z c.ranges.ms) at c.write_offset-w.ensures

pub written-requires : goal.written-requires
written-requires c = result-small _ _ _ _ (wrote_it c) (offset-short _)

pub returns : goal.returns
returns c = puts _ _ _ _ _ (wrote_it (goal.at.returns c).After-slice_known-2-1) c.written.ensures
