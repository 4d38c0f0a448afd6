use mir.Facts.{to_z-of_z}
use Rattle.base.specs.Writing.{Writes}
use Rattle.replies.specs.Functions.{integer_form}
use Rattle.capi.proofs.FormLaws.{integer-small}
use Rattle.capi.proofs.PutLaws.{puts, result-small}
use Rattle.capi.proofs.nzd_write_count.Goals as goal
use Rattle.capi.proofs.nzd_write_count.Goals.{After-slice_known-2-1}

wrote_it : (c : goal.After-slice_known-2-1) → Writes (integer_form c.args.v) c.args.out.now c.write_integer-w.result c.write_integer-w.new.out
wrote_it c = rw (to_z-of_z c.ranges.v) at c.write_integer-w.ensures

pub written-requires : goal.written-requires
written-requires c = result-small _ _ _ _ (wrote_it c) (integer-small c.args.v)

pub returns : goal.returns
returns c = puts _ _ _ _ _ (wrote_it (goal.at.returns c).After-slice_known-2-1) c.written.ensures
