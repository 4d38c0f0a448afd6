use mathlib.Core.Path.{◌≡◌}
use mir.Facts.{to_z-of_z}
use Rattle.signed.specs.OffsetSum.{sum_of}
use Rattle.old_offsets.proofs.OldOffsetWriteLaws.{as-offset}
use Rattle.old_offset_writers.proofs.write_offset.Goals as goal
use Rattle.old_offset_writers.proofs.write_offset.Goals.{After-offset_sum}

mapped : (c : goal.After-offset_sum) → c.offset_sum.result ≡ sum_of c.args.ms
mapped c = rw (to_z-of_z c.ranges.ms) at c.offset_sum.ensures

pub returns : goal.returns
returns c = as-offset _ _ _ _ _ (mapped (goal.at.returns c).After-offset_sum) c.write_sum.ensures
