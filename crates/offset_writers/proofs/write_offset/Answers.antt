use mathlib.Core.Path.{◌≡◌}
use mir.Facts.{to_z-of_z}
use Rattle.signed.specs.OffsetSum.{sum_of}
use Rattle.offsets.proofs.OffsetWriteLaws.{as-offset}
use Rattle.offset_writers.proofs.write_offset.Goals as goal
use Rattle.offset_writers.proofs.write_offset.Goals.{After-write_sum-arg-1}

mapped : (c : goal.After-write_sum-arg-1) → c.offset_sum.result ≡ sum_of c.args.ms
mapped c = rw (to_z-of_z c.ranges.ms) at c.offset_sum.ensures

pub returns : goal.returns
returns c = as-offset _ _ _ _ _ (mapped (goal.at.returns c).After-write_sum-arg-1) c.write_sum.ensures
