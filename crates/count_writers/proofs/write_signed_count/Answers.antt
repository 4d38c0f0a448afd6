use native.Mathlib.Omega.{arith}
use mathlib.Core.Path.{◌≡◌}
use mir.Facts.{to_z-of_z}
use Rattle.signed.specs.Zigzag.{zigzag_of}
use Rattle.counts.proofs.SignedCountLaws.{signed-carried, signed_above}
use Rattle.count_writers.proofs.write_signed_count.Goals as goal
use Rattle.count_writers.proofs.write_signed_count.Goals.{After-zigzag-u}

mapped : (c : goal.After-zigzag-u) → c.zigzag-u.result ≡ zigzag_of c.args.v
mapped c = rw (to_z-of_z c.ranges.v) at c.zigzag-u.ensures

pub returns-then-u-le4294967295 : goal.returns-then-u-le4294967295
returns-then-u-le4294967295 c = signed-carried _ _ (mapped (goal.at.returns-then-u-le4294967295 c).After-zigzag-u) _ _ _ (omega arith) c.write_groups.ensures

pub returns : goal.returns
returns c = signed_above _ _ (mapped (goal.at.returns c).After-zigzag-u) _ (omega arith)
