use native.Mathlib.Omega.{arith}
use lib.ListN.{length-set}
use Rattle.preferred_walks.proofs.VersionLaws.{put-version}
use Rattle.preferred_walks.proofs.write_version.Goals as goal

pub bounds-out-1 : goal.bounds-out-1
bounds-out-1 c = rw (length-set) (omega (arith, c.requires))

pub bounds-out-2 : goal.bounds-out-2
bounds-out-2 c = rw (length-set, length-set) (omega (arith, c.requires))

pub returns : goal.returns
returns c = put-version _ c.requires
