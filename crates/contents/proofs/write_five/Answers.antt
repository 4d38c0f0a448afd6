use native.Mathlib.Omega.{arith}
use lib.ListN.{length-set}
use Rattle.contents.proofs.FiveLaws.{put_five}
use Rattle.contents.proofs.write_five.Goals as goal

pub bounds-out-1 : goal.bounds-out-1
bounds-out-1 c = simp length-set (omega arith)

pub bounds-out-2 : goal.bounds-out-2
bounds-out-2 c = simp length-set (omega arith)

pub bounds-out-3 : goal.bounds-out-3
bounds-out-3 c = simp length-set (omega arith)

pub returns : goal.returns
returns c = put_five _ c.requires.0 c.requires.1 _ _ c.requires.2 c.requires.3
