use Rattle.answers.specs.Answers.{no_pool}
use Rattle.locate.specs.Asked.{holder}
use Rattle.locate.proofs.WalkingLaws.{first-pool, first-fault, first_short, first-over, pool-walk}
use Rattle.differences.proofs.FindLaws.{out-refused, out-cut, out-end, out-on, room-in}
use Rattle.file_differences.proofs.find.Goals as goal

pub find_with-requires : goal.find_with-requires
find_with-requires c = ((first-pool c.read_first.ensures _ _ c.in-Pool.is).lies, room-in _ _ c.requires.0, c.requires.1)

pub returns-in-Refused : goal.returns-in-Refused
returns-in-Refused c = out-refused _ _ _ _ _ _ (first-fault c.read_first.ensures (holder _) no_pool _ _ c.in-Refused.is)

pub returns-in-Cut : goal.returns-in-Cut
returns-in-Cut c = out-cut _ _ _ _ _ (first_short c.read_first.ensures (holder _) no_pool _ c.in-Cut.is)

pub returns-in-End : goal.returns-in-End
returns-in-End c = out-end _ _ _ _ _ _ (first-over c.read_first.ensures (holder _) no_pool _ c.in-End.is)

pub returns-in-Pool : goal.returns-in-Pool
returns-in-Pool c = out-on _ _ _ _ _ (pool-walk (first-pool c.read_first.ensures _ _ c.in-Pool.is) _) _ c.find_with.ensures
