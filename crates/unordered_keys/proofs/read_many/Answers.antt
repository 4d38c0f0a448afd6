use native.Mathlib.Omega.{arith}
use Rattle.unordered_keys.proofs.StepLaws.{remembers-none}
use Rattle.unordered_keys.proofs.read_many.Goals as goal

pub read_all-requires : goal.read_all-requires
read_all-requires c = (c.requires, remembers-none _ 8192 8449 (omega arith) (omega arith))

pub returns : goal.returns
returns c = c.read_all.ensures
