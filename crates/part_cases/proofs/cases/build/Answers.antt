use mathlib.Core.Path.{sym}
use native.Mathlib.Omega.{arith}
use lib.Seq.{length-take-le}
use Rattle.part_cases.proofs.cases.build.Goals as goal

pub returns : goal.returns
returns c = record { bound = omega arith; taken = sym (length-take-le _ _ (omega arith)) }
