use native.Mathlib.Omega.{arith}
use mir.Facts.{to_z-of_z}
use Rattle.signed.proofs.IntegerLaws.{less-fits, less-is}
use Rattle.signed.proofs.milliseconds.Goals as goal

pub overflow_sub-result : goal.overflow_sub-result
overflow_sub-result c = rw (less-is c.args.sum 86400000 (omega arith) (omega arith) (omega arith)) (less-fits c.args.sum 86400000 (omega arith) (omega arith))

pub returns : goal.returns
returns c = rw (less-is c.args.sum 86400000 (omega arith) (omega arith) (omega arith)) (to_z-of_z (less-fits c.args.sum 86400000 (omega arith) (omega arith)))
