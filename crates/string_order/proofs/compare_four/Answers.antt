use native.Mathlib.Omega.{arith}
use Rattle.string_order.proofs.OrderLaws.{four-less, four-greater, four-equal}
use Rattle.string_order.proofs.compare_four.Goals as goal

pub returns-then-x-y : goal.returns-then-x-y
returns-then-x-y c = four-equal _ _ _ _ _ _ _ _ (omega arith) (omega arith) (omega arith) (omega arith) (omega arith) (omega arith) (omega arith)

pub returns-then-x-y-2 : goal.returns-then-x-y-2
returns-then-x-y-2 c = four-less _ _ _ _ _ _ _ _ (omega arith) (omega arith) (omega arith) (omega arith) (omega arith) (omega arith) (omega arith)

pub returns : goal.returns
returns c = four-greater _ _ _ _ _ _ _ _ (omega arith) (omega arith) (omega arith) (omega arith) (omega arith) (omega arith) (omega arith)
