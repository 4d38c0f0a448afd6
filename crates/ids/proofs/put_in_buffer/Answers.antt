use native.Mathlib.Omega.{arith}
use Rattle.ids.proofs.BufferLaws.{inserted-buffered}
use Rattle.ids.proofs.put_in_buffer.Goals as goal

pub shape_of-order : goal.shape_of-order
shape_of-order c = (inserted-buffered _ _ _ _ _ _ _ (omega arith) (omega arith) c.requires.0 c.insert.ensures c.insert-2.ensures).room

pub returns : goal.returns
returns c = inserted-buffered _ _ _ _ _ _ _ (omega arith) (omega arith) c.requires.0 c.insert.ensures c.insert-2.ensures
