use native.Mathlib.Omega.{arith}
use Rattle.ids.proofs.BufferLaws.{shifted-inserted}
use Rattle.ids.proofs.insert.Goals as goal

pub returns : goal.returns
returns c = shifted-inserted _ _ _ _ _ c.shift.ensures (omega arith) (omega arith)
