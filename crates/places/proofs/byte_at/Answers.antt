use native.Mathlib.Omega.{arith}
use Rattle.places.proofs.PlaceLaws.{byte-none, byte-some}
use Rattle.places.proofs.byte_at.Goals as goal

pub returns-then-s-at : goal.returns-then-s-at
returns-then-s-at c = byte-none _ _ c.if-s-at.true

pub overflow_cast-result : goal.overflow_cast-result
overflow_cast-result c = omega (arith, c.shared_slice_known-1.given c.args.at)

pub returns : goal.returns
returns c = byte-some _ _ (omega arith)
