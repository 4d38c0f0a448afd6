use native.Mathlib.Omega.{arith}
use Rattle.frames.proofs.SizeLaws.{size-byte}
use Rattle.sizes.proofs.read_size.Goals as goal

pub overflow_cast-b : goal.overflow_cast-b
overflow_cast-b c = omega (arith, c.shared_slice_known-then-r-gt0-1.given 0)

pub returns-then-b-lt128 : goal.returns-then-b-lt128
returns-then-b-lt128 c = size-byte _ c.if-r-gt0.true c.if-b-lt128.true
