use native.Mathlib.Omega.{arith}
use Rattle.closed_walks.proofs.size_at.Goals as goal

pub overflow_cast-result : goal.overflow_cast-result
overflow_cast-result c = omega (arith, c.shared_slice_known-then-j-sizes-1.given c.args.j)

pub returns-then-j-sizes : goal.returns-then-j-sizes
returns-then-j-sizes c = c.requires.4.same c.if-j-sizes.true
