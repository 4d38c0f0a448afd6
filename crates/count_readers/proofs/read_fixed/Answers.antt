use Rattle.std.specs.Prelude.{Ok}
use borrow.Author.Tests.{le-leb, lt-leb}
use mathlib.Core.Path.{ap}
use Prim.Native.Nat.{ℕ}
use Rattle.count_readers.proofs.read_fixed.Goals as goal

pub returns-then-s-n : goal.returns-then-s-n
returns-then-s-n c = rw (lt-leb _ _ c.if-s-n.true)

pub returns : goal.returns
returns c = rw (le-leb _ _ c.if-s-n.false) (ap (λ (v : ℕ). Ok (v, c.args.n)) c.fixed_from.ensures)
