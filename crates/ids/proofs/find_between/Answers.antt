use native.Mathlib.Omega.{arith}
use Rattle.ids.proofs.MemoryLaws.{sorted-few}
use Rattle.ids.proofs.GapLaws.{low-few, high-few, main-run}
use Rattle.ids.proofs.find_between.Goals as goal

pub bounds-order-256 : goal.bounds-order-256
bounds-order-256 c = omega (arith, c.requires.1.room)

pub overflow_add-low : goal.overflow_add-low
overflow_add-low c = omega (arith, c.low.ensures, low-few _ _ _ c.requires.1 (sorted-few _ _ _ c.requires.1) _ c.requires.2)

pub overflow_add-high : goal.overflow_add-high
overflow_add-high c = omega (arith, c.high.ensures, high-few _ _ _ c.requires.1 (sorted-few _ _ _ c.requires.1) _ c.requires.2)

pub low-requires : goal.low-requires
low-requires c = (omega (arith, c.requires.1.room), omega (arith, c.requires.1.roomy.free), low-few _ _ _ c.requires.1 (sorted-few _ _ _ c.requires.1) _ c.requires.2)

pub high-requires : goal.high-requires
high-requires c = (omega (arith, c.requires.1.room), c.requires.2, omega (arith, c.requires.1.roomy.free), high-few _ _ _ c.requires.1 (sorted-few _ _ _ c.requires.1) _ c.requires.2)

pub find-requires : goal.find-requires
find-requires c = (c.requires.0, rw (c.low.ensures, c.high.ensures) (main-run _ _ _ c.requires.1 (sorted-few _ _ _ c.requires.1) _ c.requires.2))

pub returns : goal.returns
returns c = rw (c.low.ensures, c.high.ensures) at c.find.ensures
