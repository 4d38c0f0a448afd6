use native.Mathlib.Omega.{arith}
use Rattle.ids.proofs.GapLaws.{low-few, high-few, main-run}
use Rattle.unordered_keys.proofs.KeyLaws.{keys-few}
use Rattle.unordered_keys.proofs.find_between.Goals as goal

pub bounds-order-256 : goal.bounds-order-256
bounds-order-256 c = omega (arith, c.requires.0.sorted.room)

pub overflow_add-lo : goal.overflow_add-lo
overflow_add-lo c = omega (arith, c.low-lo.ensures, low-few _ _ _ c.requires.0.sorted (keys-few c.requires.0.inside) _ c.requires.1)

pub overflow_add-hi : goal.overflow_add-hi
overflow_add-hi c = omega (arith, c.high-hi.ensures, high-few _ _ _ c.requires.0.sorted (keys-few c.requires.0.inside) _ c.requires.1)

pub low-lo-requires : goal.low-lo-requires
low-lo-requires c = (omega (arith, c.requires.0.sorted.room), omega (arith, c.requires.0.sorted.roomy.free), low-few _ _ _ c.requires.0.sorted (keys-few c.requires.0.inside) _ c.requires.1)

pub high-hi-requires : goal.high-hi-requires
high-hi-requires c = (omega (arith, c.requires.0.sorted.room), c.requires.1, omega (arith, c.requires.0.sorted.roomy.free), high-few _ _ _ c.requires.0.sorted (keys-few c.requires.0.inside) _ c.requires.1)

pub find-requires : goal.find-requires
find-requires c = (c.requires.0.inside, rw (c.low-lo.ensures, c.high-hi.ensures) (main-run _ _ _ c.requires.0.sorted (keys-few c.requires.0.inside) _ c.requires.1))

pub returns : goal.returns
returns c = rw (c.low-lo.ensures, c.high-hi.ensures) at c.find.ensures
