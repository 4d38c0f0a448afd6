use native.Mathlib.Omega.{arith}
use Rattle.ids.proofs.GapLaws.{buffer-run, buffer-seen, to-buffer, main-seen, from-main, main-free}
use Rattle.unordered_keys.proofs.KeyLaws.{keys-few}
use Rattle.unordered_keys.proofs.find_gap.Goals as goal

pub find-p-requires : goal.find-p-requires
find-p-requires c = (c.requires.inside, buffer-run _ _ _ c.requires.sorted (keys-few c.requires.inside))

pub bounds-order-256 : goal.bounds-order-256
bounds-order-256 c = omega (arith, c.requires.sorted.room)

pub find_between-g-requires : goal.find_between-g-requires
find_between-g-requires c = (c.requires, to-buffer _ _ _ c.requires.sorted (keys-few c.requires.inside) _ _ c.find-p.ensures _ c.in-Free.is)

pub overflow_sub-result : goal.overflow_sub-result
overflow_sub-result c = from-main _ _ _ c.requires.sorted (keys-few c.requires.inside) _ _ c.find-p.ensures _ c.in-Free.is _ c.find_between-g.ensures _ c.in-Free-g.is

pub returns-in-Seen : goal.returns-in-Seen
returns-in-Seen c = buffer-seen _ _ _ c.requires.sorted (keys-few c.requires.inside) _ _ c.find-p.ensures _ c.in-Seen.is

pub returns-in-Seen-g : goal.returns-in-Seen-g
returns-in-Seen-g c = main-seen _ _ _ c.requires.sorted (keys-few c.requires.inside) _ _ c.find-p.ensures _ c.in-Free.is _ c.find_between-g.ensures _ c.in-Seen-g.is

pub returns-in-Free-g : goal.returns-in-Free-g
returns-in-Free-g c = main-free _ _ _ c.requires.sorted (keys-few c.requires.inside) _ _ c.find-p.ensures _ c.in-Free.is _ c.find_between-g.ensures _ c.in-Free-g.is
