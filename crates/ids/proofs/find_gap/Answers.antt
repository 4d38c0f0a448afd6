use native.Mathlib.Omega.{arith}
use Rattle.ids.proofs.MemoryLaws.{sorted-few}
use Rattle.ids.proofs.GapLaws.{buffer-run, buffer-seen, to-buffer, main-seen, from-main, main-free}
use Rattle.ids.proofs.find_gap.Goals as goal

pub find-p-requires : goal.find-p-requires
find-p-requires c = (c.requires.0, buffer-run _ _ _ c.requires.1 (sorted-few _ _ _ c.requires.1))

pub bounds-order-256 : goal.bounds-order-256
bounds-order-256 c = omega (arith, c.requires.1.room)

pub find_between-g-requires : goal.find_between-g-requires
find_between-g-requires c = (c.requires.0, c.requires.1, to-buffer _ _ _ c.requires.1 (sorted-few _ _ _ c.requires.1) _ _ c.find-p.ensures _ c.in-Free.is)

pub overflow_sub-result : goal.overflow_sub-result
overflow_sub-result c = from-main _ _ _ c.requires.1 (sorted-few _ _ _ c.requires.1) _ _ c.find-p.ensures _ c.in-Free.is _ c.find_between-g.ensures _ c.in-Free-g.is

pub returns-in-Seen : goal.returns-in-Seen
returns-in-Seen c = buffer-seen _ _ _ c.requires.1 (sorted-few _ _ _ c.requires.1) _ _ c.find-p.ensures _ c.in-Seen.is

pub returns-in-Seen-g : goal.returns-in-Seen-g
returns-in-Seen-g c = main-seen _ _ _ c.requires.1 (sorted-few _ _ _ c.requires.1) _ _ c.find-p.ensures _ c.in-Free.is _ c.find_between-g.ensures _ c.in-Seen-g.is

pub returns-in-Free-g : goal.returns-in-Free-g
returns-in-Free-g c = main-free _ _ _ c.requires.1 (sorted-few _ _ _ c.requires.1) _ _ c.find-p.ensures _ c.in-Free.is _ c.find_between-g.ensures _ c.in-Free-g.is
