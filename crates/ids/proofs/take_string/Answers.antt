use native.Mathlib.Omega.{arith}
use Rattle.pool.proofs.StringLaws.{below}
use Rattle.ids.proofs.MemoryLaws.{taken-seen, found-gap, new-room, taken-new}
use Rattle.ids.proofs.take_string.Goals as goal

pub overflow_cast-k : goal.overflow_cast-k
overflow_cast-k c = omega (arith, below c.args.pool.now _ c.requires.2)

pub put-requires : goal.put-requires
put-requires c = (c.requires.1.roomy, (found-gap _ _ _ _ _ c.text_by.ensures _ c.find_gap-g.ensures _ _ c.in-New.is).0, below c.args.pool.now _ (new-room _ _ _ _ _ c.text_by.ensures _ c.find_gap-g.ensures _ _ c.in-New.is c.requires.1 c.requires.2), omega (arith, new-room _ _ _ _ _ c.text_by.ensures _ c.find_gap-g.ensures _ _ c.in-New.is c.requires.1 c.requires.2, c.requires.1.room))

pub returns-in-Known : goal.returns-in-Known
returns-in-Known c = taken-seen _ _ _ _ _ c.text_by.ensures _ c.find_gap-g.ensures _ c.in-Known.is

pub returns-in-New : goal.returns-in-New
returns-in-New c = taken-new _ _ _ _ _ _ c.requires.1 (found-gap _ _ _ _ _ c.text_by.ensures _ c.find_gap-g.ensures _ _ c.in-New.is).1 c.put.ensures c.requires.2
