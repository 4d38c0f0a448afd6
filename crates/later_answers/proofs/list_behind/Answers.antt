use native.Mathlib.Omega.{arith}
use Rattle.later_answers.proofs.list_behind.Goals as goal

pub list_short-requires : goal.list_short-requires
list_short-requires c = (c.requires.0, c.requires.1, omega (arith, c.if-room-le256.true, rw c.lent.ensures at c.room.ensures))
