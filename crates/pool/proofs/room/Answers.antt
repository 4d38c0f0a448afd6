use native.Mathlib.Omega.{arith}
use Rattle.pool.proofs.CheckLaws.{room-unread, room-large, room-counted}
use Rattle.pool.proofs.room.Goals as goal

pub returns-then-k-le8192 : goal.returns-then-k-le8192
returns-then-k-le8192 c = room-counted _ _ c.read_count-g.ensures _ _ c.in-Ok.is (omega arith)

pub returns-in-Err : goal.returns-in-Err
returns-in-Err c = room-unread _ _ c.read_count-g.ensures _ c.in-Err.is

pub returns-else-k-le8192 : goal.returns-else-k-le8192
returns-else-k-le8192 c = room-large _ _ c.read_count-g.ensures _ _ c.in-Ok.is (omega arith)
