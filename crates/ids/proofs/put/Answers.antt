use native.Mathlib.Omega.{arith}
use mathlib.Core.Path.{refl}
use Rattle.ids.proofs.PutLaws.{added-last, full-placed, added-buffered, added-merged}
use Rattle.ids.proofs.put.Goals as goal

pub returns-then-i-n : goal.returns-then-i-n
returns-then-i-n c = added-last _ _ _ _ _ c.requires.0 c.requires.1 c.requires.3 c.if-b-eq0.true c.if-i-n.true

pub merge-requires : goal.merge-requires
merge-requires c = (omega (arith, c.put_in_buffer.ensures.room, c.requires.3, c.requires.0.placed.inside), full-placed _ _ _ _ _ c.requires.0 c.requires.1 c.requires.3 _ refl _ c.put_in_buffer.ensures c.if-b-eq127.true, omega (arith, c.requires.0.placed.inside, c.requires.2))

pub returns-then-b-eq127 : goal.returns-then-b-eq127
returns-then-b-eq127 c = added-merged _ _ _ _ _ c.requires.0 c.requires.1 c.requires.3 _ refl _ c.put_in_buffer.ensures _ c.if-b-eq127.true c.merge.ensures

pub returns-else-b-eq127 : goal.returns-else-b-eq127
returns-else-b-eq127 c = added-buffered _ _ _ _ _ c.requires.0 c.requires.1 c.requires.3 _ refl _ c.put_in_buffer.ensures c.if-b-eq127.false
