use native.Mathlib.Omega.{arith}
use Prim.Native.Nat.{◌+◌}
use Rattle.locate.specs.View.{Lies}
use Rattle.locate.proofs.WalkingLaws.{pool-end, pool-cut, pool-refused, pool-version, pool-lies, pool-found}
use Rattle.first_fields.proofs.read_pool.Goals as goal
use Rattle.first_fields.proofs.read_pool.Goals.{In-Whole}

-- field 0 lies within the bytes
lies : (c : goal.In-Whole) → Lies c.args.s.now (4 + c.in-Whole.h) (4 + c.in-Whole.h + c.in-Whole.n)
lies c = pool-lies _ c.requires.1 _ c.read_frame.ensures _ _ _ c.in-Whole.is

pub overflow_add-d : goal.overflow_add-d
overflow_add-d c = omega (arith, lies c)

pub overflow_add-result : goal.overflow_add-result
overflow_add-result c = omega (arith, lies c)

pub returns-in-End : goal.returns-in-End
returns-in-End c = pool-end _ c.requires.1 _ c.read_frame.ensures c.in-End.is

pub returns-in-Cut : goal.returns-in-Cut
returns-in-Cut c = pool-cut _ c.requires.1 _ c.read_frame.ensures c.in-Cut.is

pub returns-in-Refused : goal.returns-in-Refused
returns-in-Refused c = pool-refused _ c.requires.1 _ c.read_frame.ensures _ c.in-Refused.is

pub returns-in-Version : goal.returns-in-Version
returns-in-Version c = pool-version c.args.s.now c.requires.1 _ c.read_frame.ensures c.in-Version.is

pub returns-in-Whole : goal.returns-in-Whole
returns-in-Whole c = pool-found _ c.requires.1 _ c.read_frame.ensures _ _ _ c.in-Whole.is
