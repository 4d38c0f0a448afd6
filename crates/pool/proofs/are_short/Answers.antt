use mathlib.Core.Path.{refl}
use Rattle.base.proofs.Tests.{never}
use Rattle.pool.proofs.are_short.Goals as goal

pub returns-then-left-lt4 : goal.returns-then-left-lt4
returns-then-left-lt4 c e = never e refl

pub returns-then-plain-lt512 : goal.returns-then-plain-lt512
returns-then-plain-lt512 c e = never e refl

pub returns-then-plain-at : goal.returns-then-plain-at
returns-then-plain-at c e = never e refl
