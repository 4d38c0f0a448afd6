use native.Mathlib.Omega.{arith}
use Rattle.zone_fronts.proofs.ShortLaws.{size-one, size-two, no_size}
use Rattle.zone_fronts.proofs.id_size.Goals as goal

pub returns-then-s-lt128 : goal.returns-then-s-lt128
returns-then-s-lt128 c = size-one _ c.requires c.if-s-lt128.true

pub returns-then-s-eq0 : goal.returns-then-s-eq0
returns-then-s-eq0 c = no_size _ c.requires

pub returns-then-s-gt127 : goal.returns-then-s-gt127
returns-then-s-gt127 c = no_size _ c.requires

pub returns : goal.returns
returns c = size-two _ c.requires c.if-s-lt128.false c.if-s-eq0.false (omega (arith, c.if-s-gt127.false))
