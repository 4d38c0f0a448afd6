use Rattle.places.proofs.UsualLaws.{size-one, size-two, size-three, size-four}
use Rattle.places.proofs.usual_size.Goals as goal

pub returns-then-b-lt128 : goal.returns-then-b-lt128
returns-then-b-lt128 c = size-one _ c.if-b-lt128.true

pub returns-then-b-lt160 : goal.returns-then-b-lt160
returns-then-b-lt160 c = size-two _ c.if-b-lt128.false c.if-b-lt160.true

pub returns-then-b-lt192 : goal.returns-then-b-lt192
returns-then-b-lt192 c = size-three _ c.if-b-lt160.false c.if-b-lt192.true

pub returns : goal.returns
returns c = size-four _ c.if-b-lt192.false
