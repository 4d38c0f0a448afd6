use Rattle.places.proofs.ShortLaws.{half-none, half-some}
use Rattle.places.proofs.half_hours.Goals as goal

pub returns-then-b-eq0 : goal.returns-then-b-eq0
returns-then-b-eq0 c = half-none _ c.if-b-eq0.true

pub returns : goal.returns
returns c = half-some _ c.if-b-eq0.false
