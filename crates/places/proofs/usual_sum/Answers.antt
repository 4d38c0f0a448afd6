use Rattle.places.proofs.UsualLaws.{other, half-hours-at}
use Rattle.places.proofs.usual_sum.Goals as goal

pub returns-then-s-at-lt96 : goal.returns-then-s-at-lt96
returns-then-s-at-lt96 c = half-hours-at _ _ c.requires c.if-s-at-lt96.true

pub returns-then-s-at-lt128 : goal.returns-then-s-at-lt128
returns-then-s-at-lt128 c = other _ _

pub returns-then-s-at-gt223 : goal.returns-then-s-at-gt223
returns-then-s-at-gt223 c = other _ _

pub returns-then-s-at-lt4 : goal.returns-then-s-at-lt4
returns-then-s-at-lt4 c = other _ _
