use Rattle.rewrite.proofs.OutcomeLaws.{only-checked}
use Rattle.normalizing.proofs.normalize.Goals as goal

pub returns-then-out-lt4 : goal.returns-then-out-lt4
returns-then-out-lt4 c = only-checked _ _ c.if-out-lt4.true _ c.check_only.ensures

pub returns-then-room-le256 : goal.returns-then-room-le256
returns-then-room-le256 c = c.normalize_short.ensures

pub returns : goal.returns
returns c = c.normalize_long.ensures
