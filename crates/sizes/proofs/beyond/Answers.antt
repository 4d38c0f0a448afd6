use Rattle.frames.proofs.ReadLaws.{far, near}
use Rattle.sizes.proofs.beyond.Goals as goal

pub returns-then-at-gt-LARGEST : goal.returns-then-at-gt-LARGEST
returns-then-at-gt-LARGEST c = far _ _ c.if-at-gt-LARGEST.true

pub returns : goal.returns
returns c = near _ _ c.if-at-gt-LARGEST.false
