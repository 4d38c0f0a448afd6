use mathlib.Core.Path.{refl}
use Rattle.places.proofs.LongLaws.{hours-past, hours-are}
use Rattle.places.proofs.hours_after.Goals as goal

pub returns-then-t-gt-LAST : goal.returns-then-t-gt-LAST
returns-then-t-gt-LAST c = hours-past _ _ _ c.requires.0 refl c.requires.1 c.requires.2 c.if-t-gt-LAST.true

pub returns : goal.returns
returns c = hours-are _ _ _ c.requires.0 refl c.requires.1 c.requires.2 c.if-t-gt-LAST.false
