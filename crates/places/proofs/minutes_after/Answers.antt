use mathlib.Core.Path.{refl}
use Rattle.places.proofs.LongLaws.{minutes-are, minutes-before}
use Rattle.places.proofs.minutes_after.Goals as goal

pub returns-then-prev-t : goal.returns-then-prev-t
returns-then-prev-t c = minutes-are _ _ _ c.requires.0 refl c.requires.1 c.requires.2 c.if-prev-t.true

pub returns : goal.returns
returns c = minutes-before _ _ _ c.requires.0 refl c.requires.1 c.requires.2 c.if-prev-t.false
