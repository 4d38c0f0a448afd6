use mathlib.Core.Path.{sym}
use Rattle.utf8.proofs.AsciiLaws.{ascii-utf8, all-front}
use Rattle.utf8.proofs.is_utf8.Goals as goal

pub returns-then-ascii_front-s : goal.returns-then-ascii_front-s
returns-then-ascii_front-s c = sym (ascii-utf8 _ (all-front _ _ c.ascii_front.ensures c.if-ascii_front-s.true))
