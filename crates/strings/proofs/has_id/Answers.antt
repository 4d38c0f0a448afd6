use Rattle.base.proofs.EqualLaws.{lengths_differ}
use Rattle.strings.proofs.SameLaws.{byte-differs}
use Rattle.strings.proofs.has_id.Goals as goal

pub returns-then-n-id : goal.returns-then-n-id
returns-then-n-id c = rw (← c.text_by-t.ensures) (lengths_differ _ _ c.if-n-id.true)

pub returns-then-t-n : goal.returns-then-t-n
returns-then-t-n c = rw (← c.text_by-t.ensures) (byte-differs _ _ _ c.if-t-n.true)

pub returns : goal.returns
returns c = rw (← c.text_by-t.ensures) c.same_by_blocks.ensures
