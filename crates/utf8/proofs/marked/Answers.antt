use borrow.Author.Tests.{lt-ltb, le-ltb}
use Rattle.utf8.proofs.marked.Goals as goal

pub returns-then-b-lt128 : goal.returns-then-b-lt128
returns-then-b-lt128 c = rw (lt-ltb c.args.b 0x80 c.if-b-lt128.true)

pub returns-else-b-lt128 : goal.returns-else-b-lt128
returns-else-b-lt128 c = rw (le-ltb c.args.b 0x80 c.if-b-lt128.false)
