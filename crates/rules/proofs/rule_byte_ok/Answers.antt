use borrow.Author.Tests.{le-leb, lt-leb}
use Rattle.rules.specs.Fields.{byte_ok}
use Rattle.rules.proofs.rule_byte_ok.Goals as goal

pub returns-then-b-gt127 : goal.returns-then-b-gt127
unfolding byte_ok
returns-then-b-gt127 c = simp (lt-leb _ _ c.if-b-gt127.true)

pub returns : goal.returns
unfolding byte_ok
returns c = simp (le-leb _ _ c.if-b-gt127.false)
