use borrow.Author.Tests.{eq-eqb, ne_eqb}
use Rattle.location_reads.proofs.kept.Goals as goal

pub returns-then-i-number : goal.returns-then-i-number
returns-then-i-number c = rw (eq-eqb _ _ c.if-i-number.true)

pub returns : goal.returns
returns c = rw (ne_eqb _ _ c.if-i-number.false)
