use Rattle.field_checks.proofs.WellFormedLaws.{none_seen}
use Rattle.field_readers.proofs.ConclusionLaws.{text-seen, text-unseen}
use Rattle.field_readers.proofs.conclude.Goals as goal

pub returns-then-at-eq4 : goal.returns-then-at-eq4
returns-then-at-eq4 c = none_seen _ _ c.if-at-eq4.true

pub returns-then-k-ne0 : goal.returns-then-k-ne0
returns-then-k-ne0 c = text-seen c.args.k _ c.if-at-eq4.false c.if-k-ne0.true

pub returns : goal.returns
returns c = text-unseen c.args.k _ c.if-at-eq4.false c.if-k-ne0.false
