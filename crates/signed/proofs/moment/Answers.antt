use mathlib.Core.Path.{◌≡◌, ap, ◌∙◌}
use borrow.Author.Tests.{eq-eqb, ne_eqb}
use mir.Facts.{to_z-of_z}
use Rattle.signed.specs.Instant.{or_none, moment_of}
use Rattle.signed.proofs.IntegerLaws.{start-of, end-of, no-mark}
use Rattle.signed.proofs.moment.Goals as goal
use Rattle.signed.proofs.moment.Goals.{After-instant-b}

-- between the marks
rest : (c : goal.After-instant-b) → or_none c.instant-b.result ≡ moment_of c.args.t
rest c =
    let h = c.ranges.t in
    ap or_none (rw (to_z-of_z h) at c.instant-b.ensures)
    ∙ no-mark c.args.t (rw (to_z-of_z h) at c.if-t-ltminus9223372036854775807.false) (rw (to_z-of_z h) at c.if-t-gt9223372036854775806.false)

pub returns-then-t-ltminus9223372036854775807 : goal.returns-then-t-ltminus9223372036854775807
returns-then-t-ltminus9223372036854775807 c = start-of _ c.ranges.t (rw (to_z-of_z c.ranges.t) at c.if-t-ltminus9223372036854775807.true)

pub returns-then-t-gt9223372036854775806 : goal.returns-then-t-gt9223372036854775806
returns-then-t-gt9223372036854775806 c = end-of _ (rw (to_z-of_z c.ranges.t) at c.if-t-gt9223372036854775806.true)

pub returns-then-b-eq0 : goal.returns-then-b-eq0
returns-then-b-eq0 c = rw (eq-eqb _ _ c.if-b-eq0.true) at (rest (goal.at.returns-then-b-eq0 c).After-instant-b)

pub returns : goal.returns
returns c = rw (ne_eqb _ _ c.if-b-eq0.false) at (rest (goal.at.returns c).After-instant-b)
