use mathlib.Core.Path.{◌≡◌}
use mir.Facts.{to_z-of_z}
use borrow.Author.Tests.{eq-eqb, ne_eqb}
use Rattle.signed.specs.Instant.{instant_of}
use Rattle.replies.specs.Functions.{moment_of}
use Rattle.moment_replies.proofs.moment_of.Goals as goal
use Rattle.moment_replies.proofs.moment_of.Goals.{After-instant-t}

tick : (c : goal.After-instant-t) → c.instant-t.result ≡ instant_of c.args.ticks
tick c = rw (to_z-of_z c.ranges.ticks) at c.instant-t.ensures

pub returns-then-kind-eq0 : goal.returns-then-kind-eq0
unfolding moment_of
returns-then-kind-eq0 c = rw (eq-eqb c.args.kind 0 c.if-kind-eq0.true)

pub returns-then-kind-eq1 : goal.returns-then-kind-eq1
unfolding moment_of
returns-then-kind-eq1 c = rw (ne_eqb c.args.kind 0 c.if-kind-eq0.false, eq-eqb c.args.kind 1 c.if-kind-eq1.true)

pub returns-then-t-eq0 : goal.returns-then-t-eq0
unfolding moment_of
returns-then-t-eq0 c = rw (ne_eqb c.args.kind 0 c.if-kind-eq0.false, ne_eqb c.args.kind 1 c.if-kind-eq1.false, eq-eqb c.args.kind 2 c.if-kind-eq2.true, ← tick (goal.at.returns-then-t-eq0 c).After-instant-t, eq-eqb c.instant-t.result 0 c.if-t-eq0.true)

pub returns-then-kind-eq2 : goal.returns-then-kind-eq2
unfolding moment_of
returns-then-kind-eq2 c = rw (ne_eqb c.args.kind 0 c.if-kind-eq0.false, ne_eqb c.args.kind 1 c.if-kind-eq1.false, eq-eqb c.args.kind 2 c.if-kind-eq2.true, ← tick (goal.at.returns-then-kind-eq2 c).After-instant-t, ne_eqb c.instant-t.result 0 c.if-t-eq0.false)

pub returns : goal.returns
unfolding moment_of
returns c = rw (
  ne_eqb c.args.kind 0 c.if-kind-eq0.false,
  ne_eqb c.args.kind 1 c.if-kind-eq1.false,
  ne_eqb c.args.kind 2 c.if-kind-eq2.false,
)
