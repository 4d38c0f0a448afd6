use mathlib.Core.Path.{sym, ap, ◌∙◌}
use Rattle.recurrence.specs.declared.Interval.{Interval}
use Rattle.local_times.proofs.InstantLaws.{candidate-fits}
use Rattle.local_times.proofs.WayLaws.{tail_none, tail-some, tail-other}
use Rattle.local_times.proofs.tail_candidate.Goals as goal

pub returns-then-t-eq0 : goal.returns-then-t-eq0
returns-then-t-eq0 c = tail_none _ _ _ _ c.candidate-t.ensures c.if-t-eq0.true

pub look_up-x-requires : goal.look_up-x-requires
look_up-x-requires c = ((candidate-fits _ _ _ _ _ (sym c.candidate-t.ensures) c.if-t-eq0.false).finite-is, c.requires.1)

pub returns-then-x-wall : goal.returns-then-x-wall
returns-then-x-wall c = tail-some _ _ _ _ c.candidate-t.ensures c.if-t-eq0.false (ap (λ (x : Interval). x.wall) (sym c.look_up-x.ensures) ∙ c.if-x-wall.true)

pub returns : goal.returns
returns c = tail-other _ _ _ _ c.candidate-t.ensures c.if-t-eq0.false (λ e. c.if-x-wall.false (ap (λ (x : Interval). x.wall) c.look_up-x.ensures ∙ e))
