use mathlib.Core.Path.{sym, ap, ◌∙◌}
use Rattle.answers.specs.Answers.{no_pool}
use Rattle.locate.specs.Asked.{holder}
use Rattle.locate.proofs.WalkingLaws.{first-pool, first-fault, first_short, first-over, pool-walk}
use Rattle.questions.specs.View.{outcome_at}
use Rattle.questions.proofs.OutcomeLaws.{out-refused, out-cut, out-end, out-walk}
use Rattle.questions.proofs.ask_at.Goals as goal

pub ask_by_room-requires : goal.ask_by_room-requires
ask_by_room-requires c = ((first-pool c.read_first.ensures _ _ c.in-Pool.is).lies, c.requires)

pub returns-in-Refused : goal.returns-in-Refused
returns-in-Refused c = out-walk _ _ _ _ _ (out-refused _ _ _ _ _ (first-fault c.read_first.ensures (holder _) no_pool _ _ c.in-Refused.is))

pub returns-in-Cut : goal.returns-in-Cut
returns-in-Cut c = out-walk _ _ _ _ _ (out-cut _ _ _ _ (first_short c.read_first.ensures (holder _) no_pool _ c.in-Cut.is))

pub returns-in-End : goal.returns-in-End
returns-in-End c = out-walk _ _ _ _ _ (out-end _ _ _ _ _ (first-over c.read_first.ensures (holder _) no_pool _ c.in-End.is))

pub returns-in-Pool : goal.returns-in-Pool
returns-in-Pool c = out-walk _ _ _ _ _ (c.ask_by_room.ensures ∙ ap (outcome_at c.args.edition c.args.t) (sym (pool-walk (first-pool c.read_first.ensures _ _ c.in-Pool.is) _)))
