use native.Mathlib.Omega.{arith}
use mathlib.Core.Path.{sym, ap, ◌∙◌}
use Rattle.frames.specs.Machine.{Out}
use Rattle.frames.specs.Mapped.{map_out}
use Rattle.locate.specs.Asked.{Held, held, of_held}
use Rattle.locate.proofs.WalkingLaws.{first-pool, first-fault, first_short, first-over}
use Rattle.questions.specs.Question.{answer_at}
use Rattle.questions.specs.View.{outcome_of}
use Rattle.named_fields.specs.Named.{Known, nothing, naming}
use Rattle.named_questions.proofs.WalkingLaws.{pool-walk}
use Rattle.named_questions.proofs.AskLaws.{out-walk, out-refused, out-cut, out-end}
use Rattle.named_questions.proofs.ask_at.Goals as goal

pub slice_bounds-room-count : goal.slice_bounds-room-count
slice_bounds-room-count c = (first-pool c.read_first.ensures _ _ c.in-Pool.is).lies.order

pub slice_bounds-room-start : goal.slice_bounds-room-start
slice_bounds-room-start c = (first-pool c.read_first.ensures _ _ c.in-Pool.is).lies.order

pub slice_bounds-room-end : goal.slice_bounds-room-end
slice_bounds-room-end c = (first-pool c.read_first.ensures _ _ c.in-Pool.is).lies.inside

pub ask_short-requires : goal.ask_short-requires
ask_short-requires c = ((first-pool c.read_first.ensures _ _ c.in-Pool.is).lies, omega (arith, c.room.ensures), c.requires)

pub returns-then-room-le256 : goal.returns-then-room-le256
returns-then-room-le256 c = out-walk _ _ _ _ _ (c.ask_short.ensures ∙ ap (λ (o : Out Known Held). outcome_of (map_out (of_held (answer_at c.args.edition c.args.t)) o)) (sym (pool-walk (first-pool c.read_first.ensures _ _ c.in-Pool.is) _)))

pub ask_long-requires : goal.ask_long-requires
ask_long-requires c = ((first-pool c.read_first.ensures _ _ c.in-Pool.is).lies, c.requires)

pub returns-in-Refused : goal.returns-in-Refused
returns-in-Refused c = out-refused _ _ _ _ _ _ (first-fault c.read_first.ensures (naming held _) nothing _ _ c.in-Refused.is)

pub returns-in-Cut : goal.returns-in-Cut
returns-in-Cut c = out-cut _ _ _ _ _ (first_short c.read_first.ensures (naming held _) nothing _ c.in-Cut.is)

pub returns-in-End : goal.returns-in-End
returns-in-End c = out-end _ _ _ _ _ _ (first-over c.read_first.ensures (naming held _) nothing _ c.in-End.is)

pub returns-else-room-le256 : goal.returns-else-room-le256
returns-else-room-le256 c = out-walk _ _ _ _ _ (c.ask_long.ensures ∙ ap (λ (o : Out Known Held). outcome_of (map_out (of_held (answer_at c.args.edition c.args.t)) o)) (sym (pool-walk (first-pool c.read_first.ensures _ _ c.in-Pool.is) _)))
