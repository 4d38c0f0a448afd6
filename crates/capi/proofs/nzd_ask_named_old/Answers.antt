use mathlib.Core.Path.{◌≡◌, ap, subst⁻¹}
use native.Mathlib.Omega.{arith}
use mir.Facts.{to_z-of_z}
use Rattle.old_named_questions.specs.OldNamed.{ask_named_old}
use Rattle.replies.proofs.ReplyLaws.{gives_as}
use Rattle.file_replies.specs.Small.{SmallAnswer}
use Rattle.file_replies.specs.Functions.{edition_of, answer_reply}
use Rattle.capi.proofs.OldLaws.{named-old-small}
use Rattle.capi.proofs.nzd_ask_named_old.Goals as goal
use Rattle.capi.proofs.nzd_ask_named_old.Goals.{After-give_answer-arg-1}

asked : (c : goal.After-give_answer-arg-1) → c.ask_named_old-a.result ≡ ask_named_old c.args.file.now c.args.older.now c.args.name.now c.args.ticks (edition_of c.args.first)
asked c = rw (to_z-of_z c.ranges.ticks, c.edition_of-edition.ensures) at c.ask_named_old-a.ensures

pub give_answer-requires : goal.give_answer-requires
give_answer-requires c = subst⁻¹ SmallAnswer (asked c) (named-old-small _ _ _ _ _ (omega (arith, c.well_formed.0.1)))

pub returns : goal.returns
returns c = gives_as _ _ _ _ _ (ap answer_reply (asked (goal.at.returns c).After-give_answer-arg-1)) c.give_answer.ensures
