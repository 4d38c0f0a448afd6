use mathlib.Core.Path.{◌≡◌, ap, subst⁻¹}
use native.Mathlib.Omega.{arith}
use mir.Facts.{to_z-of_z}
use Rattle.answer_tables.specs.Table.{ask_listed}
use Rattle.replies.proofs.ReplyLaws.{gives_as}
use Rattle.zone_replies.specs.Zones.{zone_by}
use Rattle.file_replies.specs.Small.{SmallAnswer}
use Rattle.file_replies.specs.Functions.{edition_of, answer_reply}
use Rattle.capi.proofs.ZoneLaws.{table-small}
use Rattle.capi.proofs.nzd_ask_listed.Goals as goal
use Rattle.capi.proofs.nzd_ask_listed.Goals.{After-give_answer-arg-1}

asked : (c : goal.After-give_answer-arg-1) → c.ask_listed-a.result ≡ ask_listed c.args.file.now (zone_by c.args.zone.now) c.args.rows.now c.args.ticks (edition_of c.args.first)
asked c = rw (to_z-of_z c.ranges.ticks, c.zone_by-v.ensures, c.edition_of-edition.ensures) at c.ask_listed-a.ensures

pub give_answer-requires : goal.give_answer-requires
give_answer-requires c = subst⁻¹ SmallAnswer (asked c) (table-small _ _ _ _ _ (omega (arith, c.well_formed.0.1)))

pub returns : goal.returns
returns c = gives_as _ _ _ _ _ (ap answer_reply (asked (goal.at.returns c).After-give_answer-arg-1)) c.give_answer.ensures
