use mathlib.Core.Path.{◌≡◌, ap, subst⁻¹}
use native.Mathlib.Omega.{arith}
use mir.Facts.{to_z-of_z}
use Rattle.found_zones.specs.FoundZone.{ask_zone}
use Rattle.replies.proofs.ReplyLaws.{gives_as}
use Rattle.zone_replies.specs.Zones.{zone_by}
use Rattle.file_replies.specs.Small.{SmallAnswer}
use Rattle.file_replies.specs.Functions.{edition_of, answer_reply}
use Rattle.capi.proofs.ZoneLaws.{zone-small}
use Rattle.capi.proofs.nzd_ask_zone.Goals as goal
use Rattle.capi.proofs.nzd_ask_zone.Goals.{After-give_answer-arg-1}

asked : (c : goal.After-give_answer-arg-1) → c.ask_zone-a.result ≡ ask_zone c.args.file.now (zone_by c.args.zone.now) c.args.ticks (edition_of c.args.first)
asked c = rw (to_z-of_z c.ranges.ticks, c.zone_by-v.ensures, c.edition_of-edition.ensures) at c.ask_zone-a.ensures

pub give_answer-requires : goal.give_answer-requires
give_answer-requires c = subst⁻¹ SmallAnswer (asked c) (zone-small _ _ _ _ (omega (arith, c.well_formed.0.1)))

pub returns : goal.returns
returns c = gives_as _ _ _ _ _ (ap answer_reply (asked (goal.at.returns c).After-give_answer-arg-1)) c.give_answer.ensures
