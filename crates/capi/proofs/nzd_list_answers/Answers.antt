use native.Mathlib.Omega.{arith}
use mir.Facts.{to_z-of_z}
use Rattle.answer_tables.specs.Lists.{ListsAnswers}
use Rattle.zone_replies.specs.Zones.{zone_by}
use Rattle.file_replies.specs.Functions.{edition_of}
use Rattle.capi.proofs.ZoneLaws.{listed_small}
use Rattle.capi.proofs.nzd_list_answers.Goals as goal
use Rattle.capi.proofs.nzd_list_answers.Goals.{After-give_count-arg-1}

listed : (c : goal.After-give_count-arg-1) → ListsAnswers c.args.file.now (zone_by c.args.zone.now) c.args.ticks (edition_of c.args.first) c.args.rows.now c.list_answers-x.result c.list_answers-x.new.rows
listed c = rw (to_z-of_z c.ranges.ticks, c.zone_by-v.ensures, c.edition_of-edition.ensures) at c.list_answers-x.ensures

pub give_count-requires : goal.give_count-requires
give_count-requires c = listed_small _ _ _ _ _ _ _ (omega (arith, c.well_formed.1.1.1.1.0.1)) (listed c)

pub returns : goal.returns
returns c = record { listed = _; lists = listed (goal.at.returns c).After-give_count-arg-1; gives = c.give_count.ensures }
