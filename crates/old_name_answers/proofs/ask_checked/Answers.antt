use Rattle.old_named_questions.specs.OldNamed.{zone_at}
use Rattle.old_named_questions.proofs.FollowLaws.{asked-zone, asked-none}
use Rattle.old_named_questions.proofs.AskLaws.{read-bad, read-sound, first-zone, first-bad, first-follows}
use Rattle.old_name_answers.proofs.ask_checked.Goals as goal

pub follow-requires : goal.follow-requires
follow-requires c = (
  c.requires,
  read-sound _ _ c.read_dictionary.ensures _ _ c.in-Ok.is,
  asked-none _ _ c.zone_at.ensures c.in-None.is,
)

pub returns-in-Some : goal.returns-in-Some
returns-in-Some c = first-zone (zone_at c.args.edition c.args.s.now c.args.t) c.args.older.now c.args.name.now _ (asked-zone _ _ c.zone_at.ensures _ c.in-Some.is)

pub returns-in-Err : goal.returns-in-Err
returns-in-Err c = first-bad (zone_at c.args.edition c.args.s.now c.args.t) c.args.older.now c.args.name.now (asked-none _ _ c.zone_at.ensures c.in-None.is) _ (read-bad _ _ c.read_dictionary.ensures _ c.in-Err.is)

pub returns-in-Ok : goal.returns-in-Ok
returns-in-Ok c = first-follows (zone_at c.args.edition c.args.s.now c.args.t) c.args.older.now c.args.name.now (asked-none _ _ c.zone_at.ensures c.in-None.is) (read-sound _ _ c.read_dictionary.ensures _ _ c.in-Ok.is) _ c.follow.ensures
