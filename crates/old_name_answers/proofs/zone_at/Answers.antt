use Rattle.old_named_questions.proofs.AskLaws.{zone-answered, zone-stopped, zone-cut, zone-end}
use Rattle.old_name_answers.proofs.zone_at.Goals as goal

pub returns-in-Answered : goal.returns-in-Answered
returns-in-Answered c = zone-answered c.args.edition c.args.s.now c.args.id.now c.args.t _ c.ask_at.ensures _ c.in-Answered.is

pub returns-in-Refused : goal.returns-in-Refused
returns-in-Refused c = zone-stopped c.args.edition c.args.s.now c.args.id.now c.args.t _ c.ask_at.ensures _ _ c.in-Refused.is

pub returns-in-Cut : goal.returns-in-Cut
returns-in-Cut c = zone-cut c.args.edition c.args.s.now c.args.id.now c.args.t _ c.ask_at.ensures _ c.in-Cut.is

pub returns-in-End : goal.returns-in-End
returns-in-End c = zone-end c.args.edition c.args.s.now c.args.id.now c.args.t _ c.ask_at.ensures _ c.in-End.is
