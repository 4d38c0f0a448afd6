use Rattle.old_named_questions.proofs.TargetLaws.{listed_at, never-count}
use Rattle.old_name_answers.proofs.find_target.Goals as goal

pub find_in-requires : goal.find_in-requires
find_in-requires c = listed_at _ c.requires _ c.read_count.ensures _ _ c.in-Ok.is

pub returns-in-Err : goal.returns-in-Err
returns-in-Err c = never-count _ c.requires _ c.read_count.ensures _ c.in-Err.is
