use mathlib.Core.Path.{sym, ◌∙◌}
use Rattle.named_questions.proofs.AliasLaws.{sound-of, zone-target, alias-fault, alias-unknown, alias-deep, alias-zone}
use Rattle.named_questions.proofs.follow.Goals as goal

pub lookup-t-requires : goal.lookup-t-requires
lookup-t-requires c = (c.requires.1, c.requires.2, sound-of _ _ (sym c.in-Ok.is ∙ c.check-v.ensures), c.requires.3)

pub text_by-requires : goal.text_by-requires
text_by-requires c = (c.requires.1, zone-target _ _ _ _ _ _ c.lookup-t.ensures _ c.in-Zone.is)

pub returns-in-Err : goal.returns-in-Err
returns-in-Err c = alias-fault _ _ _ _ _ _ _ _ _ c.check-v.ensures _ c.in-Err.is

pub returns-in-Unknown : goal.returns-in-Unknown
returns-in-Unknown c = alias-unknown _ _ _ _ _ _ _ _ _ c.check-v.ensures c.in-Ok.is _ c.lookup-t.ensures c.in-Unknown.is

pub returns-in-Deep : goal.returns-in-Deep
returns-in-Deep c = alias-deep _ _ _ _ _ _ _ _ _ c.check-v.ensures c.in-Ok.is _ c.lookup-t.ensures c.in-Deep.is

pub returns-in-Zone : goal.returns-in-Zone
returns-in-Zone c = alias-zone _ _ _ _ _ _ _ _ _ c.check-v.ensures c.in-Ok.is _ c.lookup-t.ensures _ c.in-Zone.is _ c.text_by.ensures _ c.walk_zones.ensures
