use Rattle.named_fields.proofs.JudgeLaws.{field-zone, field-text}
use Rattle.named_fields.proofs.judge_field.Goals as goal

pub returns-then-i-eq1 : goal.returns-then-i-eq1
returns-then-i-eq1 c = field-zone _ _ _ _ _ _ _ _ _ _ _ c.requires.2 c.if-i-eq1.true c.judge_zone.ensures

pub returns : goal.returns
returns c = field-text _ _ _ _ _ _ _ _ _ c.if-i-eq1.false c.judge_text.ensures
