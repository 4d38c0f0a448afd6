use mathlib.Core.Path.{sym, ◌∙◌}
use native.Mathlib.Omega.{arith}
use Rattle.texts.proofs.TextLaws.{held}
use Rattle.named_fields.proofs.JudgeLaws.{text-fault, text-keep, text-over}
use Rattle.named_fields.proofs.judge_text.Goals as goal

pub overflow_add-b : goal.overflow_add-b
overflow_add-b c = omega (arith, (held c.args.d.now _ _ (sym c.read_text.ensures ∙ c.in-Ok.is)).inside)

pub returns-then-b-n : goal.returns-then-b-n
returns-then-b-n c = text-keep _ _ c.read_text.ensures _ _ c.in-Ok.is c.if-b-n.true

pub returns-in-Err : goal.returns-in-Err
returns-in-Err c = text-fault _ _ c.read_text.ensures _ c.in-Err.is

pub returns-else-b-n : goal.returns-else-b-n
returns-else-b-n c = text-over _ _ c.read_text.ensures _ _ c.in-Ok.is c.if-b-n.false
