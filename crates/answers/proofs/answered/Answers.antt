use native.Mathlib.Omega.{arith}
use mathlib.Core.Path.{ap, ◌∙◌}
use Rattle.pool.specs.declared.Span.{Span}
use Rattle.pool.proofs.StringLaws.{span-inside}
use Rattle.answers.specs.Answers.{answer_by}
use Prim.Native.Nat.{◌+◌}
use Rattle.answers.proofs.answered.Goals as goal

pub overflow_add-start : goal.overflow_add-start
overflow_add-start c = omega (arith, rw (← c.span_by-p.ensures) at (span-inside c.args.pool.now c.args.x.name c.requires.1.name-ok), c.requires.2, c.requires.3)

pub returns : goal.returns
returns c = c.answer_of.ensures ∙ ap (λ (s : Span). answer_by (c.args.start + s.at) s.len c.args.x) c.span_by-p.ensures
