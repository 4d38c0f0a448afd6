use native.Mathlib.Omega.{arith}
use Rattle.rules.proofs.FieldLaws.{time-range}
use Rattle.rules.proofs.rule_of.Goals as goal

pub overflow_sub-result : goal.overflow_sub-result
overflow_sub-result c = omega (arith, time-range c.args.sum c.requires)
