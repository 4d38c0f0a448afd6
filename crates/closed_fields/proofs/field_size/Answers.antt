use native.Mathlib.Omega.{arith}
use Rattle.counts.proofs.CountLaws.{count-size}
use Rattle.closed_fields.proofs.field_size.Goals as goal

pub overflow_add-result : goal.overflow_add-result
overflow_add-result c = omega (arith, (count-size c.args.n).most, c.count_size.ensures, c.requires)

pub overflow_add-result-2 : goal.overflow_add-result-2
overflow_add-result-2 c = omega (arith, (count-size c.args.n).most, c.count_size.ensures, c.requires)
