use native.Mathlib.Omega.{arith}
use Rattle.sizes.proofs.FieldLaws.{field-none, field-some, field-small}
use Rattle.sizes.proofs.read_field.Goals as goal

pub overflow_add-start : goal.overflow_add-start
overflow_add-start c = omega (arith, field-small c.args.s.now c.args.at _ c.read_size.ensures _ _ c.in-Ok.is, c.requires, c.well_formed)

pub overflow_add-result : goal.overflow_add-result
overflow_add-result c = omega (arith, field-small c.args.s.now c.args.at _ c.read_size.ensures _ _ c.in-Ok.is, c.requires, c.well_formed)

pub returns-in-Err : goal.returns-in-Err
returns-in-Err c = field-none _ c.args.at _ c.read_size.ensures _ _ c.in-Err.is

pub returns-in-Ok : goal.returns-in-Ok
returns-in-Ok c = field-some _ c.args.at _ c.read_size.ensures _ _ c.in-Ok.is
