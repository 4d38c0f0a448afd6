use native.Mathlib.Omega.{arith}
use Rattle.pool.proofs.StringLaws.{part-inside, part-string}
use Rattle.strings.proofs.text_by.Goals as goal

pub overflow_add-e : goal.overflow_add-e
overflow_add-e c = omega (arith, part-inside _ _ c.requires.1 _ c.span_by-s.ensures)

pub slice_bounds-result-end : goal.slice_bounds-result-end
slice_bounds-result-end c = part-inside _ _ c.requires.1 _ c.span_by-s.ensures

pub returns : goal.returns
returns c = part-string _ _ c.requires.1 _ c.span_by-s.ensures
