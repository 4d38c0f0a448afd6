use native.Mathlib.Omega.{arith}
use Rattle.trace_records.proofs.KeptLaws.{no_name, name-here, name-same}
use Rattle.trace_records.proofs.has_name.Goals as goal

pub returns-then-k-eq0 : goal.returns-then-k-eq0
returns-then-k-eq0 c = no_name _ _ _ _

pub returns-then-k-len : goal.returns-then-k-len
returns-then-k-len c = no_name _ _ _ _

pub returns-then-k-start : goal.returns-then-k-start
returns-then-k-start c = name-here _ _ _ _ _ _ c.four_at-start.ensures.0 c.four_at-len.ensures.0 c.if-k-eq0.false c.if-k-len.false c.if-k-start.true

pub slice_bounds-same-end : goal.slice_bounds-same-end
slice_bounds-same-end c = omega (arith, c.requires.2 (omega (arith, c.if-k-eq0.false)), c.if-k-len.false)

pub returns : goal.returns
returns c = name-same _ _ _ _ _ _ c.four_at-start.ensures.0 c.four_at-len.ensures.0 c.if-k-eq0.false c.if-k-len.false _ c.same.ensures
