use Prim.Native.Nat.{◌+◌}
use native.Mathlib.Omega.{arith}
use lib.ListN.{get_or}
use Rattle.pool.proofs.StringLaws.{below, index-room}
use Rattle.strings.proofs.SpanLaws.{code-there, code-more, span-one, span-two}
use Rattle.strings.proofs.span_by.Goals as goal

pub offset_bounds-starts-k : goal.offset_bounds-starts-k
offset_bounds-starts-k c = omega (arith, below _ _ c.requires.1)

pub bounds-starts-k : goal.bounds-starts-k
bounds-starts-k c = index-room _ _ c.requires.1 _ c.requires.0

pub overflow_cast-p : goal.overflow_cast-p
overflow_cast-p c = omega (arith, code-there _ _ _ c.requires.0 c.requires.1)

pub bounds-d-p : goal.bounds-d-p
bounds-d-p c = code-there _ _ _ c.requires.0 c.requires.1

pub overflow_cast-b : goal.overflow_cast-b
overflow_cast-b c = let g = c.args in
    omega (arith, c.shared_slice_known-2-1.given (get_or g.starts.now g.k 0))

pub overflow_add-result : goal.overflow_add-result
overflow_add-result c = record { fits = omega (arith, code-there _ _ _ c.requires.0 c.requires.1) }

pub returns-then-b-lt128 : goal.returns-then-b-lt128
returns-then-b-lt128 c = span-one _ _ _ c.requires.0 c.requires.1 c.if-b-lt128.true

pub overflow_add-result-2 : goal.overflow_add-result-2
overflow_add-result-2 c = record { fits = omega (arith, code-more _ _ _ c.requires.0 c.requires.1 c.if-b-lt128.false) }

pub overflow_add-result-3 : goal.overflow_add-result-3
overflow_add-result-3 c = record { fits = omega (arith, code-there _ _ _ c.requires.0 c.requires.1) }

pub bounds-d-p-2 : goal.bounds-d-p-2
bounds-d-p-2 c = code-more _ _ _ c.requires.0 c.requires.1 c.if-b-lt128.false

pub overflow_cast-result : goal.overflow_cast-result
overflow_cast-result c = let g = c.args in
    omega (arith, c.shared_slice_known-3-1.given (get_or g.starts.now g.k 0 + 1))

pub overflow_mul-result : goal.overflow_mul-result
overflow_mul-result c = let g = c.args in
    record { fits = omega (arith, c.shared_slice_known-3-1.given (get_or g.starts.now g.k 0 + 1)) }

pub overflow_add-result-4 : goal.overflow_add-result-4
overflow_add-result-4 c = let g = c.args in
    record { fits = omega (arith, c.shared_slice_known-3-1.given (get_or g.starts.now g.k 0 + 1)) }

pub returns : goal.returns
returns c = span-two _ _ _ c.requires.0 c.requires.1 c.if-b-lt128.false
