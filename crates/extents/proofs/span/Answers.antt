use Rattle.extents.proofs.SpanLaws.{span-cut, span_last, span-fifth, span-above, none_read, one-read, two-read, three-read, four-read}
use native.Mathlib.Omega.{arith}
use mathlib.Core.Path.{refl}
use Rattle.extents.proofs.span.Goals as goal

pub returns-then-r-eq0 : goal.returns-then-r-eq0
returns-then-r-eq0 c = span-cut _ _ _ _ (none_read _) (omega arith)

pub returns-then-a-eq0 : goal.returns-then-a-eq0
returns-then-a-eq0 c = span_last _ _ _ _ (none_read _) (omega arith) (omega arith) (omega arith) _ (omega arith)

pub overflow_cast-a : goal.overflow_cast-a
overflow_cast-a c = omega (arith, c.shared_slice_known-1.given 0)

pub returns-then-a-lt128 : goal.returns-then-a-lt128
returns-then-a-lt128 c = span_last _ _ _ _ (none_read _) (omega arith) (omega arith) c.if-a-lt128.true _ (omega arith)

pub returns-then-r-eq1 : goal.returns-then-r-eq1
returns-then-r-eq1 c = span-cut _ _ _ _ (one-read _ (omega arith) c.if-a-lt128.false) (omega arith)

pub overflow_cast-b : goal.overflow_cast-b
overflow_cast-b c = omega (arith, c.shared_slice_known-2-1.given 1)

pub returns-then-b-lt128 : goal.returns-then-b-lt128
returns-then-b-lt128 c = span_last _ _ _ _ (one-read _ (omega arith) c.if-a-lt128.false) (omega arith) (omega arith) c.if-b-lt128.true _ refl

pub returns-then-r-eq2 : goal.returns-then-r-eq2
returns-then-r-eq2 c = span-cut _ _ _ _ (two-read _ (omega arith) c.if-a-lt128.false (omega arith) c.if-b-lt128.false) (omega arith)

pub overflow_cast-c : goal.overflow_cast-c
overflow_cast-c c = omega (arith, c.shared_slice_known-3-1.given 2)

pub returns-then-c-lt128 : goal.returns-then-c-lt128
returns-then-c-lt128 c = span_last _ _ _ _ (two-read _ (omega arith) c.if-a-lt128.false (omega arith) c.if-b-lt128.false) (omega arith) (omega arith) c.if-c-lt128.true _ refl

pub returns-then-r-eq3 : goal.returns-then-r-eq3
returns-then-r-eq3 c = span-cut _ _ _ _ (three-read _ (omega arith) c.if-a-lt128.false (omega arith) c.if-b-lt128.false (omega arith) c.if-c-lt128.false) (omega arith)

pub overflow_cast-d : goal.overflow_cast-d
overflow_cast-d c = omega (arith, c.shared_slice_known-4-1.given 3)

pub returns-then-d-lt128 : goal.returns-then-d-lt128
returns-then-d-lt128 c = span_last _ _ _ _ (three-read _ (omega arith) c.if-a-lt128.false (omega arith) c.if-b-lt128.false (omega arith) c.if-c-lt128.false) (omega arith) (omega arith) c.if-d-lt128.true _ refl

pub returns-then-r-eq4 : goal.returns-then-r-eq4
returns-then-r-eq4 c = span-cut _ _ _ _ (four-read _ (omega arith) c.if-a-lt128.false (omega arith) c.if-b-lt128.false (omega arith) c.if-c-lt128.false (omega arith) c.if-d-lt128.false) (omega arith)

pub overflow_cast-e : goal.overflow_cast-e
overflow_cast-e c = omega (arith, c.shared_slice_known-5-1.given 4)

pub returns-then-e-gt7 : goal.returns-then-e-gt7
returns-then-e-gt7 c = span-above _ _ _ _ (four-read _ (omega arith) c.if-a-lt128.false (omega arith) c.if-b-lt128.false (omega arith) c.if-c-lt128.false (omega arith) c.if-d-lt128.false) (omega arith) (omega arith) c.if-e-gt7.true

pub returns : goal.returns
returns c = span-fifth _ _ _ _ (four-read _ (omega arith) c.if-a-lt128.false (omega arith) c.if-b-lt128.false (omega arith) c.if-c-lt128.false (omega arith) c.if-d-lt128.false) (omega arith) (omega arith) c.if-e-gt7.false _ refl
