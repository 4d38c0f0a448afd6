use Rattle.extents.proofs.FieldLaws.{end_none, end-order, span-nothing, span-cut, span-far, span-ends}
use native.Mathlib.Omega.{arith}
use Prim.Native.Nat.{◌+◌}
use Rattle.base.proofs.Parts.{part-from}
use Rattle.extents.proofs.field_end.Goals as goal

pub returns-then-s-at : goal.returns-then-s-at
returns-then-s-at c = end_none _ _ _ c.requires.0 c.requires.1 c.if-s-at.true

pub overflow_cast-s : goal.overflow_cast-s
overflow_cast-s c = omega (arith, c.shared_slice_known-2-1.given c.args.at)

pub returns-then-head-e : goal.returns-then-head-e
returns-then-head-e c = span-ends _ _ _ c.requires.0 c.requires.1 (omega arith) _ c.may_stand.ensures c.if-may_stand.true (omega (arith, c.shared_slice_known-2-1.given c.args.at)) _ (rw (part-from (c.args.at + 1) _) at c.span-n.ensures) (λ z. omega arith) c.if-n-s.true c.if-e-le-LARGEST.true

pub returns-else-head-e : goal.returns-else-head-e
returns-else-head-e c = span-nothing _ _ _ c.requires.0 c.requires.1 (omega arith) _ c.may_stand.ensures c.if-may_stand.true (omega (arith, c.shared_slice_known-2-1.given c.args.at)) _ (rw (part-from (c.args.at + 1) _) at c.span-n.ensures) (omega arith)

pub returns-else-e-le-LARGEST : goal.returns-else-e-le-LARGEST
returns-else-e-le-LARGEST c = span-far _ _ _ c.requires.0 c.requires.1 (omega arith) _ c.may_stand.ensures c.if-may_stand.true (omega (arith, c.shared_slice_known-2-1.given c.args.at)) _ (rw (part-from (c.args.at + 1) _) at c.span-n.ensures) c.if-e-le-LARGEST.false

pub returns-else-n-s : goal.returns-else-n-s
returns-else-n-s c = span-cut _ _ _ c.requires.0 c.requires.1 (omega arith) _ c.may_stand.ensures c.if-may_stand.true (omega (arith, c.shared_slice_known-2-1.given c.args.at)) _ (rw (part-from (c.args.at + 1) _) at c.span-n.ensures) c.if-n-s.false

pub returns-else-may_stand : goal.returns-else-may_stand
returns-else-may_stand c = end-order _ _ _ c.requires.0 c.requires.1 (omega arith) _ c.may_stand.ensures c.if-may_stand.false
