use native.Mathlib.Omega.{arith}
use native.Mathlib.Nat.{lt_of_le_of_lt}
use Prim.Native.Nat.{◌+◌, ◌*◌, ◌%◌, ◌≤◌, ◌<◌}
use lib.ListN.{get_or}
use Rattle.counts.proofs.AnyGroupLaws.{reading-start, reading-fits, reading-cut, reading-last, reading-next, reading-fifth, reading-above}
use Rattle.count_readers.proofs.read_any.Goals as goal
use Rattle.count_readers.proofs.read_any.Goals.{Else-b-lt128, Then-b-lt128, Then-e-top}

pub loop-i-init : goal.loop-i-init
loop-i-init c = reading-start _ _

pub returns-then-s-i : goal.returns-then-s-i
returns-then-s-i c = reading-cut _ _ _ _ _ c.loop-i.invariant c.if-s-i.true

pub overflow_cast-b : goal.overflow_cast-b
overflow_cast-b c = omega (arith, c.shared_slice_known-1.given c.loop-i.i)

-- the sums of the last group
last-sums : (c : goal.Then-b-lt128)
    → (let l = c.loop-i in
    let b = get_or c.args.s.now l.i 0 in
    (l.v + l.unit * b < l.unit * 128) × (l.unit ≤ 268435456))
last-sums c = reading-fits _ _ _ _ _ c.loop-i.invariant _ c.if-b-lt128.true

pub overflow_mul-result : goal.overflow_mul-result
overflow_mul-result c = omega (arith, last-sums c)

pub overflow_add-result : goal.overflow_add-result
overflow_add-result c = omega (arith, last-sums c)

pub returns-then-b-lt128 : goal.returns-then-b-lt128
returns-then-b-lt128 c = reading-last _ _ _ _ _ c.loop-i.invariant (omega arith) (omega arith) c.if-b-lt128.true

-- the sums of a turn
sums : (c : goal.Else-b-lt128)
    → (let l = c.loop-i in
    let b = get_or c.args.s.now l.i 0 in
    (l.v + l.unit * (b % 128) < l.unit * 128) × (l.unit ≤ 268435456))
sums c = reading-fits _ _ _ _ _ c.loop-i.invariant _ (omega arith)

pub overflow_mul-v : goal.overflow_mul-v
overflow_mul-v c = omega (arith, sums c)

pub overflow_add-v : goal.overflow_add-v
overflow_add-v c = omega (arith, sums c)

pub overflow_mul-unit : goal.overflow_mul-unit
overflow_mul-unit c = omega (arith, sums c)

pub loop-i-preserved : goal.loop-i-preserved
loop-i-preserved c = reading-next _ _ _ _ _ c.loop-i.invariant (omega arith) (omega arith) c.if-b-lt128.false

pub returns-then-s-le4 : goal.returns-then-s-le4
returns-then-s-le4 c = reading-cut _ _ _ _ _ c.loop-i.invariant (omega arith)

pub overflow_cast-e : goal.overflow_cast-e
overflow_cast-e c = omega (arith, c.shared_slice_known-2-1.given 4)

-- the sums of the fifth group
fifth-sums : (c : goal.Then-e-top)
    → (let l = c.loop-i in
    let b = get_or c.args.s.now 4 0 in
    (l.v + l.unit * b < l.unit * 128) × (l.unit ≤ 268435456))
fifth-sums c = reading-fits _ _ _ _ _ c.loop-i.invariant _ (lt_of_le_of_lt c.if-e-top.true (omega arith))

pub overflow_mul-result-then-e-top : goal.overflow_mul-result-then-e-top
overflow_mul-result-then-e-top c = omega (arith, fifth-sums c)

pub overflow_add-result-then-e-top : goal.overflow_add-result-then-e-top
overflow_add-result-then-e-top c = omega (arith, fifth-sums c)

pub returns-then-e-top : goal.returns-then-e-top
returns-then-e-top c = reading-fifth _ _ _ _ _ c.loop-i.invariant (omega arith) (omega arith) c.if-e-top.true

pub returns : goal.returns
returns c = reading-above _ _ _ _ _ c.loop-i.invariant (omega arith) (omega arith) c.if-e-top.false
