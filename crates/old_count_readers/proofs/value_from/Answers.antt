use Rattle.std.proofs.lemmas.Result.{err_from_is_err_and}
use native.Mathlib.Omega.{arith}
use mathlib.Core.Path.{ap, sym, ◌∙◌}
use Prim.Native.Nat.{◌<◌}
use Rattle.counts.proofs.FixedLaws.{FixedRead, fixed-read, fixed-between, width}
use Rattle.old_counts.specs.OldCount.{value_from}
use Rattle.old_count_readers.proofs.value_from.Goals as goal
use Rattle.old_count_readers.proofs.value_from.Goals.{In_ok-v}

-- the number of the bytes that follow
number : (c : goal.In_ok-v) → FixedRead c.args.n c.args.high
    c.args.s.now c.in_ok-v.v c.in_ok-v.m
number c = fixed-read _ _ _ (sym c.in_ok-v.was ∙ c.read_fixed.ensures)

small : (c : goal.In_ok-v) → c.in_ok-v.v < 1073741824
small c =
    let a = c.args in
    let b = fixed-between a.n a.high a.s.now (λ i. omega (arith, c.shared_slice_known-1.given i)) (number c).within in
    omega (arith, (number c).value, b.below, width a.n a.high 64 (omega arith) (omega arith))

pub read_fixed-requires : goal.read_fixed-requires
read_fixed-requires c = let a = c.args in omega (arith, width a.n a.high 64 (omega arith) (omega arith))

pub overflow_add-result : goal.overflow_add-result
overflow_add-result c = omega (arith, small c)

pub overflow_add-result-2 : goal.overflow_add-result-2
overflow_add-result-2 c = omega (arith, (number c).size)

pub returns : goal.returns
returns c = ap (value_from _) (sym c.in_ok-v.was ∙ c.read_fixed.ensures)

pub returns-in_err-v : goal.returns-in_err-v
returns-in_err-v c = let p = err_from_is_err_and c.from_residual.result c.from_residual.ensures.1 in
    rw (p.1, p.2) (ap (value_from _) (sym c.in_err-v.was ∙ c.read_fixed.ensures))
