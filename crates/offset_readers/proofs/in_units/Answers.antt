use Rattle.std.proofs.lemmas.Result.{err_from_is_err_and}
use native.Mathlib.Omega.{arith}
use mathlib.Core.Path.{ap, sym, ◌∙◌}
use Prim.Native.Nat.{◌<◌}
use Rattle.counts.proofs.FixedLaws.{FixedRead, fixed-read, fixed-between, width}
use Rattle.offsets.specs.Offset.{in_units}
use Rattle.offsets.proofs.OffsetLaws.{product}
use Rattle.offset_readers.proofs.in_units.Goals as goal
use Rattle.offset_readers.proofs.in_units.Goals.{In_ok-v}

-- the number of the bytes that follow
number : (c : goal.In_ok-v) → FixedRead c.args.n c.args.high
    c.args.s.now c.in_ok-v.v c.in_ok-v.m
number c = fixed-read _ _ _ (sym c.in_ok-v.was ∙ c.read_fixed.ensures)

small : (c : goal.In_ok-v) → c.in_ok-v.v < 536870912
small c =
    let a = c.args in
    let b = fixed-between a.n a.high a.s.now (λ i. omega (arith, c.shared_slice_known-1.given i)) (number c).within in
    omega (arith, (number c).value, b.below, width a.n a.high 32 (omega arith) (omega arith))

pub read_fixed-requires : goal.read_fixed-requires
read_fixed-requires c = let a = c.args in omega (arith, width a.n a.high 32 (omega arith) (omega arith))

pub overflow_add-m : goal.overflow_add-m
overflow_add-m c = omega (arith, (number c).size)

pub overflow_mul-v : goal.overflow_mul-v
overflow_mul-v c = record { fits = product _ _ (small c) (omega arith) }

pub returns : goal.returns
returns c = c.offset_of.ensures ∙ ap (in_units _ _) (sym c.in_ok-v.was ∙ c.read_fixed.ensures)

pub returns-in_err-v : goal.returns-in_err-v
returns-in_err-v c = let p = err_from_is_err_and c.from_residual.result c.from_residual.ensures.1 in
    rw (p.1, p.2) (ap (in_units _ _) (sym c.in_err-v.was ∙ c.read_fixed.ensures))
