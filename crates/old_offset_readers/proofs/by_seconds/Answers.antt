use Rattle.std.proofs.lemmas.Result.{err_from_is_err_and}
use native.Mathlib.Omega.{arith}
use mathlib.Core.Path.{ap, sym, ◌∙◌}
use Prim.Native.Nat.{◌<◌}
use Rattle.counts.proofs.FixedLaws.{FixedRead, fixed-read, fixed-between}
use Rattle.old_offsets.specs.OldOffset.{by_seconds, judged}
use Rattle.old_offsets.proofs.OldOffsetLaws.{seconds-small}
use Rattle.old_offset_readers.proofs.by_seconds.Goals as goal
use Rattle.old_offset_readers.proofs.by_seconds.Goals.{In_ok-v}

-- the number of the bytes that follow
number : (c : goal.In_ok-v) → FixedRead 2 c.args.high c.args.s.now c.in_ok-v.v c.in_ok-v.n
number c = fixed-read _ _ _ (sym c.in_ok-v.was ∙ c.read_fixed.ensures)

small : (c : goal.In_ok-v) → c.in_ok-v.v < 16777216
small c = omega (arith, (number c).value, (fixed-between 2 c.args.high c.args.s.now (λ i. omega (arith, c.shared_slice_known-1.given i)) (number c).within).below)

pub overflow_add-v : goal.overflow_add-v
overflow_add-v c = omega (arith, small c)

pub returns-then-v-lt8650751 : goal.returns-then-v-lt8650751
returns-then-v-lt8650751 c = seconds-small _ _ c.if-v-lt8650751.true ∙ ap (judged by_seconds 1800000) (sym c.in_ok-v.was ∙ c.read_fixed.ensures)

pub overflow_add-n : goal.overflow_add-n
overflow_add-n c = omega (arith, (number (goal.at.overflow_add-n c).In_ok-v).size)

pub overflow_add-v-2 : goal.overflow_add-v-2
overflow_add-v-2 c = omega (arith, small (goal.at.overflow_add-v-2 c).In_ok-v)

pub overflow_mul-v : goal.overflow_mul-v
overflow_mul-v c = omega (arith, small (goal.at.overflow_mul-v c).In_ok-v)

pub returns : goal.returns
returns c = c.offset_of.ensures ∙ ap (judged by_seconds 1800000) (sym c.in_ok-v.was ∙ c.read_fixed.ensures)

pub returns-in_err-v : goal.returns-in_err-v
returns-in_err-v c = let p = err_from_is_err_and c.from_residual.result c.from_residual.ensures.1 in
    rw (p.1, p.2) (ap (judged by_seconds 1800000) (sym c.in_err-v.was ∙ c.read_fixed.ensures))
