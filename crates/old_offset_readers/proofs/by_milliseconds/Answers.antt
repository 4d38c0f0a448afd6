use Rattle.std.proofs.lemmas.Result.{err_from_is_err_and}
use native.Mathlib.Omega.{arith}
use mathlib.Core.Path.{ap, sym, ◌∙◌}
use Prim.Native.Nat.{◌<◌}
use Rattle.counts.proofs.FixedLaws.{FixedRead, fixed-read, fixed-between}
use Rattle.old_offsets.specs.OldOffset.{by_milliseconds, judged}
use Rattle.old_offset_readers.proofs.by_milliseconds.Goals as goal
use Rattle.old_offset_readers.proofs.by_milliseconds.Goals.{In_ok-v}

-- the number of the bytes that follow
number : (c : goal.In_ok-v) → FixedRead 4 0 c.args.s.now c.in_ok-v.v c.in_ok-v.n
number c = fixed-read _ _ _ (sym c.in_ok-v.was ∙ c.read_fixed.ensures)

small : (c : goal.In_ok-v) → c.in_ok-v.v < 4294967296
small c = omega (arith, (number c).value, (fixed-between 4 0 c.args.s.now (λ i. omega (arith, c.shared_slice_known-1.given i)) (number c).within).below)

pub overflow_add-n : goal.overflow_add-n
overflow_add-n c = omega (arith, (number c).size)

pub overflow_add-v : goal.overflow_add-v
overflow_add-v c = omega (arith, small c)

pub returns : goal.returns
returns c = c.offset_of.ensures ∙ ap (judged by_milliseconds 1000) (sym c.in_ok-v.was ∙ c.read_fixed.ensures)

pub returns-in_err-v : goal.returns-in_err-v
returns-in_err-v c = let p = err_from_is_err_and c.from_residual.result c.from_residual.ensures.1 in
    rw (p.1, p.2) (ap (judged by_milliseconds 1000) (sym c.in_err-v.was ∙ c.read_fixed.ensures))
