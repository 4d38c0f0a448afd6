use Prim.Native.Nat.{◌+◌}
use native.Mathlib.Omega.{arith}
use Rattle.intervals.proofs.ShortLaws.{short-unnamed, short-low, short-is}
use Rattle.interval_runs.proofs.short_ok.Goals as goal

pub overflow_cast-s : goal.overflow_cast-s
overflow_cast-s c = omega (arith, c.shared_slice_known-1.given c.args.at)

pub returns-then-pool-s : goal.returns-then-pool-s
returns-then-pool-s c = short-unnamed _ _ _ c.if-pool-s.true

pub overflow_cast-standard : goal.overflow_cast-standard
overflow_cast-standard c = omega (arith, c.shared_slice_known-2-1.given (c.args.at + 1))

pub overflow_add-standard-2 : goal.overflow_add-standard-2
overflow_add-standard-2 c = omega (arith, c.shared_slice_known-2-1.given (c.args.at + 1))

pub overflow_cast-standard-2 : goal.overflow_cast-standard-2
overflow_cast-standard-2 c = omega (arith, c.shared_slice_known-3-1.given (c.args.at + 2))

pub overflow_sub-standard : goal.overflow_sub-standard
overflow_sub-standard c = omega (arith, c.shared_slice_known-3-1.given (c.args.at + 2))

pub returns-then-standard-lt256 : goal.returns-then-standard-lt256
returns-then-standard-lt256 c = short-low _ _ _ c.if-pool-s.false c.if-standard-lt256.true

pub returns : goal.returns
returns c = short-is _ _ _ c.if-pool-s.false c.if-standard-lt256.false
