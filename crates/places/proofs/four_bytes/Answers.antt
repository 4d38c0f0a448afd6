use mathlib.Core.Path.{refl}
use Prim.Native.Nat.{◌+◌}
use native.Mathlib.Omega.{arith}
use Rattle.places.proofs.LongLaws.{four-none, four-fits, four_is}
use Rattle.places.proofs.four_bytes.Goals as goal

pub overflow_cast-e : goal.overflow_cast-e
overflow_cast-e c = omega (arith, c.shared_slice_known-2-1.given (c.args.at + 3))

pub returns-then-e-eq0 : goal.returns-then-e-eq0
returns-then-e-eq0 c = four-none _ _ _ c.requires.0 c.requires.2 c.if-e-eq0.true

pub overflow_cast-s : goal.overflow_cast-s
overflow_cast-s c = omega (arith, c.shared_slice_known-3-1.given c.args.at)

pub overflow_cast-s-2 : goal.overflow_cast-s-2
overflow_cast-s-2 c = omega (arith, c.shared_slice_known-4-1.given (c.args.at + 1))

pub overflow_cast-s-3 : goal.overflow_cast-s-3
overflow_cast-s-3 c = omega (arith, c.shared_slice_known-5-1.given (c.args.at + 2))

pub overflow_mul-e : goal.overflow_mul-e
overflow_mul-e c = omega (arith, c.shared_slice_known-5-1.given (c.args.at + 3))

pub overflow_add-s : goal.overflow_add-s
overflow_add-s c = omega (arith, c.shared_slice_known-5-1.given (c.args.at + 3))

pub overflow_mul-s : goal.overflow_mul-s
overflow_mul-s c = omega (arith, c.shared_slice_known-5-1.given (c.args.at + 3))

pub overflow_add-s-2 : goal.overflow_add-s-2
overflow_add-s-2 c = omega (arith, c.shared_slice_known-5-1.given (c.args.at + 3))

pub overflow_mul-s-2 : goal.overflow_mul-s-2
overflow_mul-s-2 c = omega (arith, c.shared_slice_known-5-1.given (c.args.at + 3))

pub overflow_add-s-3 : goal.overflow_add-s-3
overflow_add-s-3 c = omega (arith, c.shared_slice_known-5-1.given (c.args.at + 3))

pub minutes_after-requires : goal.minutes_after-requires
minutes_after-requires c = let x = four-fits _ _ c.args.prev c.requires.0 c.requires.2 c.if-e-eq0.false _ refl in (c.requires.1, x.0, x.1)

pub returns : goal.returns
returns c = four_is _ _ _ c.requires.0 c.requires.2 c.if-e-eq0.false _ refl _ c.minutes_after.ensures
