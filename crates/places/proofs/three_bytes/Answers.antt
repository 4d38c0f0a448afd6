use mathlib.Core.Path.{refl}
use Prim.Native.Nat.{◌+◌}
use native.Mathlib.Omega.{arith}
use Rattle.places.proofs.LongLaws.{three-none, three-fits, three-is}
use Rattle.places.proofs.three_bytes.Goals as goal

pub overflow_cast-e : goal.overflow_cast-e
overflow_cast-e c = omega (arith, c.shared_slice_known-2-1.given (c.args.at + 2))

pub returns-then-e-eq0 : goal.returns-then-e-eq0
returns-then-e-eq0 c = three-none _ _ _ c.requires.0 c.requires.2 c.if-e-eq0.true

pub overflow_cast-s : goal.overflow_cast-s
overflow_cast-s c = omega (arith, c.shared_slice_known-3-1.given c.args.at)

pub overflow_cast-s-2 : goal.overflow_cast-s-2
overflow_cast-s-2 c = omega (arith, c.shared_slice_known-4-1.given (c.args.at + 1))

pub overflow_mul-e : goal.overflow_mul-e
overflow_mul-e c = omega (arith, c.shared_slice_known-4-1.given (c.args.at + 2))

pub overflow_add-s : goal.overflow_add-s
overflow_add-s c = omega (arith, c.shared_slice_known-4-1.given (c.args.at + 2))

pub overflow_mul-s : goal.overflow_mul-s
overflow_mul-s c = omega (arith, c.shared_slice_known-4-1.given (c.args.at + 2))

pub overflow_add-s-2 : goal.overflow_add-s-2
overflow_add-s-2 c = omega (arith, c.shared_slice_known-4-1.given (c.args.at + 2))

pub hours_after-requires : goal.hours_after-requires
hours_after-requires c = let x = three-fits _ _ c.args.prev c.requires.0 c.requires.2 c.if-e-eq0.false _ refl in (c.requires.1, x.0, x.1)

pub returns : goal.returns
returns c = three-is _ _ _ c.requires.0 c.requires.2 c.if-e-eq0.false _ refl _ c.hours_after.ensures
