use native.Mathlib.Omega.{arith}
use Rattle.zone_fronts.proofs.ShortLaws.{one-id, two-id}
use Rattle.zone_fronts.proofs.short_id.Goals as goal

pub overflow_cast-b : goal.overflow_cast-b
overflow_cast-b c = omega (arith, c.shared_slice_known-1.given 0)

pub returns-then-b-lt128 : goal.returns-then-b-lt128
returns-then-b-lt128 c = one-id _ c.requires c.if-b-lt128.true

pub overflow_cast-result : goal.overflow_cast-result
overflow_cast-result c = omega (arith, c.shared_slice_known-2-1.given 1)

pub overflow_mul-result : goal.overflow_mul-result
overflow_mul-result c = omega (arith, c.shared_slice_known-2-1.given 1)

pub overflow_add-result : goal.overflow_add-result
overflow_add-result c = omega (arith, c.shared_slice_known-2-1.given 1)

pub returns : goal.returns
returns c = two-id _ c.requires c.if-b-lt128.false
