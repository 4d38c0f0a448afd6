use Prim.Native.Nat.{◌-◌}
use native.Mathlib.Omega.{arith}
use Rattle.base.proofs.Parts.{part-from}
use Rattle.zone_fronts.proofs.read_usual_front.Goals as goal

pub returns-then-at-eq0 : goal.returns-then-at-eq0
returns-then-at-eq0 c = rw (part-from 0 c.args.s.now) at c.read_front.ensures

pub short_id-requires : goal.short_id-requires
short_id-requires c = omega (arith, c.short_place-at.ensures.far c.if-at-eq0.false, c.short_place-at.ensures.inside c.if-at-eq0.false)

pub bounds-s-at : goal.bounds-s-at
bounds-s-at c = omega (arith, c.short_place-at.ensures.far c.if-at-eq0.false, c.short_place-at.ensures.inside c.if-at-eq0.false)

pub overflow_cast-result : goal.overflow_cast-result
overflow_cast-result c = omega (arith, c.shared_slice_known-2-1.given (c.short_place-at.result - 1))

pub returns : goal.returns
returns c = rw c.short_id.ensures (c.short_place-at.ensures.front c.if-at-eq0.false)
