use Prim.Native.Nat.{◌<◌}
use native.Mathlib.Omega.{arith}
use mir.Facts.{to_z-of_z}
use Rattle.halving.proofs.StepLaws.{Halved, halved, Counted, find_none, standing-start, standing-counted, standing-next}
use Rattle.halving.proofs.LookLaws.{near_next, stands_from}
use Rattle.halving.proofs.find_start.Goals as goal
use Rattle.halving.proofs.find_start.Goals.{After-keeps-k, In-loop-m}

abbrev At : Type 0
At = goal.In-loop-m

abbrev Looked : Type 0
Looked = goal.After-keeps-k

more : (c : At) → 1 < c.loop-m.n
more c = omega (arith, c.loop-m-test.true, c.loop-m.invariant.1.from)

halves : (c : At) → Halved c.loop-m.n
halves c = halved _ (more c)

counts : (c : Looked) → Counted c.loop-m.n c.keeps-k.result
counts c = standing-counted _ _ _ _ _ c.loop-m.invariant.0 (more (goal.at.overflow_add-low-in-loop-m c).In-loop-m) _ c.keeps-k.ensures

pub returns-then-n-eq0 : goal.returns-then-n-eq0
returns-then-n-eq0 c = find_none _ _ c.if-n-eq0.true

pub loop-m-init : goal.loop-m-init
loop-m-init c = (standing-start _ _ c.if-n-eq0.false, record { from = omega arith; to = omega arith })

pub overflow_add-probes : goal.overflow_add-probes
overflow_add-probes c = record { fits = omega (arith, more c, c.loop-m.invariant.0.few, c.well_formed.0.0) }

pub overflow_add-low : goal.overflow_add-low
overflow_add-low c = record { fits = omega (arith, (halves c).fewer, c.loop-m.invariant.0.inside, c.well_formed.0.0) }

pub keeps-k-requires : goal.keeps-k-requires
keeps-k-requires c = omega (arith, (halves c).fewer, c.loop-m.invariant.0.inside)

pub overflow_add-low-in-loop-m : goal.overflow_add-low-in-loop-m
overflow_add-low-in-loop-m c = record { fits = omega (arith, (counts c).one) }

pub overflow_mul-low : goal.overflow_mul-low
overflow_mul-low c = record { fits = omega (arith, (counts c).most, c.loop-m.invariant.0.inside, c.well_formed.0.0) }

pub overflow_add-low-in-loop-m-2 : goal.overflow_add-low-in-loop-m-2
overflow_add-low-in-loop-m-2 c = record { fits = omega (arith, (counts c).most, c.loop-m.invariant.0.inside, c.well_formed.0.0) }

pub overflow_sub-low : goal.overflow_sub-low
overflow_sub-low c = omega (arith, (counts c).least)

pub overflow_add-n : goal.overflow_add-n
overflow_add-n c = record { fits = omega (arith, (counts c).one, c.loop-m.invariant.0.inside, c.well_formed.0.0) }

pub loop-m-smaller : goal.loop-m-smaller
loop-m-smaller c = omega (arith, c.loop-m-test.true)

pub loop-m-preserved : goal.loop-m-preserved
loop-m-preserved c = (
  standing-next _ _ _ _ _ c.loop-m.invariant.0 (more (goal.at.loop-m-preserved c).In-loop-m) _ c.keeps-k.ensures,
  near_next _ _ _ (counts c).one c.loop-m.invariant.1,
)

pub overflow_add-b : goal.overflow_add-b
overflow_add-b c = record { fits = omega (arith, c.loop-m.invariant.0.inside, c.well_formed.0.0) }

pub look_many-many-requires : goal.look_many-many-requires
look_many-many-requires c = stands_from _ _ _ _ _ _ c.loop-m.invariant.0 c.loop-m.invariant.1 (omega (arith, c.loop-m-test.false))

pub look_few-few-requires : goal.look_few-few-requires
look_few-few-requires c = c.look_many-many.ensures

pub look_last-requires : goal.look_last-requires
look_last-requires c = c.look_few-few.ensures

pub returns : goal.returns
returns c = rw (to_z-of_z c.ranges.instant) at c.look_last.ensures
