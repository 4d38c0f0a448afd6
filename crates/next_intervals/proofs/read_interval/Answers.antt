use native.Mathlib.Omega.{arith}
use Rattle.next_intervals.proofs.read_interval.Goals as goal

pub short_interval-requires : goal.short_interval-requires
short_interval-requires c = omega (arith, c.short_next-m.ensures.room c.if-m-ne0.true)

pub returns-then-m-ne0 : goal.returns-then-m-ne0
returns-then-m-ne0 c = rw c.short_interval.ensures (c.short_next-m.ensures.stands c.if-m-ne0.true)
