use native.Mathlib.Omega.{arith}
use Rattle.headers.proofs.NextLaws.{zone-one, zone-two}
use Rattle.headers.proofs.next_frame.Goals as goal

pub overflow_cast-b : goal.overflow_cast-b
overflow_cast-b c = omega (arith, c.shared_slice_known-then-r-eq1-1.given 1)

pub overflow_cast-c : goal.overflow_cast-c
overflow_cast-c c = omega (arith, c.shared_slice_known-then-r-eq1-2-1.given 2)

pub returns-then-b-r : goal.returns-then-b-r
returns-then-b-r c = rw (c.if-seen.true, c.if-prev-eq1.true) (zone-one _ _ _ c.if-last-gt0.true c.if-at-gt0.true c.if-at-lt4177919.true c.if-r-gt2.true c.if-r-eq1.true c.if-b-lt128.true c.if-b-r.true)

pub returns-then-n-r : goal.returns-then-n-r
returns-then-n-r c = rw (c.if-seen.true, c.if-prev-eq1.true) (zone-two _ _ _ c.if-last-gt0.true c.if-at-gt0.true c.if-at-lt4177919.true c.if-r-gt2.true c.if-r-eq1.true c.if-b-lt128.false c.if-c-lt128.true c.if-n-r.true)
