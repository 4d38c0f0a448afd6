use Prim.Native.Nat.{◌-◌, ◌≤◌}
use Rattle.base.specs.Moment.{end_of_time}
use Rattle.cursors.specs.Cursors.{Points}
use Rattle.cursor_steps.proofs.walk.Given as goal

abbrev pub invariant-loop-x : goal.invariant-loop-x
invariant-loop-x l = Points l.pool l.s l.ending l.x × (l.x.held.start ≤ l.t)

abbrev pub decreases-loop-x : goal.decreases-loop-x
decreases-loop-x l = end_of_time - l.x.held.end
