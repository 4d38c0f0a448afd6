use mathlib.Core.Path.{ap}
use native.Mathlib.Omega.{arith}
use Rattle.places.proofs.PlaceLaws.{stands-is}
use Rattle.intervals.specs.Scan.{of_interval}
use Rattle.local_times.proofs.ScanLaws.{scanning-start, scanning-in, scanning-bad, scanning-next, scanning-few, scanning-done}
use Rattle.local_lookups.proofs.read_intervals.Goals as goal

pub loop-left-init : goal.loop-left-init
loop-left-init c = scanning-start _ _ _ _ _ c.requires.0

pub read_interval-item-requires : goal.read_interval-item-requires
read_interval-item-requires c = scanning-in _ _ _ _ _ _ _ _ c.loop-left.invariant

pub returns-in-Err : goal.returns-in-Err
returns-in-Err c = scanning-bad _ _ _ _ _ _ _ _ c.loop-left.invariant (omega arith) _ (stands-is c.read_interval-item.ensures (ap of_interval c.in-Err.is))

pub advance-c-requires : goal.advance-c-requires
advance-c-requires c = (omega (arith, c.loop-left.invariant.wall), omega (arith, scanning-few _ _ _ _ _ _ _ _ c.loop-left.invariant, c.requires.1))

pub loop-left-preserved : goal.loop-left-preserved
loop-left-preserved c = rw c.advance-c.ensures (scanning-next _ _ _ _ _ _ _ _ c.loop-left.invariant (omega arith) _ _ (stands-is c.read_interval-item.ensures (ap of_interval c.in-Ok.is)))

pub returns : goal.returns
returns c = scanning-done _ _ _ _ _ _ _ _ c.loop-left.invariant (omega arith)
