use mathlib.Core.Path.{ap}
use native.Mathlib.Omega.{arith}
use Rattle.places.proofs.PlaceLaws.{stands-is}
use Rattle.locations.specs.Find.{of_spot}
use Rattle.locations.proofs.FindLaws.{seeking-start, seeking-in, seeking-bad, seeking-next, seeking-over, seeking-done}
use Rattle.location_reads.proofs.read_locations.Goals as goal

pub loop-i-init : goal.loop-i-init
loop-i-init c = seeking-start _ _ _ _ _ _ c.requires

pub read_location-item-requires : goal.read_location-item-requires
read_location-item-requires c = seeking-in _ _ _ _ _ _ _ _ _ c.loop-i.invariant

pub returns-in-Err : goal.returns-in-Err
returns-in-Err c = seeking-bad _ _ _ _ _ _ _ _ _ c.loop-i.invariant (omega arith) _
    (stands-is c.read_location-item.ensures (ap of_spot c.in-Err.is))

pub loop-i-preserved : goal.loop-i-preserved
loop-i-preserved c = rw c.kept-found.ensures
    (seeking-next _ _ _ _ _ _ _ _ _ c.loop-i.invariant (omega arith) _ _
    (stands-is c.read_location-item.ensures (ap of_spot c.in-Ok.is)))

pub returns-then-place-s : goal.returns-then-place-s
returns-then-place-s c = seeking-over _ _ _ _ _ _ _ _ _ c.loop-i.invariant (omega arith) c.if-place-s.true

pub returns : goal.returns
returns c = seeking-done _ _ _ _ _ _ _ _ _ c.loop-i.invariant (omega arith) c.if-place-s.false
