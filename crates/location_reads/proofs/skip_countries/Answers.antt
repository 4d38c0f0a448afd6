use mathlib.Core.Path.{ap}
use native.Mathlib.Omega.{arith}
use Rattle.places.proofs.PlaceLaws.{stands-is}
use Rattle.locations.specs.Find.{of_country}
use Rattle.locations.proofs.ReadLaws.{counting-start, counting-in, counting-bad, counting-next, counting-done}
use Rattle.location_reads.proofs.skip_countries.Goals as goal

pub loop-left-init : goal.loop-left-init
loop-left-init c = counting-start _ _ _ _ c.requires

pub country_at-c-requires : goal.country_at-c-requires
country_at-c-requires c = counting-in _ _ _ _ _ _ c.loop-left.invariant

pub returns-in-Err : goal.returns-in-Err
returns-in-Err c = counting-bad _ _ _ _ _ _ c.loop-left.invariant (omega arith) _
    (stands-is c.country_at-c.ensures (ap of_country c.in-Err.is))

pub loop-left-preserved : goal.loop-left-preserved
loop-left-preserved c = counting-next _ _ _ _ _ _ c.loop-left.invariant (omega arith) _ _
    (stands-is c.country_at-c.ensures (ap of_country c.in-Ok.is))

pub returns : goal.returns
returns c = counting-done _ _ _ _ _ _ c.loop-left.invariant (omega arith)
