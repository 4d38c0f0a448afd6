use mathlib.Core.Path.{ap}
use Prim.Native.Nat.{◌-◌}
use native.Mathlib.Omega.{arith}
use Rattle.places.specs.Placed.{of_read}
use Rattle.places.proofs.PlaceLaws.{then-in, stands-is}
use Rattle.mention_runs.proofs.RunLaws.{location-here, counted_none, counted-room, counted_next, counted-rest, counted-on}
use Rattle.mention_runs.proofs.count_locations.Goals as goal

pub loop-n-init : goal.loop-n-init
loop-n-init c = counted_none _ _ _ _ c.requires.0

pub count_names-row-requires : goal.count_names-row-requires
count_names-row-requires c = (c.loop-n.invariant.within, counted-rest _ _ _ _ _ _ _ c.loop-n.invariant c.requires.1)

pub shape_of-uses-then-n-gt0 : goal.shape_of-uses-then-n-gt0
shape_of-uses-then-n-gt0 c = (counted-on _ _ _ _ _ _ _ c.loop-n.invariant _ _ _ c.count_names-row.ensures).all

pub returns-then-n-gt0 : goal.returns-then-n-gt0
returns-then-n-gt0 c = (counted-on _ _ _ _ _ _ _ c.loop-n.invariant _ _ _ c.count_names-row.ensures)

pub shape_of-uses-then-k-eq0 : goal.shape_of-uses-then-k-eq0
shape_of-uses-then-k-eq0 c = (counted-on _ _ _ _ _ _ _ c.loop-n.invariant _ _ _ c.count_names-row.ensures).all

pub returns-then-k-eq0 : goal.returns-then-k-eq0
returns-then-k-eq0 c = (counted-on _ _ _ _ _ _ _ c.loop-n.invariant _ _ _ c.count_names-row.ensures)

pub location_names-requires : goal.location_names-requires
location_names-requires c = c.count_names-row.ensures.within

pub shape_of-uses-in-Err : goal.shape_of-uses-in-Err
shape_of-uses-in-Err c = (counted-on _ _ _ _ _ _ _ c.loop-n.invariant _ _ _ c.count_names-row.ensures).all

pub returns-in-Err : goal.returns-in-Err
returns-in-Err c = (counted-on _ _ _ _ _ _ _ c.loop-n.invariant _ _ _ c.count_names-row.ensures)

pub count_at-requires : goal.count_at-requires
count_at-requires c = then-in c.location_names.ensures _ _ (ap of_read c.in-Ok.is)

pub shape_of-uses-in-Err-count_at : goal.shape_of-uses-in-Err-count_at
shape_of-uses-in-Err-count_at c = (counted-on _ _ _ _ _ _ _ c.loop-n.invariant _ _ _ c.count_names-row.ensures).all

pub returns-in-Err-count_at : goal.returns-in-Err-count_at
returns-in-Err-count_at c = (counted-on _ _ _ _ _ _ _ c.loop-n.invariant _ _ _ c.count_names-row.ensures)

pub mention-requires : goal.mention-requires
mention-requires c = counted-room _ _ _ _ _ _ _ (counted-on _ _ _ _ _ _ _ c.loop-n.invariant _ _ _ c.count_names-row.ensures) _ _ _ _ (location-here _ _ c.count_names-row.ensures.within _ _ _ c.if-n-gt0.false c.if-k-eq0.false _ _ (stands-is c.location_names.ensures (ap of_read c.in-Ok.is)) _ _ (stands-is c.count_at.ensures (ap of_read c.in-Ok-count_at.is))) c.requires.1

pub loop-n-smaller : goal.loop-n-smaller
loop-n-smaller c = let x = (location-here _ _ c.count_names-row.ensures.within _ _ _ c.if-n-gt0.false c.if-k-eq0.false _ _ (stands-is c.location_names.ensures (ap of_read c.in-Ok.is)) _ _ (stands-is c.count_at.ensures (ap of_read c.in-Ok-count_at.is))) in omega (arith, x.first, x.rises, x.last, c.count_names-row.ensures.onward)

pub loop-n-preserved : goal.loop-n-preserved
loop-n-preserved c = counted_next _ _ _ _ _ _ _ (counted-on _ _ _ _ _ _ _ c.loop-n.invariant _ _ _ c.count_names-row.ensures) _ _ _ _ (location-here _ _ c.count_names-row.ensures.within _ _ _ c.if-n-gt0.false c.if-k-eq0.false _ _ (stands-is c.location_names.ensures (ap of_read c.in-Ok.is)) _ _ (stands-is c.count_at.ensures (ap of_read c.in-Ok-count_at.is))) _ c.mention.ensures
