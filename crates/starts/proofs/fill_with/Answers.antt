use Rattle.zone_starts.specs.declared.ZoneStarts.TheVariants.{Filled as Put, Short, Refused as Denied}
use Rattle.locate.proofs.WalkingLaws.{located-found, located-refused, located-cut, located_end}
use Rattle.starts.proofs.WayLaws.{out-refused, out-cut, out-end, out-zone}
use Rattle.starts.proofs.fill_with.Goals as goal

pub slice_bounds-fill-count : goal.slice_bounds-fill-count
slice_bounds-fill-count c = (located-found c.walk.ensures.0 _ c.in-Found.is).order

pub slice_bounds-fill-start : goal.slice_bounds-fill-start
slice_bounds-fill-start c = (located-found c.walk.ensures.0 _ c.in-Found.is).order

pub slice_bounds-fill-end : goal.slice_bounds-fill-end
slice_bounds-fill-end c = (located-found c.walk.ensures.0 _ c.in-Found.is).inside

pub returns-in-Refused : goal.returns-in-Refused
returns-in-Refused c = out-refused _ _ _ _ (located-refused c.walk.ensures.0 _ _ c.in-Refused.is)

pub returns-in-Cut : goal.returns-in-Cut
returns-in-Cut c = out-cut _ _ _ (located-cut c.walk.ensures.0 _ c.in-Cut.is)

pub returns-in-End : goal.returns-in-End
returns-in-End c = out-end _ _ _ _ (located_end c.walk.ensures.0 _ c.in-End.is)

pub returns-in-Refused-fill : goal.returns-in-Refused-fill
returns-in-Refused-fill c = out-zone _ _ _ _ _ (located-found c.walk.ensures.0 _ c.in-Found.is) _ (Denied _) _ c.fill.ensures c.in-Refused-fill.is

pub returns-in-Short : goal.returns-in-Short
returns-in-Short c = out-zone _ _ _ _ _ (located-found c.walk.ensures.0 _ c.in-Found.is) _ Short _ c.fill.ensures c.in-Short.is

pub returns-in-Filled : goal.returns-in-Filled
returns-in-Filled c = out-zone _ _ _ _ _ (located-found c.walk.ensures.0 _ c.in-Found.is) _ (Put _) _ c.fill.ensures c.in-Filled.is
