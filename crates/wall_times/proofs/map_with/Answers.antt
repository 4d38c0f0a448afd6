use mathlib.Core.Path.{sym, ◌∙◌}
use Rattle.locate.proofs.WalkingLaws.{located-found, located-refused, located-cut, located_end}
use Rattle.wall_times.proofs.WayLaws.{out-refused, out-cut, out-end, out-denied, out-found}
use Rattle.wall_times.proofs.map_with.Goals as goal

pub slice_bounds-find-count : goal.slice_bounds-find-count
slice_bounds-find-count c = (located-found c.walk.ensures.0 _ c.in-Found.is).order

pub slice_bounds-find-start : goal.slice_bounds-find-start
slice_bounds-find-start c = (located-found c.walk.ensures.0 _ c.in-Found.is).order

pub slice_bounds-find-end : goal.slice_bounds-find-end
slice_bounds-find-end c = (located-found c.walk.ensures.0 _ c.in-Found.is).inside

pub returns-in-Refused : goal.returns-in-Refused
returns-in-Refused c = out-refused _ _ _ _ (located-refused c.walk.ensures.0 _ _ c.in-Refused.is)

pub returns-in-Cut : goal.returns-in-Cut
returns-in-Cut c = out-cut _ _ _ (located-cut c.walk.ensures.0 _ c.in-Cut.is)

pub returns-in-End : goal.returns-in-End
returns-in-End c = out-end _ _ _ _ (located_end c.walk.ensures.0 _ c.in-End.is)

pub returns-in-Err : goal.returns-in-Err
returns-in-Err c = out-denied _ _ _ _ _ (located-found c.walk.ensures.0 _ c.in-Found.is) _ (sym c.in-Err.is ∙ c.find.ensures)

pub returns-in-Ok : goal.returns-in-Ok
returns-in-Ok c = out-found _ _ _ _ _ (located-found c.walk.ensures.0 _ c.in-Found.is) _ _ (sym c.in-Ok.is ∙ c.find.ensures) c.in_ticks.ensures
