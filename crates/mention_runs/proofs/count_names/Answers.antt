use mathlib.Core.Path.{ap}
use Rattle.places.specs.Placed.{of_read}
use Rattle.places.proofs.PlaceLaws.{stands-is}
use Rattle.mention_runs.proofs.RunLaws.{name-here, counted_none, counted-room, counted_next}
use Rattle.mention_runs.proofs.count_names.Goals as goal

pub loop-n-init : goal.loop-n-init
loop-n-init c = counted_none _ _ _ _ c.requires.0

pub count_at-requires : goal.count_at-requires
count_at-requires c = c.loop-n.invariant.within

pub shape_of-uses-in-Err : goal.shape_of-uses-in-Err
shape_of-uses-in-Err c = c.loop-n.invariant.all

pub returns-in-Err : goal.returns-in-Err
returns-in-Err c = c.loop-n.invariant

pub mention-requires : goal.mention-requires
mention-requires c = counted-room _ _ _ _ _ _ _ c.loop-n.invariant _ _ _ _ (name-here _ _ c.loop-n.invariant.within _ c.loop-n-test.true _ _ _ _ (stands-is c.count_at.ensures (ap of_read c.in-Ok.is))) c.requires.1

pub loop-n-preserved : goal.loop-n-preserved
loop-n-preserved c = counted_next _ _ _ _ _ _ _ c.loop-n.invariant _ _ _ _ (name-here _ _ c.loop-n.invariant.within _ c.loop-n-test.true _ _ _ _ (stands-is c.count_at.ensures (ap of_read c.in-Ok.is))) _ c.mention.ensures

pub shape_of-uses : goal.shape_of-uses
shape_of-uses c = c.loop-n.invariant.all

pub returns : goal.returns
returns c = c.loop-n.invariant
