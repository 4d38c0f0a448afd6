use mathlib.Core.Path.{ap}
use Prim.Native.Nat.{◌-◌}
use native.Mathlib.Omega.{arith}
use Rattle.places.specs.Placed.{of_read}
use Rattle.places.proofs.PlaceLaws.{stands-is}
use Rattle.mention_runs.proofs.RunLaws.{name-here}
use Rattle.renumbering.proofs.RenumberLaws.{measured-none, measured-name, name-most}
use Rattle.renumbering.proofs.size_names.Goals as goal

pub loop-n-init : goal.loop-n-init
loop-n-init c = measured-none _ _ _ _ c.requires.0

pub count_at-requires : goal.count_at-requires
count_at-requires c = c.loop-n.invariant.going.within

pub returns-in-Err : goal.returns-in-Err
returns-in-Err c = c.loop-n.invariant

pub overflow_add-size : goal.overflow_add-size
overflow_add-size c = omega (arith, name-most _ _ _ _ _ _ _ c.loop-n.invariant _ _ c.count_size-size.ensures _ _ _ (name-here _ _ c.loop-n.invariant.going.within _ c.loop-n-test.true _ _ _ _ (stands-is c.count_at.ensures (ap of_read c.in-Ok.is))) c.renumber-k.ensures, c.requires.1)

pub loop-n-preserved : goal.loop-n-preserved
loop-n-preserved c = measured-name _ _ _ _ _ _ _ c.loop-n.invariant _ _ c.count_size-size.ensures _ _ _ (name-here _ _ c.loop-n.invariant.going.within _ c.loop-n-test.true _ _ _ _ (stands-is c.count_at.ensures (ap of_read c.in-Ok.is))) c.renumber-k.ensures

pub returns : goal.returns
returns c = c.loop-n.invariant
