use native.Mathlib.Omega.{arith}
use Prim.Native.Nat.{◌-◌}
use Rattle.old_dictionaries.proofs.EntryLaws.{going_start, going-bad, going_next, going_done}
use Rattle.old_entries.proofs.read_entries.Goals as goal

pub loop-done-init : goal.loop-done-init
loop-done-init c = going_start _ _ _ c.requires

pub take_entry-requires : goal.take_entry-requires
take_entry-requires c = (c.loop-done.invariant.order, c.loop-done.invariant.end, c.loop-done.invariant.walk.inside)

pub returns-in-Bad : goal.returns-in-Bad
returns-in-Bad c = going-bad _ _ _ _ _ _ _ c.loop-done.invariant c.loop-done-test.true _ c.take_entry.ensures _ c.in-Bad.is

pub read_entries-requires : goal.read_entries-requires
read_entries-requires c = c.requires

pub overflow_add-done : goal.overflow_add-done
overflow_add-done c = omega (arith, c.loop-done-test.true)

pub loop-done-smaller : goal.loop-done-smaller
loop-done-smaller c = omega (arith, c.loop-done-test.true)

pub loop-done-preserved : goal.loop-done-preserved
loop-done-preserved c = going_next _ _ _ _ _ _ _ c.loop-done.invariant c.loop-done-test.true _ c.take_entry.ensures _ _ _ c.in-Next.is

pub returns : goal.returns
returns c = going_done _ _ _ _ _ _ _ c.loop-done.invariant (omega arith)
