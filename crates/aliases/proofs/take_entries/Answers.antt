use mathlib.Core.Path.{sym}
use Prim.Native.Nat.{ℕ}
use lib.ListN.{length-replicate}
use native.Mathlib.Omega.{arith}
use Rattle.pool.proofs.PoolLaws.{few}
use Rattle.ids.proofs.MemoryLaws.{sorted-most}
use Rattle.aliases.proofs.EntryLaws.{going_start, going-bad, going_next, going-good, going-over}
use Rattle.aliases.proofs.take_entries.Goals as goal

pub loop-left-init : goal.loop-left-init
loop-left-init c = (going_start _ _ _ _ (few _) c.requires.2, length-replicate {A = ℕ} 8449 0)

pub slice_bounds-take_entry-end : goal.slice_bounds-take_entry-end
slice_bounds-take_entry-end c = sym c.loop-left.invariant.1

pub take_entry-t-requires : goal.take_entry-t-requires
take_entry-t-requires c = (c.requires.0, c.requires.1, c.loop-left.invariant.0.inside, c.loop-left.invariant.0.keeps.sorted)

pub returns-in-Err : goal.returns-in-Err
returns-in-Err c = going-bad _ _ _ _ _ _ _ c.loop-left.invariant.0 _ c.loop-left-test.true _ c.take_entry-t.ensures _ c.in-Err.is

pub overflow_add-keys : goal.overflow_add-keys
overflow_add-keys c = omega (arith, few c.args.pool.now, sorted-most _ _ _ c.loop-left.invariant.0.keeps.sorted)

pub loop-left-preserved : goal.loop-left-preserved
loop-left-preserved c = (going_next _ _ _ _ _ _ _ c.loop-left.invariant.0 _ c.loop-left-test.true _ c.take_entry-t.ensures _ c.in-Ok.is, c.order-in-loop-left-1.given)

pub returns-then-at-d : goal.returns-then-at-d
returns-then-at-d c = going-good _ _ _ _ _ _ _ c.loop-left.invariant.0 (omega arith) c.if-at-d.true

pub returns : goal.returns
returns c = going-over _ _ _ _ _ _ _ c.loop-left.invariant.0 (omega arith) c.if-at-d.false
