use mathlib.Core.Path.{◌≡◌}
use mathlib.Core.Bool.{false}
use Prim.Native.Nat.{◌-◌}
use lib.ListN.{length}
use Rattle.ids.specs.Ids.{among}
use Rattle.ids.specs.Memory.{texts_of}
use Rattle.trace_records.specs.Passed.{pool_strings, PassedOk}
use Rattle.trace_records.proofs.walk_on.Given as goal

abbrev pub invariant-loop-i : goal.invariant-loop-i
invariant-loop-i l = PassedOk l.s l.d l.e l.order l.froms l.tos (record { at = l.at; prev = l.prev; ids = l.n }) × (among l.id (texts_of (pool_strings l.s l.d l.e) l.order l.n) ≡ false) × (length l.order ≡ length l.initial.order)

abbrev pub decreases-loop-i : goal.decreases-loop-i
decreases-loop-i l = length l.s - l.at
