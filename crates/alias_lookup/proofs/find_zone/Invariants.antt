use mathlib.Core.Path.{◌≡◌}
use Prim.Native.Nat.{◌≤◌, ◌-◌}
use lib.ListN.{drop}
use Rattle.pool.specs.Pool.{strings_of}
use Rattle.alias_lookup.specs.View.{flagged, flagged_from}
use Rattle.alias_lookup.proofs.find_zone.Given as goal

abbrev pub invariant-loop-j : goal.invariant-loop-j
invariant-loop-j l = (l.j ≤ l.count) × (flagged_from l.j (drop l.j (strings_of l.pool)) l.zones l.id ≡ flagged (strings_of l.pool) l.zones l.id)

abbrev pub decreases-loop-j : goal.decreases-loop-j
decreases-loop-j l = l.count - l.j
