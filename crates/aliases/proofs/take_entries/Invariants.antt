use mathlib.Core.Path.{◌≡◌}
use lib.ListN.{length, drop}
use Rattle.pool.specs.Pool.{strings_of}
use Rattle.aliases.specs.Field.{all_entries}
use Rattle.aliases.proofs.EntryLaws.{Going}
use Rattle.aliases.proofs.take_entries.Given as goal

abbrev pub invariant-loop-left : goal.invariant-loop-left
invariant-loop-left l = Going (strings_of l.pool) l.d (all_entries (strings_of l.pool) l.n (drop l.from l.d)) l.left l.at l.order l.keys × (length l.order ≡ 8449)

abbrev pub decreases-loop-left : goal.decreases-loop-left
decreases-loop-left l = l.left
