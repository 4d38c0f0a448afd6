use mathlib.Core.Path.{◌≡◌}
use lib.IntN.{ℤ, pos}
use lib.ListN.{get_or}
use mir.Syntax.{w64}
use mir.Val.{to_z, of_z}
use mir.Facts.{to_z-of_z}
use Rattle.halving.proofs.keeps.Goals as goal
use Rattle.halving.proofs.keeps.Goals.{After-t6-1}

-- the entry looked at
abbrev entry : goal.After-t6-1 → ℤ
entry c = get_or c.args.table.now c.args.at (pos 0)

entry-is : (c : goal.After-t6-1) → to_z w64 (of_z w64 (entry c)) ≡ entry c
entry-is c = to_z-of_z {w = w64} {z = entry c} (record { sfits = c.t6-1.given })

pub returns-then-table-at : goal.returns-then-table-at
returns-then-table-at c = rw (rw (entry-is (goal.at.returns-then-table-at c).After-t6-1, to_z-of_z c.ranges.instant) at c.if-table-at.true)

pub returns-else-table-at : goal.returns-else-table-at
returns-else-table-at c = rw (rw (entry-is (goal.at.returns-else-table-at c).After-t6-1, to_z-of_z c.ranges.instant) at c.if-table-at.false)
