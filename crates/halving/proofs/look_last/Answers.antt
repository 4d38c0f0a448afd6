use mathlib.Core.Path.{◌≡◌}
use mathlib.Core.Bool.{true, false}
use Prim.Native.Nat.{◌+◌, ◌/◌}
use lib.IntN.{ℤ, pos}
use lib.Signed.{le_z}
use lib.ListN.{get_or}
use mir.Syntax.{w64}
use mir.Val.{to_z, of_z}
use mir.Facts.{to_z-of_z}
use Rattle.halving.proofs.LookLaws.{last-kept, last-before}
use Rattle.halving.proofs.look_last.Goals as goal
use Rattle.halving.proofs.look_last.Goals.{After-t8-1, Else-table-middle, Then-table-middle}

-- the entry looked at
abbrev entry : goal.After-t8-1 → ℤ
entry c =
    get_or
    c.args.table.now
    ((c.args.b.low + c.args.b.high) / 2)
    (pos 0)

entry-is : (c : goal.After-t8-1) → to_z w64 (of_z w64 (entry c)) ≡ entry c
entry-is c = to_z-of_z {w = w64} {z = entry c} (record { sfits = c.t8-1.given })

kept : (c : goal.Then-table-middle) → le_z (entry (goal.at.returns-then-table-middle c).After-t8-1) c.args.instant ≡ true
kept c = rw (entry-is (goal.at.returns-then-table-middle c).After-t8-1, to_z-of_z c.ranges.instant) at c.if-table-middle.true

after : (c : goal.Else-table-middle) → le_z (entry (goal.at.returns c).After-t8-1) c.args.instant ≡ false
after c = rw (entry-is (goal.at.returns c).After-t8-1, to_z-of_z c.ranges.instant) at c.if-table-middle.false

pub returns-then-table-middle : goal.returns-then-table-middle
returns-then-table-middle c = last-kept _ _ _ _ _ c.requires.0 c.requires.1 (kept c)

pub returns : goal.returns
returns c = last-before _ _ _ _ _ c.requires.0 c.requires.1 (after c)
