use mathlib.Core.Path.{◌≡◌}
use mathlib.Core.Bool.{true, false}
use Prim.Native.Nat.{◌+◌, ◌*◌, ◌/◌, ◌≤◌}
use native.Mathlib.Omega.{arith}
use lib.IntN.{ℤ, pos}
use lib.Signed.{le_z}
use lib.ListN.{length, get_or}
use mir.Syntax.{w64}
use mir.Val.{to_z, of_z}
use mir.Facts.{to_z-of_z}
use Rattle.table_questions.proofs.RowLaws.{seen, row_kept, row_before}
use Rattle.table_questions.proofs.look.Goals as goal
use Rattle.table_questions.proofs.look.Goals.{After-struct_known-1, After-struct_known-then-rows-at-1, After-t9-1, Else-rows-at}

-- the row looked at is there
row : (c : goal.After-struct_known-1) → c.args.b.at + 7 * (c.args.b.left / 2) + 7 ≤ length c.args.rows.now
row c = seen c.args.rows.now _ _ _ c.requires.0

pub overflow_mul-at : goal.overflow_mul-at
overflow_mul-at c = record { fits = omega (arith, row c, c.well_formed.0.0) }

pub overflow_add-at : goal.overflow_add-at
overflow_add-at c = record { fits = omega (arith, row (goal.at.overflow_add-at c).After-struct_known-1, c.well_formed.0.0) }

pub overflow_add-at-2 : goal.overflow_add-at-2
overflow_add-at-2 c = record { fits = omega (arith, row (goal.at.overflow_add-at-2 c).After-struct_known-1, c.well_formed.0.0) }

pub offset_bounds-rows-at : goal.offset_bounds-rows-at
offset_bounds-rows-at c = record { fits = omega (arith, row (goal.at.offset_bounds-rows-at c).After-struct_known-1, c.well_formed.0.0) }

pub bounds-rows-at : goal.bounds-rows-at
bounds-rows-at c = omega (arith, row (goal.at.bounds-rows-at c).After-struct_known-1)

-- the start looked at
abbrev entry : goal.After-t9-1 → ℤ
entry c = get_or c.args.rows.now (c.args.b.at + 7 * (c.args.b.left / 2) + 5) (pos 0)

entry-is : (c : goal.After-t9-1) → to_z w64 (of_z w64 (entry c)) ≡ entry c
entry-is c = to_z-of_z {w = w64} {z = entry c} (record { sfits = c.t9-1.given })

kept : (c : goal.After-struct_known-then-rows-at-1) → le_z (entry (goal.at.returns-then-rows-at c).After-t9-1) c.args.ticks ≡ true
kept c = rw (entry-is (goal.at.returns-then-rows-at c).After-t9-1, to_z-of_z c.ranges.ticks) at c.if-rows-at.true

after : (c : goal.Else-rows-at) → le_z (entry (goal.at.returns c).After-t9-1) c.args.ticks ≡ false
after c = rw (entry-is (goal.at.returns c).After-t9-1, to_z-of_z c.ranges.ticks) at c.if-rows-at.false

pub returns-then-rows-at : goal.returns-then-rows-at
returns-then-rows-at c = row_kept c.args.rows.now _ _ _ c.requires.0 c.requires.1 (kept c)

pub returns : goal.returns
returns c = row_before c.args.rows.now _ _ _ c.requires.0 c.requires.1 (after c)
