use mathlib.Core.Path.{◌≡◌}
use mathlib.Core.Bool.{true, false}
use mathlib.Core.List.{List}
use Prim.Native.Nat.{ℕ, ◌+◌}
use native.Mathlib.Omega.{arith}
use lib.IntN.{ℤ, pos}
use lib.Signed.{le_z, lt_z}
use lib.ListN.{get_or}
use mir.Syntax.{w64}
use mir.Facts.{to_z-of_z}
use borrow.Author.Rules.{rules}
use Rattle.answer_tables.specs.Table.{natural}
use Rattle.table_questions.proofs.RowLaws.{kept-after, kept-before, kept-outside, kept-holds}
use Rattle.table_questions.proofs.row_at.Goals as goal
use Rattle.table_questions.proofs.row_at.Goals.{After-count_of-length, After-count_of-name, Then-rows-at, Then-ticks-rows}

-- a number of the row that starts at a place
abbrev number : List ℤ → ℕ → ℕ → ℤ
number rows at i = get_or rows (at + i) (pos 0)

started : (c : goal.Then-rows-at) → le_z (number c.args.rows.now c.args.at 5) c.args.ticks ≡ true
started c = rw (to_z-of_z {w = w64} {z = number c.args.rows.now c.args.at 5} (record { sfits = c.t10-1.given }), to_z-of_z c.ranges.ticks) at c.if-rows-at.true

held : (c : goal.Then-ticks-rows) → lt_z c.args.ticks (number c.args.rows.now c.args.at 6) ≡ true
held c = rw (to_z-of_z {w = w64} {z = number c.args.rows.now c.args.at 6} (record { sfits = c.t15-1.given }), to_z-of_z c.ranges.ticks) at c.if-ticks-rows.true

name-is : (c : goal.After-count_of-name) → c.count_of-name.result ≡ natural (number c.args.rows.now c.args.at 3)
name-is c = rw (to_z-of_z {w = w64} {z = number c.args.rows.now c.args.at 3} (record { sfits = c.count_of-arg-1.given })) at c.count_of-name.ensures

length-is : (c : goal.After-count_of-length) → c.count_of-length.result ≡ natural (number c.args.rows.now c.args.at 4)
length-is c = rw (to_z-of_z {w = w64} {z = number c.args.rows.now c.args.at 4} (record { sfits = c.count_of-arg-then-ticks-rows-1.given })) at c.count_of-length.ensures

pub returns-then-n-name : goal.returns-then-n-name
returns-then-n-name c = kept-outside c.args.rows.now _ _ _ c.requires (started (goal.at.returns-then-n-name c).Then-rows-at) (held (goal.at.returns-then-n-name c).Then-ticks-rows)
    (omega (arith, c.if-n-name.true, name-is (goal.at.returns-then-n-name c).After-count_of-name))

pub returns-then-n-name-2 : goal.returns-then-n-name-2
returns-then-n-name-2 c = kept-outside c.args.rows.now _ _ _ c.requires (started (goal.at.returns-then-n-name-2 c).Then-rows-at) (held (goal.at.returns-then-n-name-2 c).Then-ticks-rows)
    (omega (arith, c.if-n-name-2.true, c.if-n-name.false, name-is (goal.at.returns-then-n-name-2 c).After-count_of-name, length-is (goal.at.returns-then-n-name-2 c).After-count_of-length))

pub returns-then-ticks-rows : goal.returns-then-ticks-rows
returns-then-ticks-rows c = rw (
  name-is (goal.at.returns-then-ticks-rows c).After-count_of-name,
  length-is (goal.at.returns-then-ticks-rows c).After-count_of-length,
  to_z-of_z {w = w64} {z = get_or c.args.rows.now c.args.at (pos 0)} (record { sfits = c.result-1.given }),
  to_z-of_z {w = w64} {z = number c.args.rows.now c.args.at 1} (record { sfits = c.result-then-ticks-rows-1.given }),
  to_z-of_z {w = w64} {z = number c.args.rows.now c.args.at 2} (record { sfits = c.result-then-ticks-rows-2-1.given }),
  to_z-of_z {w = w64} {z = number c.args.rows.now c.args.at 5} (record { sfits = c.result-then-ticks-rows-3-1.given }),
  to_z-of_z {w = w64} {z = number c.args.rows.now c.args.at 6} (record { sfits = c.result-then-ticks-rows-4-1.given }),
)
    (kept-holds c.args.rows.now _ _ _ c.requires (started (goal.at.returns-then-ticks-rows c).Then-rows-at) (held (goal.at.returns-then-ticks-rows c).Then-ticks-rows)
    (omega (arith, c.if-n-name-2.false, c.if-n-name.false, name-is (goal.at.returns-then-ticks-rows c).After-count_of-name, length-is (goal.at.returns-then-ticks-rows c).After-count_of-length)))

pub returns-then-rows-at : goal.returns-then-rows-at
returns-then-rows-at c = kept-before c.args.rows.now _ _ _ c.requires (started (goal.at.returns-then-rows-at c).Then-rows-at)
    (rw (to_z-of_z {w = w64} {z = number c.args.rows.now c.args.at 6} (record { sfits = c.t15-1.given }), to_z-of_z c.ranges.ticks) at c.if-ticks-rows.false)

pub returns : goal.returns
returns c = kept-after c.args.rows.now _ _ _ c.requires
    (rw (to_z-of_z {w = w64} {z = number c.args.rows.now c.args.at 5} (record { sfits = c.t10-1.given }), to_z-of_z c.ranges.ticks) at c.if-rows-at.false)

pub overflow_add-at-then-rows-at : goal.overflow_add-at-then-rows-at
overflow_add-at-then-rows-at c = search rules

pub overflow_add-at-then-ticks-rows : goal.overflow_add-at-then-ticks-rows
overflow_add-at-then-ticks-rows c = search rules
