-- Halving a table of rows by their starts. The code's way, tied to the table by `kept-holds` and the laws beside it (proofs/RowLaws.antt).
use Rattle.std.specs.Prelude.{ℕ, ◌+◌, ◌*◌, ◌/◌, ◌≤◌, ◌<◌, ◌≡◌, List, ℤ, length, Ok}
use Rattle.halving.specs.Halving.{find_start}
use Rattle.halving.specs.Looks.{Standing}
use Rattle.answer_tables.specs.Table.{starts_of}
use Rattle.table_questions.specs.declared.Rows.{Rows}

-- the rows left are so many, from a place on
pub record Seeking (rows : List ℤ) (z : ℤ) (at left : ℕ) : Type 0 where
  pub low : ℕ
  pub looks : ℕ
  pub place : at ≡ 7 * low
  pub stands : Standing (starts_of rows) z low left looks

abbrev pub Seeks : List ℤ → ℤ → Rows → Type 0
Seeks rows z b = Seeking rows z b.at b.left

-- a look leaves one half of so many
pub record Looked (rows : List ℤ) (z : ℤ) (left : ℕ) (r : Rows) : Type 0 where
  pub seeks : Seeks rows z r
  pub least : left / 2 ≤ r.left
  pub most : r.left ≤ (left + 1) / 2

-- the place of the row that halving leaves
pub record LeftRow (rows : List ℤ) (z : ℤ) (at : ℕ) : Type 0 where
  pub row : ℕ
  pub looks : ℕ
  pub place : at ≡ 7 * row
  pub is : find_start (starts_of rows) z ≡ Ok (row, looks)
  pub inside : at + 7 ≤ length rows
