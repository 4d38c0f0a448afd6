-- What the code's result stands for. The code's way, tied to the zone's intervals by `NextAt`.
use Rattle.std.specs.Prelude.{ℕ, ◌≤◌, ◌<◌, ◌≡◌, List}
use Rattle.next_intervals.specs.Next.{NextAt}
use Rattle.cursors.specs.declared.Cursor.{Cursor}

-- the next listed interval holds t, and one of five bytes with the start m stands behind it, unless m is 0
pub record UsualEnd (s : List ℕ) (pool : ℕ) (c : Cursor) (t m : ℕ) : Type 0 where
  pub listed : (m ≡ 0 → ⊥) → 1 < c.left
  pub from : (m ≡ 0 → ⊥) → c.held.end ≤ t
  pub to : (m ≡ 0 → ⊥) → t < m
  pub next : NextAt s pool c.place c.next.start m
