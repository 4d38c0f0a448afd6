-- The cursor behind fields of which nothing is read. The code's way: stepped-passed and flags-passed (proofs/PassLaws.antt) say that the walk goes on
-- from it as from the cursor before them.
use Rattle.std.specs.Prelude.{List, ℕ, ltb}
use Rattle.base.specs.Pick.{pick}
use Rattle.extents.specs.Extent.{extent_of}
use Rattle.extents.specs.declared.Extent.{Extent}
use Rattle.field_readers.specs.declared.Kept.{Kept}
use Rattle.check_steps.specs.declared.Cursor.{Cursor}

-- a cursor's place and ID, and a cursor from them
abbrev pub extent_at : Cursor → Extent
extent_at c = record { at = c.at; prev = c.prev }

abbrev pub cursor_at : Kept → Extent → Cursor
cursor_at k x = record { at = x.at; prev = x.prev; kept = k }

-- behind an ID above 7, where the whole fields end; other cursors stay
abbrev pub passed : List ℕ → Cursor → Cursor
passed s c = pick (ltb c.prev 8) c (cursor_at c.kept (extent_of s (extent_at c)))
