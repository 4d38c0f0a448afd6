-- The rows behind the first one. The code's way, tied to the answers by `lists-more` (answer_lists/proofs/ListLaws.antt): where a first interval has an end,
-- the edition changes nothing.
use Rattle.std.specs.Prelude.{ℕ, ◌+◌, ◌-◌, ◌/◌, ◌≤◌, Bool, true, ◌≡◌, List, ℤ, length}
use Rattle.std.proofs.lemmas.List.Edits.{sets}
use Rattle.base.specs.Moment.{Finite}
use Rattle.signed.specs.Instant.{ticks_of}
use Rattle.pool.specs.Pool.{strings_of}
use Rattle.pool.specs.Index.{room_of, starts_of, Ready}
use Rattle.location_lookup.specs.Location.{lent_part}
use Rattle.zones.specs.declared.Edition.TheVariants.{Two}
use Rattle.zones.specs.declared.ZoneEnd.{ZoneEnd}
use Rattle.answers.specs.declared.Found.{Found}
use Rattle.cursors.specs.declared.Cursor.{Cursor}
use Rattle.cursors.specs.Cursors.{Points}
use Rattle.found_zones.specs.declared.FoundZone.{FoundZone}
use Rattle.answer_tables.specs.Table.{rows_of}
use Rattle.answer_tables.specs.Lists.{answers_from}

-- the answers of the intervals behind i rows, the first of which starts at the moment m
abbrev pub behind : List ℕ → FoundZone → ℕ → ℕ → ℕ → List Found
behind f v n i m = answers_from f v Two (n - i) (ticks_of m)

-- r and e are the count of rows and the table when those behind the first are put, where the table was d
pub record PutBehind (f : List ℕ) (v : FoundZone) (m : ℕ) (d : List ℤ) (r : ℕ) (e : List ℤ) : Type 0 where
  pub count : r ≡ 1 + length (behind f v (length d / 7) 1 m)
  pub rows : e ≡ sets d 7 (rows_of (behind f v (length d / 7) 1 m))

-- the list ix is an index of the pool d where b says so
pub record Indexed (d ix : List ℕ) (b : Bool) : Type 0 where
  pub ready : b ≡ true → Ready d ix
  pub strings : b ≡ true → room_of d ≡ length (strings_of d)

-- b and e say whether there is an index, and what it is, where there was ix
pub record IndexedAs (d ix : List ℕ) (b : Bool) (e : List ℕ) : Type 0 where
  pub put : e ≡ sets ix 0 (starts_of d)
  pub is : Indexed d e b

-- what the walk over a zone's intervals asks: a cursor at one that starts no later than m
pub record Walks (f : List ℕ) (v : FoundZone) (count : ℕ) (ending : ZoneEnd) (c : Cursor) (m : ℕ) (ix : List ℕ) (b : Bool) (d : List ℤ) : Type 0 where
  pub counts : count ≡ room_of (lent_part f v.pool v.past)
  pub points : Points count (lent_part f v.start v.end) ending c
  pub from : c.held.start ≤ m
  pub finite : Finite m
  pub index : Indexed (lent_part f v.pool v.past) ix b
  pub some : 7 ≤ length d
