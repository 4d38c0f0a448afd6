-- What the check of a file has shown, and what the functions rely on. The code's way: internal functions alone use it.
use Rattle.std.specs.Prelude.{ℕ, ◌≤◌, ◌<◌, ◌+◌, ◌≡◌, Bool, true, List, [], ◌∷◌, length, take, get_or}
use Rattle.renumbering.specs.Run.{Small}
use Rattle.base.specs.All.{All}
use Rattle.frames.specs.Fields.{fields}
use Rattle.frames.specs.Covers.{Covers}
use Rattle.frames.specs.Frame.{Field}
use Rattle.mentions.specs.Content.{numbers_of}
use Rattle.counted_zones.specs.Steps.{zone_names, zone_end}
use Rattle.closed_files.specs.File.{mentions_in, closed_data, closed_fields}
use Rattle.closed_fields.specs.View.{NumbersKept, PoolChecked}

-- the data d of a field with the ID i, where that is a zone's, are a zone whose names stand where its codes' first bytes say
pub record ZoneStepped (i : ℕ) (d : List ℕ) : Type 0 where
  pub names : i ≡ 1 → zone_names d ≡ numbers_of i d
  pub within : i ≡ 1 → zone_end d ≤ length d

-- the fields of f stand behind the version, one behind the other to its end, and its pool and its zones are such as the check takes
pub record Walkable (f : List ℕ) : Type 0 where
  pub covers : Covers f 4 (fields f)
  pub version : take 4 f ≡ 0 ∷ 0 ∷ 0 ∷ 0 ∷ []
  pub limit : length f ≤ 4194304
  pub pools : All (λ g. PoolChecked g.id g.body) (fields f)
  pub zones : All (λ g. ZoneStepped g.id g.body) (fields f)

-- where kept holds, each number of an order stands at its own place
pub record InPlace (kept : Bool) (order : List ℕ) : Type 0 where
  pub at_place : kept ≡ true → (j : ℕ) → j < length order → get_or order j 0 ≡ j

-- an order of pool numbers and a table of new ones, for a file whose closed file is no larger than a file may be; and whether the file's mentions
-- keep their numbers
pub record Closable (f order table : List ℕ) (kept : Bool) : Type 0 where
  pub walkable : Walkable f
  pub few : length order ≤ 8192
  pub small : Small table
  pub total : 4 + length (closed_fields order table (fields f)) ≤ 4194304
  pub keeps : NumbersKept kept table (mentions_in (fields f))

-- the lengths of the closed data of some fields
unfoldable pub sizes_of : List ℕ → List ℕ → List Field → List ℕ
sizes_of order table [] = []
sizes_of order table (g ∷ gs) = length (closed_data order table g.id g.body) ∷ sizes_of order table gs

-- the list sizes begins with the numbers ns, as far as both go
pub record HasSizes (sizes ns : List ℕ) : Type 0 where
  pub same : (j : ℕ) → j < length sizes → j < length ns → get_or sizes j 0 ≡ get_or ns j 0

-- the list sizes has n at the place j, as far as it goes
pub record SizeAt (sizes : List ℕ) (j n : ℕ) : Type 0 where
  pub same : j < length sizes → get_or sizes j 0 ≡ n
