-- The usual codes before a zone's intervals, by their bytes. The code's way, tied to the zone by `ShortPlace` itself.
use Rattle.std.specs.Prelude.{ℕ, ◌+◌, ◌*◌, ◌-◌, ◌%◌, ◌≤◌, ◌≡◌, List, ltb, length, get_or, Ok}
use Rattle.base.specs.Pick.{pick}
use Rattle.counts.specs.Count.{read_count}
use Rattle.pieces.specs.Content.{parse_head}
use Rattle.zones.specs.Parse.{parse_zone}
use Rattle.zones.specs.View.{FrontOf}
use Rattle.zones.specs.declared.ZoneFront.TheVariants.{Listed}

-- an ID of one byte or two
unfoldable pub short_id : List ℕ → ℕ
short_id s = pick (ltb (get_or s 0 0) 128) (get_or s 0 0) (get_or s 0 0 % 128 + 128 * get_or s 1 0)

-- it takes k bytes, one or two, unless k is 0
pub record IdSize (s : List ℕ) (k : ℕ) : Type 0 where
  pub most : k ≤ 2
  pub means : (k ≡ 0 → ⊥) → read_count s ≡ Ok (short_id s, k)

-- the intervals of a zone s stand at a place, behind such an ID, the flag and a count of one byte, unless the place is 0
pub record ShortPlace (pool : ℕ) (s : List ℕ) (place : ℕ) : Type 0 where
  pub far : (place ≡ 0 → ⊥) → 3 ≤ place
  pub inside : (place ≡ 0 → ⊥) → place ≤ length s
  pub front : (place ≡ 0 → ⊥) → FrontOf pool s (parse_zone pool s) (parse_head s) (Listed (short_id s) (get_or s (place - 1) 0) place)
