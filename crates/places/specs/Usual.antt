-- Offsets at a place, by hand. The code's way, tied to the offset code by `UsualAt` itself.
use Rattle.std.specs.Prelude.{ℕ, ◌+◌, ◌≡◌, List, ltb, drop, get_or}
use Rattle.base.specs.Pick.{pick}
use Rattle.base.specs.Parsed.{parse}
use Rattle.offsets.specs.Offset.{read_sum}
use Rattle.places.specs.Placed.{at, Stands}

-- how many bytes an offset of half hours, minutes, seconds or milliseconds takes, by its first one
unfoldable pub usual_size : ℕ → ℕ
usual_size b = pick (ltb b 128) 1 (pick (ltb b 160) 2 (pick (ltb b 192) 3 4))

-- v, where it is not 0, is the sum of the offset at a place
pub record UsualAt (s : List ℕ) (place v : ℕ) : Type 0 where
  pub stands : (v ≡ 0 → ⊥) → Stands s (parse read_sum (drop place s)) (at v (place + usual_size (get_or s place 0)))
