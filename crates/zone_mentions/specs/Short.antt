-- What the short way from an interval's name to the next gives. The code's way, tied to the walk by the records themselves.
use Rattle.std.specs.Prelude.{ℕ, ◌+◌, ◌-◌, ◌≡◌, List, drop}
use Rattle.base.specs.Parsed.{parse}
use Rattle.transitions.specs.Transition.{read_moment}
use Rattle.places.specs.Placed.{at, Stands}
use Rattle.mentions.specs.declared.Stage.TheVariants.{Interval}
use Rattle.mentions.specs.Walk.{behind_details}
use Rattle.zone_mentions.specs.declared.Start.{Start}

-- where m is not 0, the start m after prev stands at a place in two bytes
pub record HoursAt (s : List ℕ) (place prev m : ℕ) : Type 0 where
  pub moment : (m ≡ 0 → ⊥) → Stands s (parse (read_moment prev) (drop place s)) (at m (place + 2))

-- where m is not 0, two offsets of a byte stand at a place behind the name of an interval that starts at prev, and the start m of the next in two
pub record ShortAt (s : List ℕ) (place prev m : ℕ) : Type 0 where
  pub ahead : (m ≡ 0 → ⊥) → (left : ℕ) → (left ≡ 0 → ⊥) → Stands s (behind_details prev left (drop place s)) (at (Interval m (left - 1)) (place + 4))

-- where its place is not 0, r is the start of the interval behind one that starts at prev, and stands behind the offsets at a place
pub record StartAt (s : List ℕ) (place prev : ℕ) (r : Start) : Type 0 where
  pub ahead : (r.place ≡ 0 → ⊥) → (left : ℕ) → (left ≡ 0 → ⊥) → Stands s (behind_details prev left (drop place s)) (at (Interval r.start (left - 1)) r.place)
