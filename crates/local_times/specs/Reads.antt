-- Which instants of a zone read as a local time: it speaks of instants and offsets. To be believed.
use Rattle.std.specs.Prelude.{◌≡◌, List, [], ◌∷◌, ◌⊎◌, ℕ, suc, ◌+◌, ◌*◌, ◌≤◌}
use Rattle.base.specs.Moment.{Finite}
use Rattle.zones.specs.Content.{Zone}
use Rattle.zones.specs.Lookup.{in_zone}

-- A local time is a number of ticks as an instant is, with the 86,400,000 ms (864,000,000,000 ticks) that an offset has added: an instant
-- plus its own wall offset, 10,000 ticks a millisecond.
abbrev pub local_of : Zone → ℕ → ℕ
local_of z t = t + (in_zone t z).wall * 10000

-- the instant t is in range and reads as the local time l
pub record Reads (z : Zone) (l t : ℕ) : Type 0 where
  pub finite : Finite t
  pub sum : local_of z t ≡ l

-- t stands in a list
abbrev pub Among : ℕ → List ℕ → Type 0
Among t [] = ⊥
Among t (u ∷ us) = (t ≡ u) ⊎ Among t us

-- each number is a at least, and after the one before it
abbrev pub Rises : ℕ → List ℕ → Type 0
Rises a [] = Unit {0}
Rises a (t ∷ ts) = (a ≤ t) × Rises (suc t) ts

-- ts has exactly the numbers with P, each once, in rising order
pub record Lists (P : ℕ → Type 0) (ts : List ℕ) : Type 0 where
  pub rises : Rises 0 ts
  pub sound : (t : ℕ) → Among t ts → P t
  pub complete : (t : ℕ) → P t → Among t ts
