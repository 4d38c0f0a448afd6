-- How many instants, the earliest and the latest. To be believed.
use Rattle.std.specs.Prelude.{List, [], ◌∷◌, ℕ, length}
use Rattle.local_times.specs.declared.Tally.{Tally}

unfoldable pub latest_of : ℕ → List ℕ → ℕ
latest_of t [] = t
latest_of t (u ∷ us) = latest_of u us

-- no instant
abbrev pub nothing : Tally
nothing = record { count = 0; earliest = 0; latest = 0 }

-- of a rising list: its length, its first and its last
abbrev pub tally_of : List ℕ → Tally
tally_of [] = nothing
tally_of (t ∷ ts) = record { count = length (t ∷ ts); earliest = t; latest = latest_of t ts }
