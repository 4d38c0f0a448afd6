-- A zone and an interval with other pool numbers, all else kept; and the pool numbers of a zone. To be believed.
use Rattle.std.specs.Prelude.{ℕ, List, [], ◌∷◌, ◌++◌}
use Rattle.intervals.specs.declared.Interval.{Interval}
use Rattle.tails.specs.declared.NamedTail.{NamedTail}
use Rattle.zones.specs.Content.{Ending, untailed, tailed, FixedName, absent, present, Body, fixed, listed, Zone}
use Rattle.zones.specs.declared.Found.{Found}

-- "All mentions are renumbered": each name by the function ρ
abbrev pub renamed_interval : (ℕ → ℕ) → Interval → Interval
renamed_interval ρ i = record { start = i.start; name = ρ i.name; wall = i.wall; savings = i.savings }

unfoldable pub renamed_intervals : (ℕ → ℕ) → List Interval → List Interval
renamed_intervals ρ [] = []
renamed_intervals ρ (i ∷ is) = renamed_interval ρ i ∷ renamed_intervals ρ is

abbrev pub renamed_tail : (ℕ → ℕ) → NamedTail → NamedTail
renamed_tail ρ n = record { tail = n.tail; standard = ρ n.standard; daylight = ρ n.daylight }

unfoldable pub renamed_ending : (ℕ → ℕ) → Ending → Ending
renamed_ending ρ untailed = untailed
renamed_ending ρ (tailed n) = tailed (renamed_tail ρ n)

-- "absent and present-but-equal stay two contents": an absent name stays absent
unfoldable pub renamed_name : (ℕ → ℕ) → FixedName → FixedName
renamed_name ρ absent = absent
renamed_name ρ (present n) = present (ρ n)

unfoldable pub renamed_body : (ℕ → ℕ) → Body → Body
renamed_body ρ (fixed offset n) = fixed offset (renamed_name ρ n)
renamed_body ρ (listed is end e) = listed (renamed_intervals ρ is) end (renamed_ending ρ e)

abbrev pub renamed_zone : (ℕ → ℕ) → Zone → Zone
renamed_zone ρ z = record { id = ρ z.id; body = renamed_body ρ z.body }

-- what a lookup finds
abbrev pub renamed_found : (ℕ → ℕ) → Found → Found
renamed_found ρ x = record { wall = x.wall; savings = x.savings; name = ρ x.name; start = x.start; end = x.end }

-- "count every mention": the pool numbers of a zone in file order, that is its ID, the name of a fixed zone where it has one, the names of the
-- intervals and the two of the tail
unfoldable pub interval_names : List Interval → List ℕ
interval_names [] = []
interval_names (i ∷ is) = i.name ∷ interval_names is

unfoldable pub ending_names : Ending → List ℕ
ending_names untailed = []
ending_names (tailed n) = n.standard ∷ n.daylight ∷ []

unfoldable pub fixed_names : FixedName → List ℕ
fixed_names absent = []
fixed_names (present n) = n ∷ []

unfoldable pub body_names : Body → List ℕ
body_names (fixed offset n) = fixed_names n
body_names (listed is end e) = interval_names is ++ ending_names e

abbrev pub names_of : Zone → List ℕ
names_of z = z.id ∷ body_names z.body
