-- Where a table of starts tells the interval of an instant. To be believed.
use Rattle.std.specs.Prelude.{ℕ, ◌<◌}
use Rattle.zones.specs.Content.{Body, fixed, listed}

-- the instant t is in the list of a zone: before its end, behind which the tail stands; a fixed zone has all of time
abbrev pub Listed : ℕ → Body → Type 0
Listed t (fixed offset n) = Unit {0}
Listed t (listed is end e) = t < end
