-- How a walk over a field's data goes from one mention of a pool string to the next: "count every mention in the fields we read". The codes
-- between two mentions are stepped over, whatever they say; what is read is the stage behind the next mention and the bytes from that on, none
-- where there is no more. To be believed.
use Rattle.std.specs.Prelude.{ℕ, ◌+◌, ◌*◌, ◌/◌, ◌-◌, Bool, true, false, List, [], eqb}
use Rattle.base.specs.Pick.{pick}
use Rattle.base.specs.Parsed.{Parsed, got, bind, parse, parse_byte}
use Rattle.base.specs.Moment.{end_of_time}
use Rattle.counts.specs.Count.{read_count}
use Rattle.offsets.specs.Offset.{read_sum}
use Rattle.transitions.specs.Transition.{read_moment}
use Rattle.places.specs.Name.{read_zigzag}
use Rattle.mentions.specs.declared.Stage.{Stage}
use Rattle.mentions.specs.declared.Stage.TheVariants.{Zone, Flag, Interval, Rule, Aliases, Locations, Names, Rest}

-- no mention follows
abbrev pub no_more : Parsed Stage
no_more = got Rest []

-- "Tail: standard offset, standard name, standard rule, daylight name, ..": behind the standard name stands a rule, "a byte .., month as count, day as
-- signed count, time of day as an offset code"
unfoldable pub behind_rule : List ℕ → Parsed Stage
behind_rule s =
    bind (parse_byte s) (λ b r. bind (parse read_count r) (λ month r. bind (parse read_zigzag r) (λ day r. bind (parse read_sum r) (λ time r. got Rest r))))

-- "then the end transition; tail byte 0 or 1; the tail if 1"
unfoldable pub behind_end : List ℕ → Parsed Stage
behind_end s = bind (parse_byte s) (λ b r. pick (eqb b 1) (bind (parse read_sum r) (λ offset r. got Rule r)) no_more)

-- "for each, transition, name, wall offset, savings; then the end transition": a transition after prev, with so many intervals left
unfoldable pub behind_start : ℕ → ℕ → List ℕ → Parsed Stage
behind_start prev left s =
    bind (parse (read_moment prev) s) (λ start r. pick (eqb left 0) (behind_end r) (got (Interval start (left - 1)) r))

unfoldable pub behind_details : ℕ → ℕ → List ℕ → Parsed Stage
behind_details start left s = bind (parse read_sum s) (λ wall r. bind (parse read_sum r) (λ savings r. behind_start start left r))

-- "Flag 1, fixed: offset, then name": where the data end behind the offset, there is no mention
unfoldable pub behind_offset : List ℕ → Parsed Stage
behind_offset s = bind (parse read_sum s) (λ offset r. got Rest r)

-- "Flag 2: interval count"
unfoldable pub behind_interval_count : List ℕ → Parsed Stage
behind_interval_count s = bind (parse read_count s) (λ n r. behind_start end_of_time n r)

-- "A zone is ID, flag, rest"
unfoldable pub behind_id : List ℕ → Parsed Stage
behind_id s = bind (parse_byte s) (λ flag r. pick (eqb flag 1) (behind_offset r) (pick (eqb flag 2) (behind_interval_count r) no_more))

-- "signed counts of seconds north and east, then the texts": name and code of each country, zone ID, comment. A location of field 6 has one
-- country, one of field 7 a number of them, a signed count that isn't negative. How many names stand behind the first, and the bytes from that on
unfoldable pub numbered_names : List ℕ → Parsed ℕ
numbered_names s = bind (parse read_zigzag s) (λ v r. got (2 * (v / 2) + 1) r)

unfoldable pub location_names : Bool → List ℕ → Parsed ℕ
location_names numbered s =
    bind (parse read_zigzag s) (λ latitude r. bind (parse read_zigzag r) (λ longitude r. pick numbered (numbered_names r) (got 3 r)))

-- n names in a row, then so many locations
unfoldable pub before_names : ℕ → ℕ → Bool → List ℕ → Parsed Stage
before_names n locations numbered s =
    pick (eqb n 0)
    (pick (eqb locations 0) no_more (bind (location_names numbered s) (λ k r. got (Names k (locations - 1) numbered) r)))
    (got (Names (n - 1) locations numbered) s)

-- "the alias dictionary (a count, then pairs of pool strings: alias, target)"
unfoldable pub before_pairs : List ℕ → Parsed Stage
before_pairs s = bind (parse read_count s) (λ n r. before_names (2 * n) 0 false r)

-- a count, then the locations
unfoldable pub before_locations : Bool → List ℕ → Parsed Stage
before_locations numbered s = bind (parse read_count s) (λ n r. before_names 0 n numbered r)

-- the stage behind the next mention, and the bytes from that mention on
unfoldable pub ahead_of : Stage → List ℕ → Parsed Stage
ahead_of Zone s = got Flag s
ahead_of Flag s = behind_id s
ahead_of (Interval start left) s = behind_details start left s
ahead_of Rule s = behind_rule s
ahead_of Aliases s = before_pairs s
ahead_of (Locations numbered) s = before_locations numbered s
ahead_of (Names n locations numbered) s = before_names n locations numbered s
ahead_of Rest s = no_more

-- where the walk over a field with the ID i begins: zones, the alias dictionary and locations have mentions; "in field 2 .. length and bytes stand in
-- place"
unfoldable pub first_stage : ℕ → Stage
first_stage i =
    pick (eqb i 1) Zone (pick (eqb i 3) Aliases (pick (eqb i 6) (Locations false) (pick (eqb i 7) (Locations true) Rest)))
