-- What each C function says, by the definitions of the crates below. To be believed: what programs in C are told.
use Rattle.found_zones.specs.declared.FoundZone.{FoundZone}
use Rattle.base.specs.Coded.{Fault}
use Rattle.std.specs.Prelude.{ℕ, ◌/◌, Bool, List, ◌≡◌, ℤ, length, get_or, Result}
use Rattle.base.specs.Writing.{Form}
use Rattle.transitions.specs.Transition.{moment_form}
use Rattle.frames.specs.Machine.{walk}
use Rattle.answers.specs.Answers.{no_pool}
use Rattle.locate.specs.Asked.{holder}
use Rattle.found_zones.specs.FoundZone.{FindsZone}
use Rattle.answer_tables.specs.Lists.{ListsAnswers}
use Rattle.zone_replies.specs.Zones.{GivesZone, zone_by, listed_reply}
use Rattle.rewrite.specs.Preferred.{rewrite_of, output_of}
use Rattle.wall_times.specs.WallTime.{MapsTo}
use Rattle.zone_wall_times.specs.ZoneMapping.{MapsZone}
use Rattle.starts.specs.Table.{filled_at, table_at}
use Rattle.differences.specs.Difference.{differences, difference, filled}
use Rattle.closed_files.specs.File.{close_of, output_of as closed_output}
use Rattle.replies.specs.Reply.{Gives}
use Rattle.replies.specs.Functions.{previous_of, moment_of}
use Rattle.location_lookup.specs.Country.{next_of}
use Rattle.file_replies.specs.Functions.{rewritten_result, mapping_reply, edition_of}
use Rattle.location_replies.specs.Locations.{GivesCountry}
use Rattle.tool_replies.specs.Functions.{filling_reply, listing_reply, closed_result}

-- the result r and the output e at the return of normalizing f, where the output was d: "one operation that gives the check's refusal, or
-- rewrites". "A rewrite gives its length and leaves later output bytes as found."
pub record Normalizes (f d : List ℕ) (r : ℕ) (e : List ℕ) : Type 0 where
  pub result : r ≡ rewritten_result (rewrite_of f d)
  pub output : e ≡ output_of f d

-- the result r and the output e at the return of finding a zone, where the output was d: what was found is said by the questions
-- (FindsZone in found_zones)
pub record FindsFoundZone (f id d : List ℕ) (r : ℕ) (e : List ℕ) : Type 0 where
  pub finding : Result FoundZone Fault
  pub finds : FindsZone f id finding
  pub gives : GivesZone finding d r e

-- the result r, the table e and the count n at the return of listing the answers of the found zone whose numbers are b, whatever they are, from a tick
-- on, where table and count were d and c
pub record ListsZoneAnswers (f b : List ℕ) (z : ℤ) (first : Bool) (d c : List ℤ) (r : ℕ) (e n : List ℤ) : Type 0 where
  pub listed : Result ℕ Fault
  pub lists : ListsAnswers f (zone_by b) z (edition_of first) d listed e
  pub gives : Gives (listed_reply listed) c r n

-- the result r and the output e at the return of a local time's mapping, where the output was d. MapsTo leaves one mapping (map-one in
-- wall_times)
pub record MapsLocal (f id : List ℕ) (local : ℤ) (d : List ℤ) (r : ℕ) (e : List ℤ) : Type 0 where
  pub mapping : Result (ℕ × ℤ × ℤ) Fault
  pub maps : MapsTo f id local mapping
  pub gives : Gives (mapping_reply mapping) d r e

-- the same of the found zone whose numbers are c, whatever they are (one-mapping in wall_times: MapsZone leaves one mapping)
pub record MapsZoneLocal (f c : List ℕ) (local : ℤ) (d : List ℤ) (r : ℕ) (e : List ℤ) : Type 0 where
  pub mapping : Result (ℕ × ℤ × ℤ) Fault
  pub maps : MapsZone f (zone_by c) local mapping
  pub gives : Gives (mapping_reply mapping) d r e

-- the result r, the table e and the count n at the return of filling a table of starts, where table and count were d and c: "one call fills a lent
-- table with one zone's listed interval starts", "whatever fills lent room gives how many entries .., later ones as found"
pub record FillsStarts (f id : List ℕ) (d c : List ℤ) (r : ℕ) (e n : List ℤ) : Type 0 where
  pub gives : Gives (filling_reply (filled_at (walk (holder id) no_pool f) d)) c r n
  pub table : e ≡ table_at (walk (holder id) no_pool f) d

-- the result r, the list e and the count n at the return of a difference of two files, where list and count were d and c: "list in time order, by
-- first instant and end, each stretch"
pub record ListsDifference (f g id : List ℕ) (first last : ℤ) (d c : List ℤ) (r : ℕ) (e n : List ℤ) : Type 0 where
  pub gives : Gives (listing_reply (difference f g id first last (length d / 2))) c r n
  pub list : e ≡ filled (difference f g id first last (length d / 2)) (differences f g id first last) d

-- the result r and the output e at the return of closing up the pool of f, where the output was d: "gives how many .. bytes, later ones as found"
pub record ClosesPool (f d : List ℕ) (r : ℕ) (e : List ℕ) : Type 0 where
  pub result : r ≡ closed_result (close_of f d)
  pub output : e ≡ closed_output f d

-- a step of the view c over the file f, whatever its numbers are: where the field's data start and end, the place of the next country in them, and
-- how many are left
abbrev pub StepsView : List ℕ → List ℕ → List ℕ → Bool → List ℕ → List ℕ → Type 0
StepsView f c d r e g = GivesCountry (next_of f (get_or c 0 0) (get_or c 1 0) (get_or c 2 0) (get_or c 3 0)) (get_or c 0 0) (get_or c 1 0) c d r e g

abbrev pub kind_form : Bool → ℤ → ℕ → ℤ → Form
kind_form finite previous kind z = moment_form (previous_of finite previous) (moment_of kind z)
