-- What closing up the pool of a file keeps: "All mentions are renumbered, their total is unchanged, and every question answers as before, places
-- aside." To be believed.
use Rattle.base.specs.declared.Refusal.{Refusal}
use Rattle.base.specs.Coded.{Fault}
use Rattle.std.specs.Prelude.{ℕ, ◌≤◌, ◌≡◌, List, ◌++◌, map, ℤ, length, drop, Err, Ok, Result}
use Rattle.base.specs.All.{All}
use Rattle.zones.specs.declared.Edition.{Edition}
use Rattle.locations.specs.declared.LocationField.{LocationField}
use Rattle.frames.specs.Fields.{fields}
use Rattle.field_checks.specs.Check.{file_pool, version_of, WellFormed}
use Rattle.field_checks.specs.VersionPart.{version_part}
use Rattle.answers.specs.declared.Mark.{Mark}
use Rattle.questions.specs.Question.{ask}
use Rattle.named_fields.specs.Named.{ask_named}
use Rattle.old_named_questions.specs.OldNamed.{ask_named_old}
use Rattle.wall_times.specs.WallTime.{MapsTo}
use Rattle.location_lookup.specs.Location.{location_of}
use Rattle.renumbered_lists.specs.Answers.{SameAnswer as SameLocation}
use Rattle.demands.specs.Same.{SameAnswer}
use Rattle.use_order.specs.Order.{new_number}
use Rattle.mentions.specs.Renumbers.{Renumbers}
use Rattle.closed_files.specs.File.{mentions_in, new_table, closed, close_of, output_of}

-- two mappings of a wall time: the same count, earliest and latest instant, or the same refusal, places aside
pub data SameMapping : Result (ℕ × ℤ × ℤ) Fault → Result (ℕ × ℤ × ℤ) Fault → Type 0 where
  both-map : {n : ℕ} {a e : ℤ} → SameMapping (Ok (n, a, e)) (Ok (n, a, e))
  both-deny : {n : Refusal} {p q : ℕ} → SameMapping (Err (n, p)) (Err (n, q))

-- two version texts, of the files f and h: the same bytes, or the same refusal, places aside
pub data SameVersion (f h : List ℕ) : Result (ℕ × ℕ) Fault → Result (ℕ × ℕ) Fault → Type 0 where
  both-part : {a b n : ℕ} → version_part f (Ok (a, n)) ≡ version_part h (Ok (b, n)) → SameVersion f h (Ok (a, n)) (Ok (b, n))
  both-no-part : {n : Refusal} {p q : ℕ} → SameVersion f h (Err (n, p)) (Err (n, q))

pub record ClosesAsBefore (f : List ℕ) : Type 0 where
  -- the check takes the closed file, and closing that up changes nothing
  pub well-formed : WellFormed (closed f)
  pub again : closed (closed f) ≡ closed f
  -- "All mentions are renumbered, their total is unchanged": one by one, and each new number is that of the same string
  pub mentions : mentions_in (fields (closed f)) ≡ map (new_number (new_table (fields f))) (mentions_in (fields f))
  pub strings : All (Renumbers (file_pool (fields f)) (file_pool (fields (closed f))) (new_number (new_table (fields f)))) (mentions_in (fields f))
  pub total : length (mentions_in (fields (closed f))) ≡ length (mentions_in (fields f))
  -- "and every question answers as before, places aside": by ID and by name, whatever the mark and the edition; over an older dictionary; a wall
  -- time; a location and its countries; the version text
  pub asked : (id : List ℕ) (z : ℤ) (mark : Mark) (ed : Edition) → SameAnswer f (closed f) (ask f id z mark ed) (ask (closed f) id z mark ed)
  pub named : (x : List ℕ) (z : ℤ) (mark : Mark) (ed : Edition) → SameAnswer f (closed f) (ask_named f x z mark ed) (ask_named (closed f) x z mark ed)
  pub old-named : (ds x : List ℕ) (z : ℤ) (ed : Edition) → SameAnswer f (closed f) (ask_named_old f ds x z ed) (ask_named_old (closed f) ds x z ed)
  pub mapped : (id : List ℕ) (local : ℤ) (r s : Result (ℕ × ℤ × ℤ) Fault) → MapsTo f id local r → MapsTo (closed f) id local s → SameMapping r s
  pub located : (field : LocationField) (number : ℕ) → SameLocation f (closed f) (location_of f field number) (location_of (closed f) field number)
  pub version : SameVersion f (closed f) (version_of f) (version_of (closed f))

-- a file f that was closed up to an output d with the result n: the closed file stands in the output's first n bytes, and it answers as before;
-- closing it up again, to any output with room, gives it back
pub record Closes (f d : List ℕ) (n : ℕ) : Type 0 where
  pub size : n ≡ length (closed f)
  pub output : output_of f d ≡ closed f ++ drop n d
  pub keeps : ClosesAsBefore f
  pub size-again : (e : List ℕ) → n ≤ length e → close_of (closed f) e ≡ Ok n
  pub output-again : (e : List ℕ) → n ≤ length e → output_of (closed f) e ≡ closed f ++ drop n e
