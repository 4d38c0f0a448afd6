-- A table of answers, seven numbers a row, and the question over it. To be believed.
use Rattle.base.specs.declared.Refusal.TheVariants.{OutOfRange}
use Rattle.std.specs.declared.option.Option.{Option}
use Rattle.std.specs.declared.option.Option.TheVariants.{None, Some}
use Rattle.base.specs.Coded.{Fault}
use Rattle.std.specs.Prelude.{ℕ, zero, suc, ◌+◌, ◌*◌, ◌/◌, Bool, List, [], ◌∷◌, ◌++◌, eqb, leb, ℤ, pos, negsuc, length, get_or, Err, Ok, Result}
use Rattle.std.specs.Int.Signed.{le_z, lt_z}
use Rattle.base.specs.Pick.{pick, both}
use Rattle.signed.specs.Instant.{instant_of}
use Rattle.zones.specs.declared.Edition.{Edition}
use Rattle.answers.specs.declared.Found.{Found}
use Rattle.halving.specs.Halving.{find_start}
use Rattle.found_zones.specs.FoundZone.{ask_zone}
use Rattle.found_zones.specs.declared.FoundZone.{FoundZone}

-- "An answer carries wall offset, savings, the name as a part of the lent bytes, and the interval's start and end."; after savings, "the standard
-- offset": in the order in which a question gives them
abbrev pub row_of : Found → List ℤ
row_of x = x.wall ∷ x.savings ∷ x.standard ∷ pos x.name ∷ pos x.length ∷ x.start ∷ x.end ∷ []

unfoldable pub rows_of : List Found → List ℤ
rows_of [] = []
rows_of (x ∷ xs) = row_of x ++ rows_of xs

-- a place or a length out of a row; 0 for a number below 0, which no row has that was put
abbrev pub natural : ℤ → ℕ
natural (pos n) = n
natural (negsuc n) = 0

-- the answer in row k, whatever the numbers are
abbrev pub answer_at : List ℤ → ℕ → Found
answer_at rows k =
    record {
      wall = get_or rows (7 * k) (pos 0);
      savings = get_or rows (7 * k + 1) (pos 0);
      standard = get_or rows (7 * k + 2) (pos 0);
      name = natural (get_or rows (7 * k + 3) (pos 0));
      length = natural (get_or rows (7 * k + 4) (pos 0));
      start = get_or rows (7 * k + 5) (pos 0);
      end = get_or rows (7 * k + 6) (pos 0);
    }

-- the starts of n rows from row k on
unfoldable pub starts_from : ℕ → ℕ → List ℤ → List ℤ
starts_from zero k rows = []
starts_from (suc n) k rows = get_or rows (7 * k + 5) (pos 0) ∷ starts_from n (suc k) rows

-- of every row; numbers behind the last whole row are none
abbrev pub starts_of : List ℤ → List ℤ
starts_of rows = starts_from (length rows / 7) 0 rows

-- "An interval holds its start and not its end."; and the row's name is a part of n bytes
abbrev pub holds_in : ℕ → Found → ℤ → Bool
holds_in n x z = both (le_z x.start z) (both (lt_z z x.end) (leb (x.name + x.length) n))

-- the row that halving the starts leaves, where it holds the tick and its name is a part of n bytes
abbrev pub kept_by : ℕ → List ℤ → ℤ → Result (ℕ × ℕ) Fault → Option Found
kept_by n rows z (Ok (k, looks)) = pick (holds_in n (answer_at rows k) z) (Some (answer_at rows k)) None
kept_by n rows z (Err (m, p)) = None

unfoldable pub kept_row : ℕ → List ℤ → ℤ → Option Found
kept_row n rows z = kept_by n rows z (find_start (starts_of rows) z)

abbrev pub answer_or : Option Found → Result Found Fault → Result Found Fault
answer_or (Some x) a = Ok x
answer_or None a = a

-- what a question over a table gives at the signed tick z, whatever the rows are: 14 out of range; the row that holds the tick; and where halving
-- leaves none, what the question on the zone gives
unfoldable pub ask_listed : List ℕ → FoundZone → List ℤ → ℤ → Edition → Result Found Fault
ask_listed f v rows z ed = pick (eqb (instant_of z) 0) (Err (OutOfRange, 0)) (answer_or (kept_row (length f) rows z) (ask_zone f v z ed))
