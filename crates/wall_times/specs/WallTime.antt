-- Ask 3: "Given a zone, such a time and a whole file, tell us how many instants in range read that way, with the earliest and the latest.
-- Number 17, place 0, exactly if there is none ..; the refusals of a 'this is all' question, 14 aside, come first. .. The definition speaks
-- of instants and offsets, not of a search." It is said of what the question answers. To be believed.
use Rattle.base.specs.declared.Refusal.{Refusal}
use Rattle.base.specs.declared.Refusal.TheVariants.{NoInstant}
use Rattle.base.specs.Coded.{Fault}
use Rattle.std.specs.Prelude.{◌≡◌, List, [], ◌∷◌, ◌⊎◌, ℕ, ℤ, pos, ◌+ℤ◌, ◌*ℤ◌, ◌<ℤ◌, length, Err, Ok, Result}
use Rattle.signed.specs.Instant.{InRange}
use Rattle.zones.specs.declared.Edition.TheVariants.{Two}
use Rattle.answers.specs.declared.Mark.TheVariants.{All}
use Rattle.answers.specs.declared.Found.{Found}
use Rattle.questions.specs.Question.{ask}

-- the "this is all" question, under edition 2; a wall offset is the same under both
abbrev pub ask_all : List ℕ → List ℕ → ℤ → Result Found Fault
ask_all f id z = ask f id z All Two

-- an instant and a wall offset of some milliseconds, 10,000 ticks each, as a local time. The sum is one of integers: none is cut to 64 bits.
abbrev pub local_time : ℤ → ℤ → ℤ
local_time z wall = z +ℤ wall *ℤ pos 10000

-- THE INSTANT z READS AS THE LOCAL TIME, by a question: it is in range, and with the wall offset that the question answers there it comes to
-- that time
pub record ReadsBy (q : ℤ → Result Found Fault) (local z : ℤ) : Type 0 where
  pub in-range : InRange z
  pub given : Found
  pub answer : q z ≡ Ok given
  pub sum : local_time z given.wall ≡ local

abbrev pub ReadsAs : List ℕ → List ℕ → ℤ → ℤ → Type 0
ReadsAs f id local z = ReadsBy (ask_all f id) local z

-- zs has exactly the integers with P, each once, in rising order
abbrev pub Among : ℤ → List ℤ → Type 0
Among z [] = ⊥
Among z (y ∷ ys) = (z ≡ y) ⊎ Among z ys

abbrev pub After : ℤ → List ℤ → Type 0
After z [] = Unit {0}
After z (y ∷ ys) = (z <ℤ y) × After y ys

abbrev pub Ascending : List ℤ → Type 0
Ascending [] = Unit {0}
Ascending (z ∷ zs) = After z zs

pub record Lists (P : ℤ → Type 0) (zs : List ℤ) : Type 0 where
  pub rising : Ascending zs
  pub sound : (z : ℤ) → Among z zs → P z
  pub complete : (z : ℤ) → P z → Among z zs

abbrev pub latest_of : ℤ → List ℤ → ℤ
latest_of z [] = z
latest_of z (y ∷ ys) = latest_of y ys

-- "how many .., with the earliest and the latest. Number 17, place 0, exactly if there is none"
abbrev pub count_of : List ℤ → Result (ℕ × ℤ × ℤ) Fault
count_of [] = Err (NoInstant, 0)
count_of (z ∷ zs) = Ok (length (z ∷ zs), z, latest_of z zs)

pub record Counts (P : ℤ → Type 0) (r : Result (ℕ × ℤ × ℤ) Fault) : Type 0 where
  pub instants : List ℤ
  pub lists : Lists P instants
  pub is : r ≡ count_of instants

-- What a question refuses at an instant in range, r refuses so; else r counts the instants that read as the local time. (one-mapping in
-- proofs/MapLaws.antt: there is one such r at most.)
pub record MapsBy (q : ℤ → Result Found Fault) (local : ℤ) (r : Result (ℕ × ℤ × ℤ) Fault) : Type 0 where
  pub refuses : (z : ℤ) (n : Refusal) (p : ℕ) → InRange z → q z ≡ Err (n, p) → r ≡ Err (n, p)
  pub counts : (z : ℤ) (x : Found) → InRange z → q z ≡ Ok x → Counts (ReadsBy q local) r

-- ASK 3, by the "this is all" question (map-one and map-some in proofs/MapLaws.antt: on any bytes there is one such r)
abbrev pub MapsTo : List ℕ → List ℕ → ℤ → Result (ℕ × ℤ × ℤ) Fault → Type 0
MapsTo f id local r = MapsBy (ask_all f id) local r
