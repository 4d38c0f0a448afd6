-- Ask 14, first tool: "given two whole files, a zone and a window of instants (first in, last out; 14 if either is out of range), list in
-- time order, by first instant and end, each stretch of it where offset, savings or name differ and that can't be made longer; a
-- question's refusals on the first file come first, then on the second, then 15 exactly if the lent list is too small." It is said of what
-- the question answers at each instant. To be believed.
use Rattle.base.specs.declared.Refusal.TheVariants.{OutOfRange, TooShort}
use Rattle.base.specs.Coded.{Fault}
use Rattle.std.specs.Prelude.{ℕ, ◌/◌, ◌≡◌, Bool, false, not, List, ◌++◌, ℤ, leb, eqb, length, drop, Err, Ok, Result}
use Rattle.std.specs.Int.Signed.{le_z}
use Rattle.base.specs.Pick.{pick, both}
use Rattle.base.specs.Equal.{equal}
use Rattle.signed.specs.Instant.{instant_of, ticks_of}
use Rattle.zones.specs.declared.Edition.TheVariants.{Two}
use Rattle.answers.specs.Answers.{name_of}
use Rattle.answers.specs.declared.Mark.TheVariants.{All}
use Rattle.answers.specs.declared.Found.{Found}
use Rattle.questions.specs.Question.{ask}
use Rattle.stretches.specs.Stretches.{Stretch, stretches, numbers_of}

-- "Their questions mean 'this is all', edition 2"
abbrev pub ask_all : List ℕ → List ℕ → ℤ → Result Found Fault
ask_all f id z = ask f id z All Two

abbrev pub same_number : ℤ → ℤ → Bool
same_number a b = both (le_z a b) (le_z b a)

-- "where offset, savings or name differ": x is an answer of the file f and y one of g; the names are compared byte for byte
unfoldable pub differ : List ℕ → Found → List ℕ → Found → Bool
differ f x g y = not (both (same_number x.wall y.wall) (both (same_number x.savings y.savings) (equal (name_of f x) (name_of g y))))

abbrev pub answers_differ : List ℕ → Result Found Fault → List ℕ → Result Found Fault → Bool
answers_differ f (Ok x) g (Ok y) = differ f x g y
answers_differ f (Ok x) g (Err (n, p)) = false
answers_differ f (Err (n, p)) g y = false

-- at an instant, given as a moment
abbrev pub differ_at : List ℕ → List ℕ → List ℕ → ℕ → Bool
differ_at f g id t = answers_differ f (ask_all f id (ticks_of t)) g (ask_all g id (ticks_of t))

-- THE STRETCHES OF THE WINDOW (stretches' law `stretches-list`: its maximal runs of such instants, all of them, in time order)
abbrev pub differences : List ℕ → List ℕ → List ℕ → ℤ → ℤ → List Stretch
differences f g id first last = stretches (differ_at f g id) (instant_of first) (instant_of last)

-- "15 exactly if the lent list is too small": room is how many stretches it has places for
unfoldable pub listed : List Stretch → ℕ → Result ℕ Fault
listed xs room = pick (leb (length xs) room) (Ok (length xs)) (Err (TooShort, 0))

-- "a question's refusals on the first file come first, then on the second"
abbrev pub after_both : Result Found Fault → Result Found Fault → Result ℕ Fault → Result ℕ Fault
after_both (Err (n, p)) y r = Err (n, p)
after_both (Ok x) (Err (n, p)) r = Err (n, p)
after_both (Ok x) (Ok y) r = r

-- "14 if either is out of range"; a question's refusals are the same at every instant in range
unfoldable pub difference : List ℕ → List ℕ → List ℕ → ℤ → ℤ → ℕ → Result ℕ Fault
difference f g id first last room =
    pick (eqb (instant_of first) 0) (Err (OutOfRange, 0)) (pick (eqb (instant_of last) 0) (Err (OutOfRange, 0))
    (after_both (ask_all f id first) (ask_all g id first) (listed (differences f g id first last) room)))

-- "whatever fills lent room gives how many entries .., later ones as found"; "Every refusal keeps all lent output as found"
unfoldable pub filled : Result ℕ Fault → List Stretch → List ℤ → List ℤ
filled (Ok n) xs d = numbers_of xs ++ drop (length (numbers_of xs)) d
filled (Err (n, p)) xs d = d

-- THE RESULT r AND THE LIST e at the return, where the list was d: two numbers a stretch
pub record Gives (f g id : List ℕ) (first last : ℤ) (d : List ℤ) (r : Result ℕ Fault) (e : List ℤ) : Type 0 where
  pub result : r ≡ difference f g id first last (length d / 2)
  pub output : e ≡ filled r (differences f g id first last) d
