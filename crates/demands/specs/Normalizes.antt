-- What document 02 and the demands say of normalizing, of what it gives (rewrite_of) and of what it leaves in the output (output_of). To be
-- believed.
use Rattle.base.specs.Refusals.{refusal_number}
use Rattle.base.specs.declared.Refusal.{Refusal}
use Rattle.base.specs.Coded.{Fault}
use Rattle.std.specs.Prelude.{ℕ, ◌≤◌, ◌<◌, ◌≡◌, List, [], ◌∷◌, ◌++◌, pos, length, drop, Err, Ok, Result}
use Rattle.base.specs.Bytes.{Bytes}
use Rattle.base.specs.Numbers.{GivenBack, answering, refusing, number_given, given_by_wrote}
use Rattle.base.specs.Writing.{bytes, wrote, placed}
use Rattle.field_checks.specs.Check.{WellFormed, check_of}
use Rattle.rewrite.specs.Preferred.{content, preferred, rewrite_of, output_of}
use Rattle.rewrite.specs.Numbers.{given_by_rewritten}

-- the check's refusal, "or rewrites": the result, of a check and a writing
abbrev pub given_in_turn : Result (Unit {0}) Fault → Result ℕ Refusal → GivenBack
given_in_turn (Err (n, p)) w = refusing (refusal_number n) p
given_in_turn (Ok tt) w = given_by_wrote w

-- and the output, which was d and holds e after the writing
abbrev pub left_in_turn : Result (Unit {0}) Fault → List ℕ → List ℕ → List ℕ
left_in_turn (Err (n, p)) d e = d
left_in_turn (Ok tt) d e = e

-- Ask 10: "on any bytes and room its result and output are those of the two in turn": of the check of f, then of the writing of its preferred
-- file to the output d
pub record InTurn (f d : List ℕ) : Type 0 where
  pub result : given_by_rewritten (rewrite_of f d) ≡ given_in_turn (check_of f) (wrote (bytes (preferred f)) d)
  pub output : output_of f d ≡ left_in_turn (check_of f) d (placed (bytes (preferred f)) d)

-- Ask 10: "An output of length 0 gets 15 once the file is good: that is the bare check."
pub record BareCheck (f : List ℕ) : Type 0 where
  pub good : WellFormed f → given_by_rewritten (rewrite_of f []) ≡ refusing 15 0
  pub only-good : number_given (given_by_rewritten (rewrite_of f [])) ≡ 15 → WellFormed f

-- normalizing f gives xs: "its length", and at the front of an output with room xs itself, "and leaves later output bytes as found"; else
-- "15: output shorter than the rewritten file" at place 0, and the output as found
pub record NormalizesTo (f xs : List ℕ) : Type 0 where
  pub given : (d : List ℕ) → length xs ≤ length d → given_by_rewritten (rewrite_of f d) ≡ answering (pos (length xs) ∷ [])
  pub left : (d : List ℕ) → length xs ≤ length d → output_of f d ≡ xs ++ drop (length xs) d
  pub no_room : (d : List ℕ) → length d < length xs → given_by_rewritten (rewrite_of f d) ≡ refusing 15 0
  pub as-found : (d : List ℕ) → length d < length xs → output_of f d ≡ d

-- demand 2: "Rewriting gives the one preferred file of the same content; rewriting that again gives it back unchanged."
pub record Normalizes (f : List ℕ) : Type 0 where
  pub file : List ℕ
  pub normalized : NormalizesTo f file
  pub well-formed : WellFormed file
  pub same-content : content file ≡ content f
  -- "the one preferred file": every well-formed file of that content is normalized to it, none is shorter, and no other is as short
  pub one : (h : List ℕ) → WellFormed h → Bytes h → content h ≡ content f → NormalizesTo h file
  pub shortest : (h : List ℕ) → WellFormed h → Bytes h → content h ≡ content f → length file ≤ length h
  pub only : (h : List ℕ) → WellFormed h → Bytes h → content h ≡ content f → length h ≤ length file → h ≡ file
  -- "rewriting that again gives it back unchanged"
  pub again : NormalizesTo file file

-- demand 1: "A refusal .. writes nothing to any buffer lent to us", whatever the bytes f and the output d
pub record Untouched (f d : List ℕ) : Type 0 where
  pub as-found : (number_given (given_by_rewritten (rewrite_of f d)) ≡ 0 → ⊥) → output_of f d ≡ d
