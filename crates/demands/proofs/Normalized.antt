-- NORMALIZING: the check and the rewriting in turn; demands 1 and 2 of it. Assumes nothing.
use Rattle.base.specs.declared.Refusal.TheVariants.{TooShort}
use Rattle.base.specs.Coded.{Fault}
use Rattle.std.specs.Prelude.{Err, Ok, Result}
use mathlib.Core.Path.{◌≡◌, refl, subst}
use mathlib.Core.Bool.{Bool, true, false}
use mathlib.Core.List.{List, [], ◌++◌}
use Prim.Native.Nat.{ℕ}
use native.Mathlib.Omega.{arith}
use lib.ListN.{length, drop}
use lib.Dec.{leb}
use borrow.Author.Tests.{le-leb, lt-leb}
use Rattle.base.specs.Bytes.{Bytes}
use Rattle.base.specs.Pick.{pick}
use Rattle.base.specs.Numbers.{number_given, given_by_wrote}
use Rattle.base.specs.Writing.{bytes, wrote, placed}
use Rattle.field_checks.specs.Check.{WellFormed, check_of}
use Rattle.field_checks.specs.Numbers.{given_by_verdict}
use Rattle.field_checks.proofs.WellFormedLaws.{well-formed-good, good-well-formed}
use Rattle.rewrite.specs.Preferred.{preferred, print_file, given, left, rewrite_of, output_of}
use Rattle.rewrite.specs.Numbers.{given_by_rewritten}
use Rattle.rewrite.proofs.Rewriting.{same-preferred, content-kept, rewritten-well-formed, rewritten-again, shortest}
use Rattle.rewrite.proofs.ShortestLaws.{only-shortest}
use Rattle.rewrite.proofs.Example.{file, file-bytes, file-well-formed}
use Rattle.demands.specs.Normalizes.{given_in_turn, left_in_turn, InTurn, BareCheck, NormalizesTo, Normalizes, Untouched}
use Rattle.demands.specs.Numbers.{OfCheck, check-cut, check-fault, second-zone, second_key, location-fault, InTable}
use Rattle.demands.proofs.Numbers.{check-numbers}

-- THE TWO IN TURN: the result and the output are those of the check and of the writing of the preferred file
pub in-turn : (f d : List ℕ) → InTurn f d
unfolding rewrite_of output_of wrote placed
in-turn f d = record { result = results (check_of f); output = outputs (check_of f) }
  where
    results : (v : Result (Unit {0}) Fault) → given_by_rewritten (given v (preferred f) d) ≡ given_in_turn v (wrote (bytes (preferred f)) d)
    results (Err (n, p)) = refl
    results (Ok tt) = by-room (leb (length (preferred f)) (length d))
      where
        by-room : (t : Bool) → given_by_rewritten (pick t (Ok (length (preferred f))) (Err (TooShort, 0)))
            ≡ given_by_wrote (pick t (Ok (length (preferred f))) (Err TooShort))
        by-room true = refl
        by-room false = refl

    outputs : (v : Result (Unit {0}) Fault) → left v (preferred f) d ≡ left_in_turn v d (placed (bytes (preferred f)) d)
    outputs (Err (n, p)) = refl
    outputs (Ok tt) = refl

-- a well-formed file is normalized to its preferred file
to-preferred : (f : List ℕ) → WellFormed f → NormalizesTo f (preferred f)
unfolding rewrite_of output_of
to-preferred f w =
    let g = well-formed-good f w in
    record {
      given = λ d h. rw (g, le-leb (length (preferred f)) (length d) h);
      left = λ d h. rw (g, le-leb (length (preferred f)) (length d) h);
      no_room = λ d h. rw (g, lt-leb (length (preferred f)) (length d) h);
      as-found = λ d h. rw (g, lt-leb (length (preferred f)) (length d) h);
    }

pub demand-2-normalizing : (f : List ℕ) → WellFormed f → Bytes f → Normalizes f
demand-2-normalizing f w b =
    let p : WellFormed (preferred f) = rewritten-well-formed f w b in
    record {
      file = preferred f;
      normalized = to-preferred f w;
      well-formed = p;
      same-content = content-kept f w b;
      one = λ h v c e. subst (NormalizesTo h) (same-preferred h f e) (to-preferred h v);
      shortest = λ h v c e. shortest f h w b v c e;
      only = λ h v c e l. only-shortest f h v c e l;
      again = subst (NormalizesTo (preferred f)) (rewritten-again f w b) (to-preferred (preferred f) p);
    }

-- THE BARE CHECK: an output of length 0 gets 15 exactly for a well-formed file. The check itself never gives 15.
pub bare-check : (f : List ℕ) → Bytes f → BareCheck f
unfolding rewrite_of print_file
bare-check f b = record { good = λ w. (to-preferred f w).no_room [] (omega arith); only-good = λ e. good-well-formed f (go (check_of f) (check-numbers f b) e) }
  where
    go : (v : Result (Unit {0}) Fault) → InTable OfCheck (given_by_verdict v) → number_given (given_by_rewritten (given v (preferred f) [])) ≡ 15 → v ≡ Ok tt
    go (Ok tt) h e = refl
    go (Err (n, p)) (check-cut q) e = absurd (omega arith)
    go (Err (n, p)) (check-fault q) e = absurd (omega (arith, q.high))
    go (Err (n, p)) (second-zone q) e = absurd (omega arith)
    go (Err (n, p)) (second_key q) e = absurd (omega arith)
    go (Err (n, p)) (location-fault q) e = absurd (omega arith)

pub refused-as-found : (f d : List ℕ) → Untouched f d
unfolding rewrite_of output_of
refused-as-found f d = record { as-found = go (check_of f) }
  where
    by-room : (t : Bool) → (number_given (given_by_rewritten (pick t (Ok (length (preferred f))) (Err (TooShort, 0)))) ≡ 0 → ⊥)
        → pick t (preferred f ++ drop (length (preferred f)) d) d ≡ d
    by-room true e = absurd (e refl)
    by-room false e = refl

    go : (v : Result (Unit {0}) Fault) → (number_given (given_by_rewritten (given v (preferred f) d)) ≡ 0 → ⊥) → left v (preferred f) d ≡ d
    go (Err (m, q)) e = refl
    go (Ok tt) e = by-room (leb (length (preferred f)) (length d)) e

-- the premises are met: a file with transitions in longer forms
pub file-normalizes : Normalizes file
file-normalizes = demand-2-normalizing file file-well-formed file-bytes
