-- DEMAND 3 FOR A RECEIVER, between two resets: what was said stays as pieces come; the numbers of its questions, and its place.
-- Assumes nothing.
use Rattle.base.specs.declared.Refusal.TheVariants.{TooShort}
use Rattle.std.specs.Prelude.{Err}
use mathlib.Core.Path.{◌≡◌, refl, sym, ◌∙◌, ap, subst}
use mathlib.Core.List.{List, [], ◌++◌}
use Prim.Native.Nat.{ℕ, ◌≤◌}
use lib.IntN.{ℤ}
use lib.ListN.{length, take}
use lib.Dec.{leb}
use Rattle.base.specs.Numbers.{GivenBack, answering, refusing}
use Rattle.base.proofs.Tests.{pick-holds}
use Rattle.zones.specs.declared.Edition.{Edition}
use Rattle.frames.specs.Fields.{place_of, unfinished}
use Rattle.frames.proofs.PartLaws.{walk-ended}
use Rattle.field_checks.specs.Check.{job, start as nothing_Seen, WellFormed}
use Rattle.receivers.specs.declared.Receiver.{Receiver}
use Rattle.receivers.specs.Receive.{held_bytes}
use Rattle.receivers.specs.OnHeld.{on_held}
use Rattle.receivers.specs.Calls.{Call, State, held_in, start, run, accepted, in_pieces}
use Rattle.receivers.proofs.CallLaws.{receives, grows}
use Rattle.receivers.proofs.HeldLaws.{asks-accepted}
use Rattle.questions.specs.Question.{ask}
use Rattle.named_fields.specs.Named.{ask_named}
use Rattle.answers.specs.Answers.{number_of}
use Rattle.answers.specs.Numbers.{given_by_answer}
use Rattle.answers.specs.declared.Mark.{Mark}
use Rattle.answers.specs.declared.Mark.TheVariants.{More}
use Rattle.demands.specs.Zones.{InRange}
use Rattle.demands.specs.Parts.{Expecting, ask_more}
use Rattle.demands.specs.Received.{ask_on, ask_more_on, ask_named_on, StandingOn, StandingNamedOn, PartOn}
use Rattle.demands.specs.Numbers.{OfQuestion, OfHeld, on-held, over-full, InTable}
use Rattle.demands.proofs.Growth.{demand-3, demand-3-part}
use Rattle.demands.proofs.NamedExact.{standing-named}
use Rattle.demands.proofs.Numbers.{question-numbers}

-- a question on what calls made is one on the bytes that are held
on-made : {A : Type 0} (full : A) (q : List ℕ → A) (d : List ℕ) (cs : List Call)
    → on_held full q (run (start d) cs).receiver (run (start d) cs).buffer ≡ q (held_in (run (start d) cs))
on-made full q d cs = asks-accepted full q d cs ∙ ap q (sym (receives d cs).bytes)

-- after any calls cs over a buffer d, pieces ps and no reset
pub demand-3-received : (ed : Edition) (e : Expecting) (d : List ℕ) (cs : List Call) (ps : List (List ℕ)) (id : List ℕ) (z : ℤ) (mark : Mark)
    → StandingOn ed e (run (start d) cs) (run (start d) (cs ++ in_pieces ps)) id z mark
demand-3-received ed e d cs ps id z mark =
    let s = run (start d) cs in
    let g = grows d cs ps in
    let a : ask_more_on e s id z ed ≡ ask_more e (held_in s) id z ed = on-made (Err (TooShort, 0)) (λ bs. ask_more e bs id z ed) d cs in
    let b = on-made (Err (TooShort, 0)) (λ bs. ask bs id z mark ed) d (cs ++ in_pieces ps) in
    let w = demand-3 ed e (held_in s) g.more id z mark in
    record {
      same = λ n. b ∙ ap (λ (bs : List ℕ). ask bs id z mark ed) g.behind ∙ w.same (λ k. n (ap number_of a ∙ k)) ∙ sym a;
      same_name = λ x h. rw g.behind (w.same_name x (sym a ∙ h));
    }

pub demand-3-received-named : (ed : Edition) (d : List ℕ) (cs : List Call) (ps : List (List ℕ)) (name : List ℕ) (z : ℤ) (mark : Mark)
    → StandingNamedOn ed (run (start d) cs) (run (start d) (cs ++ in_pieces ps)) name z mark
demand-3-received-named ed d cs ps name z mark =
    let s = run (start d) cs in
    let g = grows d cs ps in
    let a : ask_named_on s name z More ed ≡ ask_named (held_in s) name z More ed = on-made (Err (TooShort, 0)) (λ bs. ask_named bs name z More ed) d cs in
    let b = on-made (Err (TooShort, 0)) (λ bs. ask_named bs name z mark ed) d (cs ++ in_pieces ps) in
    let w = standing-named ed (held_in s) g.more name z mark in
    record {
      same = λ n. b ∙ ap (λ (bs : List ℕ). ask_named bs name z mark ed) g.behind ∙ w.same (λ k. n (ap number_of a ∙ k)) ∙ sym a;
      same_name = λ x h. rw g.behind (w.same_name x (sym a ∙ h));
    }

-- where the accepted pieces are the first k bytes of a well-formed file
pub demand-3-received-part : (ed : Edition) (e : Expecting) (d : List ℕ) (cs : List Call) (f id : List ℕ) (z : ℤ) (k : ℕ) → WellFormed f → InRange z → k ≤ length f
    → accepted (length d) [] cs ≡ take k f → PartOn ed e (run (start d) cs) f id z k
demand-3-received-part ed e d cs f id z k w r l h = record {
  answers = asks-accepted (Err (TooShort, 0)) (λ bs. ask_more e bs id z ed) d cs ∙ ap (λ (bs : List ℕ). ask_more e bs id z ed) h;
  part = demand-3-part ed e f id z k w r l;
}

-- THE NUMBERS OF A QUESTION OF A RECEIVER, on any state: those of the question, and 15
in_held : (P : ℕ → Type 0) (x : GivenBack) → InTable P x → InTable (OfHeld P) x
in_held P (answering vs) h = tt
in_held P (refusing n p) h = on-held h

pub held-numbers : {A : Type 0} (P : ℕ → Type 0) (given : A → GivenBack) (full : A) (q : List ℕ → A) → given full ≡ refusing 15 0
    → ((bs : List ℕ) → InTable P (given (q bs))) → (r : Receiver) (d : List ℕ) → InTable (OfHeld P) (given (on_held full q r d))
held-numbers P given full q e h r d =
    pick-holds (λ a. InTable (OfHeld P) (given a)) (leb r.held (length d))
    (λ t. in_held P (given (q (held_bytes r d))) (h (held_bytes r d)))
    (λ t. subst (InTable (OfHeld P)) (sym e) (over-full refl))

pub received-numbers : (s : State) (id : List ℕ) (z : ℤ) (mark : Mark) (ed : Edition) → InTable (OfHeld OfQuestion) (given_by_answer (ask_on s id z mark ed))
received-numbers s id z mark ed =
    held-numbers OfQuestion given_by_answer (Err (TooShort, 0)) (λ bs. ask bs id z mark ed) refl (λ bs. question-numbers bs id z mark ed) s.receiver s.buffer

-- of a well-formed file every field is whole: its place is its length
pub whole-place : (f : List ℕ) → WellFormed f → unfinished f ≡ length f
whole-place f w = ap place_of (walk-ended job nothing_Seen w.memory f (length f) w.ends).whole
