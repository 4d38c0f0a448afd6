-- THE NAMED QUESTION OVER AN OLDER DICTIONARY, on two files whose fields say the same one by one: the answers are the same, places aside. Assumes
-- nothing.
use Rattle.std.specs.Prelude.{Result}
use Rattle.base.specs.Coded.{Fault}
use mathlib.Core.Path.{◌≡◌, refl}
use mathlib.Core.Bool.{Bool, true, false}
use mathlib.Core.List.{List}
use mathlib.Core.Option.{Option}
use Prim.Native.Nat.{ℕ}
use lib.Dec.{eqb}
use lib.IntN.{ℤ}
use borrow.Author.Tests.{eqb-false}
use Rattle.base.specs.Moment.{Finite}
use Rattle.base.specs.Parsed.{Parsed, got, bad}
use Rattle.signed.specs.Instant.{instant_of}
use Rattle.signed.proofs.IntegerLaws.{instant-finite}
use Rattle.zones.specs.declared.Edition.{Edition}
use Rattle.aliases.specs.Dictionary.{Dictionary}
use Rattle.alias_lookup.specs.Lookup.{Named, most}
use Rattle.old_dictionaries.specs.OldDictionary.{parse_old_dictionary}
use Rattle.frames.specs.Machine.{Out}
use Rattle.field_checks.specs.Check.{WellFormed}
use Rattle.field_checks.proofs.WellFormedLaws.{well-formed-good}
use Rattle.answers.specs.declared.Found.{Found}
use Rattle.questions.specs.Question.{answer_at}
use Rattle.old_named_questions.specs.OldNamed.{answer_in, zone_at, resolved, older_says, zone_first, ask_named_old}
use Rattle.demands.specs.Same.{SameFound, SameAnswer, both-answer, both-refuse}
use Rattle.closed_answers.proofs.BesideLaws.{SameOut, both_found, both-refused, both-cut, both-ended}
use Rattle.closed_answers.proofs.LookupLaws.{SameOption, neither, both_some, SameNamed, both-here, both-unknown, both-deep, lookup-same}
use Rattle.closed_answers.proofs.SameLaws.{SameFiles}
use Rattle.closed_answers.proofs.QuestionLaws.{asking-same, asked-at}
use Rattle.closed_answers.proofs.CheckLaws.{well-formed-same}

module _ (f h : List ℕ) where
  answer-in : {M N : Type 0} (R : M → N → Type 0) (x : Out M Found) (y : Out N Found) → SameOut R (SameFound f h) x y
      → SameOption (SameFound f h) (answer_in x) (answer_in y)
  answer-in R x y (both_found s) = both_some s
  answer-in R x y both-refused = neither
  answer-in R x y both-cut = neither
  answer-in R x y (both-ended r) = neither

  resolved-same : (m n : Named Found) → SameNamed (SameFound f h) m n → SameAnswer f h (resolved m) (resolved n)
  resolved-same m n (both-here s) = both-answer s
  resolved-same m n both-unknown = both-refuse
  resolved-same m n both-deep = both-refuse

  first-same : (x y : Option Found) (a c : Result Found Fault) → SameOption (SameFound f h) x y → SameAnswer f h a c
      → SameAnswer f h (zone_first x a) (zone_first y c)
  first-same x y a c neither s = s
  first-same x y a c (both_some q) s = both-answer q

  module _ (ts us : List (List ℕ)) (s : SameFiles f h ts us) where
    zone-at : (ed : Edition) (t : ℕ) → Finite t → (x : List ℕ) → SameOption (SameFound f h) (zone_at ed f t x) (zone_at ed h t x)
    zone-at ed t k x = answer-in _ _ _ (asking-same f h ts us s (SameFound f h) (answer_at ed t) (answer_at ed t) (asked-at f h ts us s ed t k) x)

    older-same : (ed : Edition) (t : ℕ) → Finite t → (x : List ℕ) (p : Parsed Dictionary)
        → SameAnswer f h (older_says (zone_at ed f t) x p) (older_says (zone_at ed h t) x p)
    older-same ed t k x (got es r) = resolved-same _ _ (lookup-same (SameFound f h) (zone_at ed f t) (zone_at ed h t) (zone-at ed t k) es most x)
    older-same ed t k x (bad n) = both-refuse

    pub old-named-same : WellFormed f → (ds x : List ℕ) (z : ℤ) (ed : Edition) → SameAnswer f h (ask_named_old f ds x z ed) (ask_named_old h ds x z ed)
    unfolding ask_named_old
    old-named-same w ds x z ed = go (eqb (instant_of z) 0) refl
      where
        go : (t : Bool) → eqb (instant_of z) 0 ≡ t → SameAnswer f h (ask_named_old f ds x z ed) (ask_named_old h ds x z ed)
        go true e = rw e both-refuse
        go false e =
            let t = instant_of z in
            let k : Finite t = instant-finite t z refl (eqb-false t 0 e) in
            rw (e, well-formed-good f w, well-formed-good h (well-formed-same f h ts us s w))
            (first-same _ _ _ _ (zone-at ed t k x) (older-same ed t k x (parse_old_dictionary ds)))
