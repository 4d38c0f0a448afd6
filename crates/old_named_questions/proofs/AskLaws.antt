-- The named question over an older dictionary, by what its parts give. Assumes nothing.
use Rattle.base.specs.declared.Refusal.{Refusal}
use Rattle.base.specs.declared.Refusal.TheVariants.{OutOfRange}
use Rattle.std.specs.declared.option.Option.TheVariants.{None, Some}
use Rattle.std.specs.Prelude.{Err, Ok, Result}
use Rattle.base.specs.Coded.{Coded, Fault}
use mathlib.Core.Path.{◌≡◌, refl, sym, ap, ◌∙◌}
use mathlib.Core.List.{List}
use mathlib.Core.Option.{Option, none, some}
use Prim.Native.Nat.{ℕ}
use lib.IntN.{ℤ}
use borrow.Author.Tests.{eq-eqb, ne_eqb}
use Rattle.base.specs.Parsed.{Parsed, got, bad}
use Rattle.base.proofs.Tests.{clash}
use Rattle.signed.specs.Instant.{instant_of}
use Rattle.zones.specs.declared.Edition.{Edition}
use Rattle.frames.specs.Machine.{Out, found, refused, cut, ended, walk}
use Rattle.aliases.specs.Dictionary.{Dictionary}
use Rattle.alias_lookup.specs.Lookup.{lookup}
use Rattle.old_dictionaries.specs.OldDictionary.{found_of, parse_old_dictionary, read_old_dictionary}
use Rattle.field_checks.specs.Check.{check_of}
use Rattle.answers.specs.Answers.{Pool, no_pool}
use Rattle.answers.specs.declared.Found.{Found}
use Rattle.answers.specs.declared.Outcome.{Outcome}
use Rattle.answers.specs.declared.Outcome.TheVariants.{Answered, Refused as Stopped, Cut, End}
use Rattle.questions.specs.Question.{question}
use Rattle.questions.specs.View.{outcome_of}
use Rattle.old_named_questions.specs.OldNamed.{answer_in, zone_at, resolved, older_says, zone_first, check_first, ask_named_old}
use Rattle.old_named_questions.specs.View.{entries_of, Sound, asked_of}

-- o is what the walk to the zone with the ID id came to
module _ (ed : Edition) (s id : List ℕ) (t : ℕ) (o : Outcome) (h : o ≡ outcome_of (walk (question ed id t) no_pool s)) where
  pub zone-answered : (v : Found) → o ≡ Answered v → Some v ≡ asked_of (zone_at ed s t id)
  zone-answered v e = go (walk (question ed id t) no_pool s) (sym h ∙ e)
    where
      go : (u : Out Pool Found) → outcome_of u ≡ Answered v → Some v ≡ asked_of (answer_in u)
      go (found x p) q = let z : v ≡ x = cc in ap Some z
      go (refused n p) q = clash cc
      go (cut p) q = clash cc
      go (ended m p) q = clash cc

  -- and any other outcome is no zone
  no-zone : (u : Out Pool Found) → ((v : Found) → outcome_of u ≡ Answered v → ⊥) → None ≡ asked_of (answer_in u)
  no-zone (found x p) n = absurd (n x refl)
  no-zone (refused n p) k = refl
  no-zone (cut p) k = refl
  no-zone (ended m p) k = refl

  pub zone-stopped : (n : Refusal) (p : ℕ) → o ≡ Stopped n p → None ≡ asked_of (zone_at ed s t id)
  zone-stopped n p e = no-zone (walk (question ed id t) no_pool s) (λ v q. let z : Answered v ≡ Stopped n p = sym q ∙ sym h ∙ e in clash cc)

  pub zone-cut : (p : ℕ) → o ≡ Cut p → None ≡ asked_of (zone_at ed s t id)
  zone-cut p e = no-zone (walk (question ed id t) no_pool s) (λ v q. let z : Answered v ≡ Cut p = sym q ∙ sym h ∙ e in clash cc)

  pub zone-end : (p : ℕ) → o ≡ End p → None ≡ asked_of (zone_at ed s t id)
  zone-end p e = no-zone (walk (question ed id t) no_pool s) (λ v q. let z : Answered v ≡ End p = sym q ∙ sym h ∙ e in clash cc)

-- r is what reading the dictionary d gave
module _ (d : List ℕ) (r : Coded ℕ) (h : r ≡ read_old_dictionary d) where
  pub read-bad : (k : Refusal) → r ≡ Err k → parse_old_dictionary d ≡ bad k
  read-bad k e = go (parse_old_dictionary d) (sym h ∙ e)
    where
      go : (p : Parsed Dictionary) → found_of d p ≡ Err k → p ≡ bad k
      go (got es q) i = clash cc
      go (bad j) i = let z : j ≡ k = cc in ap bad z

  pub read-sound : (n a : ℕ) → r ≡ Ok (n, a) → Sound d
  read-sound n a e = go (parse_old_dictionary d) refl (sym h ∙ e)
    where
      go : (p : Parsed Dictionary) → parse_old_dictionary d ≡ p → found_of d p ≡ Ok (n, a) → Sound d
      go (got es q) j i = record { rest = q; is = rw j refl }
      go (bad k) j i = clash cc

-- what comes behind the check
module _ (zone : List ℕ → Option Found) (d x : List ℕ) where
  pub first-zone : (v : Found) → zone x ≡ some v → Ok v ≡ zone_first (zone x) (older_says zone x (parse_old_dictionary d))
  first-zone v e = rw e

  pub first-bad : zone x ≡ none → (k : Refusal) → parse_old_dictionary d ≡ bad k → Err (k, 0) ≡ zone_first (zone x) (older_says zone x (parse_old_dictionary d))
  first-bad e k i = rw (e, i)

  pub first-follows : zone x ≡ none → Sound d → (a : Result Found Fault) → a ≡ resolved (lookup zone (entries_of d) 8 x)
      → a ≡ zone_first (zone x) (older_says zone x (parse_old_dictionary d))
  first-follows e g a i = i ∙ sym (ap (λ (o : Option Found). zone_first o (older_says zone x (parse_old_dictionary d))) e ∙ ap (older_says zone x) g.is)

module _ (bs ds x : List ℕ) (z : ℤ) (ed : Edition) (t : ℕ) (e : t ≡ instant_of z) where
  pub ask-outside : t ≡ 0 → Err (OutOfRange, 0) ≡ ask_named_old bs ds x z ed
  unfolding ask_named_old
  ask-outside h = rw (eq-eqb (instant_of z) 0 (sym e ∙ h))

  module _ (inside : t ≡ 0 → ⊥) (r : Result (Unit {0}) Fault) (v : r ≡ check_of bs) where
    behind-range : check_first r (zone_first (zone_at ed bs t x) (older_says (zone_at ed bs t) x (parse_old_dictionary ds))) ≡ ask_named_old bs ds x z ed
    unfolding ask_named_old
    behind-range =
        rw (ne_eqb (instant_of z) 0 (λ f. inside (e ∙ f)))
        (ap (λ (u : ℕ). check_first r (zone_first (zone_at ed bs u x) (older_says (zone_at ed bs u) x (parse_old_dictionary ds)))) e
        ∙ ap (λ (c : Result (Unit {0}) Fault). check_first c (zone_first (zone_at ed bs (instant_of z) x) (older_says (zone_at ed bs (instant_of z)) x (parse_old_dictionary ds)))) v)

    pub ask-ill : (n : Refusal) (p : ℕ) → r ≡ Err (n, p) → Err (n, p) ≡ ask_named_old bs ds x z ed
    ask-ill n p i = ap (λ (c : Result (Unit {0}) Fault). check_first c (zone_first (zone_at ed bs t x) (older_says (zone_at ed bs t) x (parse_old_dictionary ds)))) (sym i) ∙ behind-range

    pub ask-checked : r ≡ Ok tt → (a : Result Found Fault) → a ≡ zone_first (zone_at ed bs t x) (older_says (zone_at ed bs t) x (parse_old_dictionary ds)) → a ≡ ask_named_old bs ds x z ed
    ask-checked i a h = h ∙ ap (λ (c : Result (Unit {0}) Fault). check_first c (zone_first (zone_at ed bs t x) (older_says (zone_at ed bs t) x (parse_old_dictionary ds)))) (sym i) ∙ behind-range
