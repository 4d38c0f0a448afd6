-- The named question, by the walk's outcome and the mark. Assumes nothing.
use Rattle.base.specs.declared.Refusal.{Refusal}
use Rattle.base.specs.declared.Refusal.TheVariants.{BadData, OutOfRange}
use Rattle.std.specs.Prelude.{Err, Ok, Result}
use mathlib.Core.Path.{◌≡◌, refl, sym, ap, ◌∙◌}
use mathlib.Core.Bool.{Bool, true, false}
use mathlib.Core.List.{List}
use Prim.Native.Nat.{ℕ, ◌+◌}
use lib.IntN.{ℤ}
use lib.ListN.{length}
use lib.Dec.{ltb, eqb}
use borrow.Author.Tests.{eq-eqb, ne_eqb}
use Rattle.base.specs.Pick.{pick}
use Rattle.base.specs.Parsed.{Parsed, got, bad}
use Rattle.signed.specs.Instant.{instant_of}
use Rattle.texts.specs.Text.{read_text}
use Rattle.pool.specs.Pool.{strings_of}
use Rattle.zones.specs.Content.{Zone}
use Rattle.aliases.specs.Dictionary.{Dictionary}
use Rattle.aliases.specs.Field.{parse_aliases}
use Rattle.alias_lookup.specs.Lookup.{Named, here, unknown, deep, lookup, most}
use Rattle.frames.specs.Frame.{Field}
use Rattle.frames.specs.Machine.{Out, found, refused, cut, ended, Content, bad as fault, answer, keep, walk}
use Rattle.frames.specs.Mapped.{map_content, map_out}
use Rattle.frames.proofs.MapLaws.{walk-mapped}
use Rattle.zones.specs.declared.Edition.{Edition}
use Rattle.answers.specs.Answers.{Pool, answer_of}
use Rattle.answers.specs.declared.Mark.{Mark}
use Rattle.answers.specs.declared.Found.{Found}
use Rattle.answers.specs.declared.Outcome.{Outcome}
use Rattle.answers.specs.declared.Outcome.TheVariants.{Refused as Stopped, Cut, End}
use Rattle.locate.specs.Asked.{says as asked_says, Held, held, of_held}
use Rattle.locate.specs.View.{located_out}
use Rattle.locate.specs.declared.Located.{Located}
use Rattle.locate.proofs.HeldLaws.{says-held}
use Rattle.questions.specs.Question.{answer_at, finish}
use Rattle.questions.specs.View.{outcome_of, outcome_at}
use Rattle.questions.proofs.AskLaws.{finish-is}
use Rattle.named_fields.specs.Named.{zone_in, Known, nothing, remembered, text_says, resolved, alias_says, says, naming, ask_named}
use Rattle.named_fields.specs.View.{told, NamedAs}

-- a job that makes its answer of the named zone makes it of the zone that is held
module _ {A : Type 0} (h : Pool → Zone → A) (x : List ℕ) where
  named-held : (k : Known) (g : Field) → says h x k g ≡ map_content (of_held h) (says held x k g)
  unfolding says
  named-held k g = go (ltb g.id 2) (eqb g.id 2)
    where
      of-id : (c : Content Pool Held) → remembered k g (map_content (of_held h) c) ≡ map_content (of_held h) (remembered k g c)
      of-id (fault n) = refl
      of-id (answer v) = refl
      of-id (keep p) = refl

      of-text : (u : Result (ℕ × ℕ) Refusal) → ◌≡◌ {A = Content Known A} (text_says k (length g.body) u) (map_content (of_held h) (text_says k (length g.body) u))
      of-text (Err n) = refl
      of-text (Ok (b, n)) = by (eqb (b + n) (length g.body))
        where
          by : (t : Bool) → ◌≡◌ {A = Content Known A} (pick t (keep k) (fault BadData)) (map_content (of_held h) (pick t (keep k) (fault BadData)))
          by true = refl
          by false = refl

      of-lookup : (r : Named Zone) → ◌≡◌ {A = Content Known A} (resolved h k.pool r) (map_content (of_held h) (resolved held k.pool r))
      of-lookup (here z) = refl
      of-lookup unknown = refl
      of-lookup deep = refl

      of-aliases : (p : Parsed Dictionary) → ◌≡◌ {A = Content Known A} (alias_says h x k p) (map_content (of_held h) (alias_says held x k p))
      of-aliases (got es r) = of-lookup (lookup (zone_in k.zones) es most x)
      of-aliases (bad n) = refl

      go : (t u : Bool)
          → pick t (remembered k g (asked_says h x k.pool g))
          (pick u (text_says k (length g.body) (read_text g.body)) (alias_says h x k (parse_aliases (strings_of k.pool.body) g.body)))
          ≡ map_content (of_held h)
          (pick t (remembered k g (asked_says held x k.pool g))
          (pick u (text_says k (length g.body) (read_text g.body)) (alias_says held x k (parse_aliases (strings_of k.pool.body) g.body))))
      go true u = ap (remembered k g) (says-held h x k.pool g) ∙ of-id (asked_says held x k.pool g)
      go false true = of-text (read_text g.body)
      go false false = of-aliases (parse_aliases (strings_of k.pool.body) g.body)

  pub named-walk : (bs : List ℕ) → walk (naming h x) nothing bs ≡ map_out (of_held h) (walk (naming held x) nothing bs)
  named-walk bs = walk-mapped (of_held h) (naming held x) (naming h x) refl named-held nothing bs

-- what is told of an outcome is all that an answer takes
told_is : {M : Type 0} (h : Held → Found) (o : Out M Held) → outcome_of (map_out h o) ≡ outcome_of (map_out h (told o))
told_is h (found v p) = refl
told_is h (refused n p) = refl
told_is h (cut p) = refl
told_is h (ended m p) = refl

pub named-outcome : {M : Type 0} (ed : Edition) (t : ℕ) (s : List ℕ) (m : Pool) (o : Out M Held) (r : Located) → NamedAs s m o r
    → outcome_at ed t (located_out s m r) ≡ outcome_of (map_out (of_held (answer_at ed t)) o)
named-outcome ed t s m o r n =
    told_is (of_held (answer_at ed t)) (located_out s m r)
    ∙ ap (λ (q : Out (Unit {0}) Held). outcome_of (map_out (of_held (answer_at ed t)) q)) (sym n.goes)
    ∙ sym (told_is (of_held (answer_at ed t)) o)

-- of all the bytes
module _ (ed : Edition) (t : ℕ) (x s : List ℕ) where
  abbrev all : Out Known Held
  all = walk (naming held x) nothing s

  pub out-walk : (r : Outcome) → r ≡ outcome_of (map_out (of_held (answer_at ed t)) all) → r ≡ outcome_of (walk (naming (answer_at ed t) x) nothing s)
  out-walk r e = e ∙ ap outcome_of (sym (named-walk (answer_at ed t) x s))

  pub out-refused : (n : Refusal) (p : ℕ) → all ≡ refused n p → Stopped n p ≡ outcome_of (walk (naming (answer_at ed t) x) nothing s)
  out-refused n p e = out-walk (Stopped n p) (rw e)

  pub out-cut : (p : ℕ) → all ≡ cut p → Cut p ≡ outcome_of (walk (naming (answer_at ed t) x) nothing s)
  out-cut p e = out-walk (Cut p) (rw e)

  pub out-end : (k : Known) (p : ℕ) → all ≡ ended k p → End p ≡ outcome_of (walk (naming (answer_at ed t) x) nothing s)
  out-end k p e = out-walk (End p) (rw e)

module _ (bs x : List ℕ) (z : ℤ) (mark : Mark) (ed : Edition) (t : ℕ) (e : t ≡ instant_of z) where
  pub ask-outside : t ≡ 0 → Err (OutOfRange, 0) ≡ ask_named bs x z mark ed
  unfolding ask_named
  ask-outside h = rw (eq-eqb (instant_of z) 0 (sym e ∙ h))

  pub ask-inside : (t ≡ 0 → ⊥) → (o : Outcome) → o ≡ outcome_of (walk (naming (answer_at ed t) x) nothing bs) → answer_of mark o ≡ ask_named bs x z mark ed
  unfolding ask_named
  ask-inside h o k =
      rw (ne_eqb (instant_of z) 0 (λ f. h (e ∙ f))) (
      ap (answer_of mark) k ∙ finish-is mark (walk (naming (answer_at ed t) x) nothing bs)
      ∙ ap (λ (u : ℕ). finish mark (walk (naming (answer_at ed u) x) nothing bs)) e
      )
