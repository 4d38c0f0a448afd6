-- The numbers of a named question. Assumes nothing.
use Rattle.base.specs.declared.Refusal.{Refusal}
use Rattle.base.specs.Refusals.{refusal_number}
use Rattle.base.specs.declared.Refusal.TheVariants.{BadData, CutShort, NotFound, OutOfRange}
use Rattle.std.specs.Prelude.{Err, Ok, Result}
use mathlib.Core.Path.{◌≡◌, refl}
use mathlib.Core.Bool.{Bool, true, false}
use mathlib.Core.List.{List}
use mathlib.Core.Logic.{inl, inr}
use Prim.Native.Nat.{ℕ, ◌+◌}
use native.Mathlib.Omega.{arith}
use lib.IntN.{ℤ}
use lib.ListN.{length}
use lib.Dec.{ltb, eqb}
use Rattle.base.specs.Pick.{pick}
use Rattle.base.specs.Parsed.{Parsed, got, bad as fault_of}
use Rattle.signed.specs.Instant.{instant_of}
use Rattle.texts.specs.Text.{read_text}
use Rattle.texts.proofs.RefusalLaws.{text-faulty}
use Rattle.pool.specs.Pool.{strings_of}
use Rattle.zones.specs.Content.{Zone}
use Rattle.aliases.specs.Dictionary.{Dictionary}
use Rattle.aliases.specs.Field.{parse_aliases}
use Rattle.alias_lookup.specs.Lookup.{Named, here, unknown, deep, lookup, most}
use Rattle.frames.specs.Frame.{Field}
use Rattle.frames.specs.Machine.{Out, found, refused, cut, ended, Content, bad, answer, keep, walk}
use Rattle.answers.specs.Answers.{Pool, waiting}
use Rattle.answers.specs.Numbers.{given_by_answer}
use Rattle.zones.specs.declared.Edition.{Edition}
use Rattle.answers.specs.declared.Mark.{Mark}
use Rattle.answers.specs.declared.Mark.TheVariants.{More, All as Whole}
use Rattle.answers.specs.declared.Found.{Found}
use Rattle.locate.specs.Asked.{says as asked_says}
use Rattle.questions.specs.Question.{answer_at, finish}
use Rattle.named_fields.specs.Named.{zone_in, Known, nothing, remembered, text_says, resolved, alias_says, says, naming, ask_named}
use Rattle.demands.specs.Numbers.{OfFile, OfQuestion, not_yet, question-cut, question-fault, no-zone, no-instant, InTable}
use Rattle.demands.specs.Numbers.{OfNamed, named-question, too-many-steps, named-second-key}
use Rattle.demands.proofs.ContentNumbers.{FineAliases, aliases-numbers}
use Rattle.demands.proofs.Numbers.{Says, Comes, walk-number, Said, said, any, of-content, of-text}

named-file : (n : ℕ) → OfFile n → OfNamed n
named-file n h = named-question (question-fault h)

named-above : (last i : ℕ) → Unit {0} → ltb last i ≡ true → OfNamed 12
named-above last i u e = named-question (no-zone refl)

module _ {A : Type 0} (h : Pool → Zone → A) (x : List ℕ) where
  abbrev SaidBy : Content Known A → Type 0
  SaidBy = Says (naming h x) OfNamed (λ i. Unit {0}) named-file (named-above 3)

  says-numbers : (k : Known) (g : Field) → SaidBy (says h x k g)
  unfolding says
  says-numbers k g = go (ltb g.id 2) (eqb g.id 2)
    where
      by-id : (c : Content Pool A) → Said OfNamed named-file (named-above 1) h x c → SaidBy (remembered k g c)
      by-id (bad n) q = q
      by-id (answer v) q = tt
      by-id (keep p) q = tt

      by-text : (u : Result (ℕ × ℕ) Refusal) → read_text g.body ≡ u → SaidBy (text_says k (length g.body) u)
      by-text (Err n) e = named-file (refusal_number n) (of-text n (text-faulty g.body n e))
      by-text (Ok (b, n)) e = by (eqb (b + n) (length g.body))
        where
          by : (t : Bool) → SaidBy (pick t (keep k) (bad BadData))
          by true = tt
          by false = named-file 9 (record { low = omega arith; high = omega arith })

      by-lookup : (r : Named Zone) → SaidBy (resolved h k.pool r)
      by-lookup (here z) = tt
      by-lookup unknown = named-question (no-zone refl)
      by-lookup deep = too-many-steps refl

      by-aliases : (p : Parsed Dictionary) → FineAliases p → SaidBy (alias_says h x k p)
      by-aliases (got es r) q = by-lookup (lookup (zone_in k.zones) es most x)
      by-aliases (fault_of n) (inl q) = named-file (refusal_number n) (of-content (refusal_number n) q)
      by-aliases (fault_of n) (inr q) = named-second-key q

      go : (t u : Bool)
          → SaidBy (pick t (remembered k g (asked_says h x k.pool g))
          (pick u (text_says k (length g.body) (read_text g.body)) (alias_says h x k (parse_aliases (strings_of k.pool.body) g.body))))
      go true u = by-id (asked_says h x k.pool g) (said OfNamed named-file (named-above 1) h x k.pool g)
      go false true = by-text (read_text g.body) refl
      go false false = by-aliases (parse_aliases (strings_of k.pool.body) g.body) (aliases-numbers (strings_of k.pool.body) g.body)

  naming-numbers : (bs : List ℕ) → Comes (naming h x) OfNamed (λ i. Unit {0}) named-file (named-above 3) (walk (naming h x) nothing bs)
  naming-numbers bs = walk-number (naming h x) OfNamed (λ i. Unit {0}) named-file (named-above 3) says-numbers nothing bs (any bs)

-- A NAMED QUESTION GIVES 0 TO 12, 14, 18 OR 19, whatever the bytes, and never 13
pub named-numbers : (bs x : List ℕ) (z : ℤ) (mark : Mark) (ed : Edition) → InTable OfNamed (given_by_answer (ask_named bs x z mark ed))
unfolding ask_named
named-numbers bs x z mark ed = go (eqb (instant_of z) 0)
  where
    by-mark : (m : Mark) (n : Refusal) (p : ℕ) → OfQuestion (refusal_number n) → InTable OfNamed (given_by_answer (Err (waiting m n, p)))
    by-mark More n p h = named-question (not_yet refl)
    by-mark Whole n p h = named-question h

    done : (o : Out Known Found) → Comes (naming (answer_at ed (instant_of z)) x) OfNamed (λ i. Unit {0}) named-file (named-above 3) o → InTable OfNamed (given_by_answer (finish mark o))
    done (found v p) h = tt
    done (refused n p) h = h
    done (cut p) h = by-mark mark CutShort p (question-cut refl)
    done (ended m p) h = by-mark mark NotFound p (no-zone refl)

    go : (b : Bool) → InTable OfNamed (given_by_answer (pick b (Err (OutOfRange, 0)) (finish mark (walk (naming (answer_at ed (instant_of z)) x) nothing bs))))
    go true = named-question (no-instant refl)
    go false = done (walk (naming (answer_at ed (instant_of z)) x) nothing bs) (naming-numbers (answer_at ed (instant_of z)) x bs)
