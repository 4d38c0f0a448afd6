-- The refusals of a table of starts are the question's, and where the question answers only 15 is left. Assumes nothing.
use Rattle.base.specs.declared.Refusal.{Refusal}
use Rattle.base.specs.declared.Refusal.TheVariants.{CutShort, NotFound}
use Rattle.base.specs.Coded.{Fault}
use Rattle.std.specs.Prelude.{Err, Ok, Result}
use mathlib.Core.Path.{◌≡◌, refl, sym, ap, ◌∙◌}
use mathlib.Core.List.{List}
use Prim.Native.Nat.{ℕ}
use lib.IntN.{ℤ}
use Rattle.base.proofs.PairLaws.{err_parts}
use Rattle.base.proofs.Tests.{clash}
use Rattle.signed.specs.Instant.{instant_of, InRange}
use Rattle.zones.specs.declared.Edition.TheVariants.{Two}
use Rattle.frames.specs.Machine.{Out, found, refused, cut, ended, walk}
use Rattle.frames.specs.Mapped.{map_out}
use Rattle.answers.specs.Answers.{Pool, no_pool}
use Rattle.answers.specs.declared.Mark.TheVariants.{All}
use Rattle.answers.specs.declared.Found.{Found}
use Rattle.locate.specs.Asked.{Held, holder, of_held}
use Rattle.questions.specs.Question.{answer_at, finish, ask}
use Rattle.questions.proofs.HeldLaws.{Holding, ask-held, ask-holding}
use Rattle.zone_starts.specs.Starts.{starts_of, table_of}
use Rattle.starts.specs.Table.{entries_of, filled_at, FillsFrom}

module _ (f id : List ℕ) (z : ℤ) (h : InRange z) (d : List ℤ) (r : Result ℕ Fault) (e : List ℤ) (w : FillsFrom f id d r e) where
  -- A QUESTION'S REFUSAL IS THE TABLE'S
  pub starts-refuse : (n : Refusal) (p : ℕ) → ask f id z All Two ≡ Err (n, p) → r ≡ Err (n, p)
  starts-refuse n p k = w.0 ∙ go (walk (holder id) no_pool f) (sym (ask-held f id z All Two h) ∙ k)
    where
      go : (o : Out Pool Held) → finish All (map_out (of_held (answer_at Two (instant_of z))) o) ≡ Err (n, p) → filled_at o d ≡ Err (n, p)
      go (found v q) g = clash cc
      go (refused a b) g = let e = err_parts g in rw (e.0, e.1) refl
      go (cut b) g = let x : CutShort ≡ n = (err_parts g).0 in rw (sym x, (err_parts g).1) refl
      go (ended m b) g = let x : NotFound ≡ n = (err_parts g).0 in rw (sym x, (err_parts g).1) refl

  -- WHERE IT ANSWERS, THE TABLE HAS THE STARTS OF THE ZONE THAT IT ASKS
  pub starts-answer : (x : Found) (k : ask f id z All Two ≡ Ok x)
      → (r ≡ entries_of (starts_of (ask-holding f id z All Two h x k).zone.zone.body) d) × (e ≡ table_of (starts_of (ask-holding f id z All Two h x k).zone.zone.body) d)
  starts-answer x k =
      let g : Holding f id = ask-holding f id z All Two h x k in
      (w.0 ∙ ap (λ (o : Out Pool Held). filled_at o d) g.is, w.1 ∙ rw g.is refl)
