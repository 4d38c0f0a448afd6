-- A result's number of stretches is below that of the window's instants and one, and the place of a refusal is at most 4,194,304. Assumes nothing.
use Rattle.answers.specs.declared.Found.{Found}
use Rattle.base.specs.declared.Refusal.{Refusal}
use Rattle.base.specs.Coded.{Fault}
use Rattle.std.specs.Prelude.{Err, Ok, Result}
use mathlib.Core.Path.{◌≡◌, refl, subst}
use mathlib.Core.List.{List}
use Prim.Native.Nat.{ℕ, ◌-◌, ◌≤◌}
use native.Mathlib.Omega.{arith}
use lib.Dec.{leb, eqb}
use lib.IntN.{ℤ}
use lib.ListN.{length}
use borrow.Author.Tests.{eqb-false}
use Rattle.base.proofs.PairLaws.{err_parts}
use Rattle.base.proofs.Tests.{clash, pick-holds}
use Rattle.signed.specs.Instant.{instant_of, InRange}
use Rattle.signed.proofs.IntegerLaws.{instant-finite}
use Rattle.zones.specs.declared.Edition.TheVariants.{Two}
use Rattle.frames.specs.Machine.{Out, found, refused, cut, ended, walk}
use Rattle.frames.specs.Mapped.{map_out}
use Rattle.frames.proofs.NearLaws.{Near, walk-near}
use Rattle.answers.specs.Answers.{Pool, no_pool}
use Rattle.answers.specs.declared.Mark.TheVariants.{All}
use Rattle.locate.specs.Asked.{Held, holder, of_held}
use Rattle.questions.specs.Question.{answer_at, finish}
use Rattle.questions.proofs.HeldLaws.{ask-held}
use Rattle.stretches.proofs.StepLaws.{stretches-most}
use Rattle.differences.specs.Difference.{ask_all, differ_at, differences, listed, after_both, difference}
use Rattle.differences.specs.Means.{Bounded}

-- a question's refusal
near : (f id : List ℕ) (z : ℤ) → InRange z → (n : Refusal) (p : ℕ) → ask_all f id z ≡ Err (n, p) → p ≤ 4194304
near f id z h n p e = go (walk (holder id) no_pool f) (walk-near (holder id) no_pool f) (subst (λ (a : Result Found Fault). a ≡ Err (n, p)) (ask-held f id z All Two h) e)
  where
    go : (o : Out Pool Held) → Near o → finish All (map_out (of_held (answer_at Two (instant_of z))) o) ≡ Err (n, p) → p ≤ 4194304
    go (found v q) w k = clash cc
    go (refused m q) w k = let i : q ≡ p = (err_parts k).1 in subst (λ (u : ℕ). u ≤ 4194304) i w.to
    go (cut q) w k = let i : q ≡ p = (err_parts k).1 in subst (λ (u : ℕ). u ≤ 4194304) i w.to
    go (ended m q) w k = let i : q ≡ p = (err_parts k).1 in subst (λ (u : ℕ). u ≤ 4194304) i w.to

module _ (f g id : List ℕ) (first last : ℤ) (room : ℕ) where
  listed-bounded : InRange last → Bounded (listed (differences f g id first last) room)
  unfolding listed
  listed-bounded i =
      pick-holds Bounded (leb (length (differences f g id first last)) room)
      (λ e. record { to = omega (arith, stretches-most (differ_at f g id) (instant_of first) (instant_of last), (instant-finite (instant_of last) last refl i).high) })
      (λ e. record { to = omega arith })

  after-bounded : (a b : Result Found Fault) → ((n : Refusal) (p : ℕ) → a ≡ Err (n, p) → p ≤ 4194304) → ((n : Refusal) (p : ℕ) → b ≡ Err (n, p) → p ≤ 4194304) → (r : Result ℕ Fault) → Bounded r
      → Bounded (after_both a b r)
  after-bounded (Err (n, p)) b h k r w = record { to = h n p refl }
  after-bounded (Ok x) (Err (n, p)) h k r w = record { to = k n p refl }
  after-bounded (Ok x) (Ok y) h k r w = w

  pub difference-bounded : Bounded (difference f g id first last room)
  unfolding difference
  difference-bounded =
      pick-holds Bounded (eqb (instant_of first) 0) (λ e. record { to = omega arith })
      (λ e. pick-holds Bounded (eqb (instant_of last) 0) (λ k. record { to = omega arith })
      (λ k. after-bounded (ask_all f id first) (ask_all g id first) (near f id first (eqb-false (instant_of first) 0 e)) (near g id first (eqb-false (instant_of first) 0 e)) _ (listed-bounded (eqb-false (instant_of last) 0 k))))
