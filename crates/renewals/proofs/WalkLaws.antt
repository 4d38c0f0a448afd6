-- The computed walk gives the answers of Ask 12, and no others. Assumes nothing.
use Rattle.base.specs.Coded.{Fault}
use Rattle.std.specs.Prelude.{Err, Ok, Result}
use mathlib.Core.Path.{◌≡◌, refl, ap, ◌∙◌}
use mathlib.Core.Bool.{Bool, true, false}
use mathlib.Core.List.{List, [], ◌∷◌}
use Prim.Native.Nat.{ℕ, zero, suc, ◌≤◌}
use native.Mathlib.Omega.{arith}
use lib.Dec.{eqb}
use lib.IntN.{ℤ}
use lib.ListN.{length}
use borrow.Author.Tests.{eq-eqb, ne_eqb, eqb-false}
use Rattle.base.specs.Pick.{pick}
use Rattle.signed.specs.Instant.{InRange, instant_of}
use Rattle.answers.specs.declared.Found.{Found}
use Rattle.renewals.specs.Renewal.{no_end, Renewed, last, again}
use Rattle.renewals.specs.Walk.{onward, answers_from, last_end}
use Rattle.renewals.proofs.SameLaws.{end-out}

module _ (q : ℤ → Result Found Fault) where
  -- as many questions as there are answers are enough
  pub renewed-answers : (n : ℕ) (z : ℤ) (xs : List Found) → Renewed q z xs → length xs ≤ n → answers_from n q z ≡ xs
  unfolding answers_from
  renewed-answers zero z _ (last a e) l = absurd (omega arith)
  renewed-answers zero z _ (again a r v) l = absurd (omega arith)
  renewed-answers (suc n) z _ (last {x = x} a e) l = rw (a, eq-eqb (instant_of x.end) 0 (end-out x.end e))
  renewed-answers (suc n) z _ (again {x = x} {xs = xs} a r v) l =
      rw (a, ne_eqb (instant_of x.end) 0 r) (ap (λ (ys : List Found). x ∷ ys) (renewed-answers n x.end xs v (omega arith)))

  out : (z : ℤ) {G : Type 0} → z ≡ no_end → InRange z → G
  out z e r = absurd (r (end-out z e))

  -- and a walk that reaches the end of time has them all
  pub answers-renewed : (n : ℕ) (z : ℤ) → InRange z → last_end z (answers_from n q z) ≡ no_end → Renewed q z (answers_from n q z)
  unfolding answers_from
  answers-renewed zero z r e = out z e r
  answers-renewed (suc n) z r e = go (λ y i g. answers-renewed n y i g) (q z) refl e
    where
      go : ((y : ℤ) → InRange y → last_end y (answers_from n q y) ≡ no_end → Renewed q y (answers_from n q y)) → (a : Result Found Fault) → q z ≡ a → last_end z (onward (answers_from n q) a) ≡ no_end → Renewed q z (onward (answers_from n q) a)
      go rest (Err (k, p)) f e = out z e r
      go rest (Ok x) f e = by (eqb (instant_of x.end) 0) refl e
        where
          by : (b : Bool) → eqb (instant_of x.end) 0 ≡ b → last_end x.end (pick b [] (answers_from n q x.end)) ≡ no_end
              → Renewed q z (x ∷ pick b [] (answers_from n q x.end))
          by true g e = last f e
          by false g e =
              let i : InRange x.end = eqb-false (instant_of x.end) 0 g in
              again f i (rest x.end i e)
