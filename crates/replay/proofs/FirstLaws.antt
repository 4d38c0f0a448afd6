-- The record reported is the first that the file contradicts, and none is only where no record is. Assumes nothing.
use Rattle.base.specs.Coded.{Fault}
use Rattle.std.specs.declared.option.Option.{Option}
use Rattle.std.specs.Prelude.{Ok, Result}
use Rattle.std.specs.declared.option.Option.TheVariants.{None, Some}
use mathlib.Core.Path.{◌≡◌, refl, ◌∙◌, subst}
use mathlib.Core.Bool.{Bool, true, false}
use mathlib.Core.List.{List}
use Prim.Native.Nat.{ℕ, zero, suc, ◌+◌, ◌-◌, ◌*◌, ◌<◌}
use native.Mathlib.Omega.{arith}
use Rattle.base.specs.Pick.{pick}
use Rattle.base.proofs.Tests.{clash}
use Rattle.trace_records.specs.Record.{agrees}
use Rattle.replay.specs.Reports.{first_wrong}
use Rattle.replay.specs.Facts.{First}

module _ (f : List ℕ) (names : ℕ) (s : List ℕ) where
  -- one record on
  moved : (at j : ℕ) {b : Bool} → agrees f names s (at + 20 + j * 20) ≡ b → agrees f names s (at + suc j * 20) ≡ b
  moved at j {b} e = let w : at + 20 + j * 20 ≡ at + suc j * 20 = omega arith in subst (λ (a : ℕ). agrees f names s a ≡ b) w e

  here : (at : ℕ) {b : Bool} → agrees f names s at ≡ b → agrees f names s (at + 0 * 20) ≡ b
  here at {b} e = let w : at ≡ at + 0 * 20 = omega arith in subst (λ (a : ℕ). agrees f names s a ≡ b) w e

  -- numbered from k
  record FirstFrom (at n k i : ℕ) : Type 0 where
    from : ℕ
    sum : i ≡ k + from
    first : First f names s at n from

  first-here : (at n k i : ℕ) → agrees f names s at ≡ false → ◌≡◌ {A = Result (Option ℕ) Fault} (Ok (Some k)) (Ok (Some i)) → FirstFrom at (suc n) k i
  first-here at n k i e h =
      let x : k ≡ i = cc in
      record { from = 0; sum = omega arith; first = record { inside = omega arith; wrong = here at e; before = λ j l. absurd (omega arith) } }

  first-later : (at n k i : ℕ) → agrees f names s at ≡ true → FirstFrom (at + 20) n (k + 1) i → FirstFrom at (suc n) k i
  first-later at n k i e g = record {
    from = suc g.from;
    sum = omega (arith, g.sum);
    first = record {
      inside = omega (arith, g.first.inside);
      wrong = moved at g.from g.first.wrong;
      before = λ j l. early j l;
    };
  }
    where
      early : (j : ℕ) → j < suc g.from → agrees f names s (at + j * 20) ≡ true
      early zero l = here at e
      early (suc j) l = moved at j (g.first.before j (omega arith))

  first-from : (n k at i : ℕ) → first_wrong f names s n k at ≡ Ok (Some i) → FirstFrom at n k i
  unfolding first_wrong
  first-from zero k at i e = clash cc
  first-from (suc n) k at i e = go (agrees f names s at) refl e (λ h. first-from n (k + 1) (at + 20) i h)
    where
      go : (b : Bool) → agrees f names s at ≡ b → pick b (first_wrong f names s n (k + 1) (at + 20)) (Ok (Some k)) ≡ Ok (Some i)
          → (first_wrong f names s n (k + 1) (at + 20) ≡ Ok (Some i) → FirstFrom (at + 20) n (k + 1) i) → FirstFrom at (suc n) k i
      go true a h rec = first-later at n k i a (rec h)
      go false a h rec = first-here at n k i a h

  none_from : (n k at : ℕ) → first_wrong f names s n k at ≡ Ok None → (j : ℕ) → j < n → agrees f names s (at + j * 20) ≡ true
  unfolding first_wrong
  none_from zero k at e j l = absurd (omega arith)
  none_from (suc n) k at e j l = go (agrees f names s at) refl e (λ h. none_from n (k + 1) (at + 20) h) j l
    where
      go : (b : Bool) → agrees f names s at ≡ b → pick b (first_wrong f names s n (k + 1) (at + 20)) (Ok (Some k)) ≡ Ok None
          → (first_wrong f names s n (k + 1) (at + 20) ≡ Ok None → (j : ℕ) → j < n → agrees f names s (at + 20 + j * 20) ≡ true)
          → (j : ℕ) → j < suc n → agrees f names s (at + j * 20) ≡ true
      go true a h rec zero l = here at a
      go true a h rec (suc j) l = moved at j (rec h j (omega arith))
      go false a h rec j l = clash cc

  -- THE RECORD REPORTED IS THE FIRST THAT THE FILE CONTRADICTS
  pub first-wrong : (n at i : ℕ) → first_wrong f names s n 0 at ≡ Ok (Some i) → First f names s at n i
  first-wrong n at i e =
      let g = first-from n 0 at i e in
      let w : g.from ≡ i = omega (arith, g.sum) in
      subst (First f names s at n) w g.first

  -- NONE IS REPORTED ONLY WHERE THE FILE CONTRADICTS NONE
  pub none-wrong : (n at : ℕ) → first_wrong f names s n 0 at ≡ Ok None → (j : ℕ) → j < n → agrees f names s (at + j * 20) ≡ true
  none-wrong n at e j l = none_from n 0 at e j l
