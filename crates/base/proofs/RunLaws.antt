-- Laws of a machine that takes steps until it stops. Assumes nothing.
use mathlib.Core.Path.{◌≡◌, refl}
use Prim.Native.Nat.{ℕ, zero, suc, ◌<◌}
use native.Mathlib.Nat.{not-suc-le-zero}
use native.Mathlib.Omega.{arith}
use Rattle.base.specs.Run.{Step, stop, next, follow, iterate, run}

module _ {S O : Type 0} (f : S → Step S O) (d : O) (size : S → ℕ) where
  pub run-stop : (s : S) (o : O) → f s ≡ stop o → run f d size s ≡ o
  unfolding iterate
  run-stop s o e = rw e

  -- where each step makes the state smaller
  module _ (falls : (s t : S) → f s ≡ next t → size t < size s) where
    pub enough : (n m : ℕ) (s : S) → size s < n → size s < m → iterate f d n s ≡ iterate f d m s
    unfolding iterate
    enough zero m s h k = absurd (not-suc-le-zero h)
    enough (suc n) zero s h k = absurd (not-suc-le-zero k)
    enough (suc n) (suc m) s h k = go (f s) refl (λ t. enough n m t)
      where
        go : (x : Step S O) → f s ≡ x → ((t : S) → size t < n → size t < m → iterate f d n t ≡ iterate f d m t)
            → follow x (λ t. iterate f d n t) ≡ follow x (λ t. iterate f d m t)
        go (stop o) e rec = refl
        go (next t) e rec = let l : size t < size s = falls s t e in rec t (omega arith) (omega arith)

    pub run-next : (s t : S) → f s ≡ next t → run f d size s ≡ run f d size t
    unfolding iterate
    run-next s t e = let l : size t < size s = falls s t e in rw e (enough (size s) (suc (size t)) t (omega arith) (omega arith))

    -- what holds of a state if it holds of the one after it holds of all
    pub run-ind : (P : S → Type 0) → ((s : S) → ((t : S) → f s ≡ next t → P t) → P s) → (s : S) → P s
    run-ind P h s = go (suc (size s)) s (omega arith)
      where
        go : (n : ℕ) (t : S) → size t < n → P t
        go zero t l = absurd (not-suc-le-zero l)
        go (suc n) t l = h t (λ u e. let k : size u < size t = falls t u e in go n u (omega arith))
