-- A loop over counted items: where it stands, and how it goes on. Assumes nothing.
use Rattle.base.specs.declared.Refusal.{Refusal}
use mathlib.Core.Path.{◌≡◌, refl, sym, ◌∙◌}
use mathlib.Core.List.{List, [], ◌∷◌, ◌++◌, append-nil, append_assoc}
use Prim.Native.Nat.{ℕ, zero, suc, ◌+◌, ◌-◌, ◌≤◌, ◌<◌}
use native.Mathlib.Omega.{arith}
use lib.ListN.{length, drop, length-append}
use Rattle.base.specs.Parsed.{Parsed, got, bad, bind, prepend, many, behind}

pub behind-snoc : {S A : Type 0} (next : A → S) (σ : S) (pre : List A) (a : A) → behind next σ (pre ++ (a ∷ [])) ≡ next a
unfolding behind
behind-snoc next σ [] a = refl
behind-snoc next σ (b ∷ pre) a = behind-snoc next (next b) pre a

-- `whole` is what all of the bytes s give, k what follows the n items that start in the state `start`
module _ {S A Z : Type 0} (item : S → List ℕ → Parsed A) (next : A → S) (whole : Parsed Z) (k : List A → List ℕ → Parsed Z)
    (s : List ℕ) (start : S) (n : ℕ) where
  -- `left` items are still to be read, from `at` on, in the state σ, behind the items `pre`
  pub record Going (left at : ℕ) (σ : S) (pre : List A) : Type 0 where
    pub place : at ≤ length s
    pub count : length pre + left ≡ n
    pub last : σ ≡ behind next start pre
    pub rest : whole ≡ bind (many item next left σ (drop at s)) (λ xs q. k (pre ++ xs) q)

  pub going_start : (at : ℕ) → at ≤ length s → whole ≡ bind (many item next n start (drop at s)) k → Going n at start []
  unfolding behind
  going_start at h e = record { place = h; count = omega arith; last = refl; rest = e }

  turn : (a : A) (pre : List A) (p : Parsed (List A))
      → bind (bind p (prepend a)) (λ xs q. k (pre ++ xs) q) ≡ bind p (λ xs q. k ((pre ++ (a ∷ [])) ++ xs) q)
  turn a pre (bad c) = refl
  turn a pre (got xs q) = rw (append_assoc pre (a ∷ []) xs)

  pub going-bad : (left at : ℕ) (σ : S) (pre : List A) (c : Refusal) → Going left at σ pre → 0 < left → item σ (drop at s) ≡ bad c → whole ≡ bad c
  unfolding many
  going-bad zero at σ pre c g h e = absurd (omega arith)
  going-bad (suc left) at σ pre c g h e = g.rest ∙ rw e

  pub going_next : (left at : ℕ) (σ : S) (pre : List A) (a : A) (e : ℕ) → Going left at σ pre → 0 < left
      → item σ (drop at s) ≡ got a (drop e s) → e ≤ length s → Going (left - 1) e (next a) (pre ++ (a ∷ []))
  unfolding many
  going_next zero at σ pre a e g h f l = absurd (omega arith)
  going_next (suc left) at σ pre a e g h f l =
      let one : suc left - 1 ≡ left = omega arith in
      record {
        place = l;
        count = rw (length-append pre (a ∷ [])) (let c = g.count in omega arith);
        last = sym (behind-snoc next start pre a);
        rest = rw one (g.rest ∙ rw f (turn a pre (many item next left (next a) (drop e s))));
      }

  pub going_done : (left at : ℕ) (σ : S) (pre : List A) → Going left at σ pre → left ≡ 0 → whole ≡ k pre (drop at s)
  unfolding many
  going_done zero at σ pre g h = g.rest ∙ rw (append-nil pre)
  going_done (suc left) at σ pre g h = absurd (omega arith)
