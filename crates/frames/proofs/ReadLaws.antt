-- What the readers' tests say of the definitions, a law for each way out of the code. Assumes nothing.
use Rattle.base.specs.declared.Refusal.{Refusal}
use Rattle.std.specs.Prelude.{Err, Ok}
use Rattle.std.specs.declared.option.Option.{Option}
use Rattle.std.specs.declared.option.Option.TheVariants.{Some, None}
use Rattle.base.specs.declared.Refusal.TheVariants.{BadCode, BadData, NotFound, TooLarge, WrongVersion}
use mathlib.Core.Path.{◌≡◌, refl, sym, ◌∙◌}
use mathlib.Core.Bool.{Bool, true, false}
use mathlib.Core.List.{List, [], ◌∷◌}
use mathlib.Core.Logic.{◌⊎◌, inl, inr}
use Prim.Native.Nat.{ℕ, zero, suc, ◌+◌, ◌-◌, ◌≤◌, ◌<◌}
use native.Mathlib.Omega.{arith}
use lib.ListN.{length, get_or, take, drop}
use lib.Seq.{get_or-take}
use lib.Dec.{ltb, eqb}
use borrow.Author.Tests.{lt-ltb, le-ltb, le-leb, lt-leb, eq-eqb, ne_eqb}
use Rattle.base.proofs.Tests.{by_order, pick-holds}
use Rattle.frames.specs.Frame.{largest, order, zeros, version, read_size, sized, field}
use Rattle.frames.specs.declared.Frame.TheVariants.{End, Cut, Refused, Version, Whole}
use Rattle.frames.proofs.SizeLaws.{size-refused as refused-with}

-- the version, by one byte that is not 0, or by all four
zeros-other : (s : List ℕ) (k : ℕ) → (get_or s k 0 ≡ 0 → ⊥) → zeros s ≡ false
unfolding zeros
zeros-other [] k h = absurd (h refl)
zeros-other (b ∷ s) zero h = rw (ne_eqb b 0 h)
zeros-other (b ∷ s) (suc k) h = pick-holds (λ t. t ≡ false) (eqb b 0) (λ e. zeros-other s k h) (λ e. refl)

pub version-other : (r : List ℕ) (k : ℕ) → 4 ≤ length r → k < 4 → (get_or r k 0 ≡ 0 → ⊥) → Refused WrongVersion ≡ version r
unfolding version
version-other r k l m h = rw (le-leb 4 (length r) l, zeros-other (take 4 r) k (λ e. h (sym (get_or-take 4 r k 0 m) ∙ e)))

pub version-zero : (r : List ℕ) → 4 ≤ length r → get_or r 0 0 ≡ 0 → get_or r 1 0 ≡ 0 → get_or r 2 0 ≡ 0 → get_or r 3 0 ≡ 0 → Version ≡ version r
unfolding version zeros
version-zero [] l h₀ h₁ h₂ h₃ = absurd (omega arith)
version-zero (a ∷ []) l h₀ h₁ h₂ h₃ = absurd (omega arith)
version-zero (a ∷ b ∷ []) l h₀ h₁ h₂ h₃ = absurd (omega arith)
version-zero (a ∷ b ∷ c ∷ []) l h₀ h₁ h₂ h₃ = absurd (omega arith)
version-zero (a ∷ b ∷ c ∷ d ∷ r) l h₀ h₁ h₂ h₃ = rw (le-leb 4 _ l, eq-eqb a 0 h₀, eq-eqb b 0 h₁, eq-eqb c 0 h₂, eq-eqb d 0 h₃)

pub version-cut : (r : List ℕ) → length r < 4 → Cut ≡ version r
unfolding version
version-cut r h = rw (lt-leb 4 (length r) h)

-- the largest place, by a sum that cannot wrap
pub far : (at n : ℕ) → largest < at → true ≡ ltb largest (at + n)
far at n h = sym (lt-ltb largest (at + n) (omega arith))

pub near : (at n : ℕ) → at ≤ largest → ltb (largest - at) n ≡ ltb largest (at + n)
near at n h =
    by_order (largest - at) n
    (λ l. rw (lt-ltb (largest - at) n l, lt-ltb largest (at + n) (omega arith)))
    (λ l. rw (le-ltb (largest - at) n l, le-ltb largest (at + n) (omega arith)))

-- behind the ID byte
module _ (at i : ℕ) (r : List ℕ) where
  pub size-cut : (n : Refusal) → Err n ≡ read_size r → n ≡ BadData → Cut ≡ sized at i r (read_size r)
  unfolding sized
  size-cut n e h = rw (← e, h)

  pub size-refused : (n : Refusal) → Err n ≡ read_size r → (n ≡ BadData → ⊥) → Refused BadCode ≡ sized at i r (read_size r)
  unfolding sized
  size-refused n e h = go (refused-with r e)
    where
      go : (n ≡ BadCode) ⊎ (n ≡ BadData) → Refused BadCode ≡ sized at i r (read_size r)
      go (inl k) = rw (← e, k)
      go (inr k) = absurd (h k)

  module _ (v u : ℕ) (e : Ok (v, u) ≡ read_size r) where
    pub size-large : (t : Bool) → t ≡ ltb largest (at + (1 + u + v)) → t ≡ true → Refused TooLarge ≡ sized at i r (read_size r)
    unfolding sized
    size-large t h k = rw (← e, ← h, k)

    module _ (t : Bool) (h : t ≡ ltb largest (at + (1 + u + v))) (k : t ≡ false) where
      pub size-whole : u + v ≤ length r → Whole i (1 + u) v ≡ sized at i r (read_size r)
      unfolding sized
      size-whole l = rw (← e, ← h, k, le-leb _ _ l)

      pub size-part : length r < u + v → Cut ≡ sized at i r (read_size r)
      unfolding sized
      size-part l = rw (← e, ← h, k, lt-leb _ _ l)

-- at the ID byte
module _ (last at : ℕ) (seen : Bool) (prev : ℕ) where
  pub field-none : (r : List ℕ) → length r ≡ 0 → End ≡ field last at seen prev r
  unfolding field
  field-none [] h = refl
  field-none (i ∷ r) h = absurd (omega arith)

  pub field-order : (r : List ℕ) (n : Option Refusal) → 0 < length r → n ≡ order seen prev (get_or r 0 0) → (k : Refusal) → n ≡ Some k
      → Refused k ≡ field last at seen prev r
  unfolding field
  field-order [] n h e k f = absurd (omega arith)
  field-order (i ∷ r) n h e k f = rw (← e, f)

  pub field-above : (r : List ℕ) (n : Option Refusal) → 0 < length r → n ≡ order seen prev (get_or r 0 0) → n ≡ None → last < get_or r 0 0
      → Refused NotFound ≡ field last at seen prev r
  unfolding field
  field-above [] n h e k l = absurd (omega arith)
  field-above (i ∷ r) n h e k l = rw (← e, k, lt-ltb _ _ l)

  pub field-sized : (r : List ℕ) (n : Option Refusal) → 0 < length r → n ≡ order seen prev (get_or r 0 0) → n ≡ None → get_or r 0 0 ≤ last
      → sized at (get_or r 0 0) (drop 1 r) (read_size (drop 1 r)) ≡ field last at seen prev r
  unfolding field
  field-sized [] n h e k l = absurd (omega arith)
  field-sized (i ∷ r) n h e k l = rw (← e, k, le-ltb _ _ l)
