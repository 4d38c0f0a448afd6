-- Rising lists of numbers, one behind the other. Assumes nothing.
use mathlib.Core.List.{List, [], ◌∷◌, ◌++◌}
use mathlib.Core.Path.{refl}
use mathlib.Core.Logic.{inl, inr}
use Prim.Native.Nat.{ℕ, suc, ◌≤◌, ◌<◌}
use native.Mathlib.Omega.{arith}
use Rattle.local_times.specs.Reads.{Among, Rises}

pub among-left : (t : ℕ) (xs ys : List ℕ) → Among t xs → Among t (xs ++ ys)
among-left t [] ys m = absurd m
among-left t (x ∷ xs) ys (inl e) = inl e
among-left t (x ∷ xs) ys (inr m) = inr (among-left t xs ys m)

pub among-right : (t : ℕ) (xs ys : List ℕ) → Among t ys → Among t (xs ++ ys)
among-right t [] ys m = m
among-right t (x ∷ xs) ys m = inr (among-right t xs ys m)

pub among-split : (t : ℕ) (xs ys : List ℕ) {G : Type 0} → (Among t xs → G) → (Among t ys → G) → Among t (xs ++ ys) → G
among-split t [] ys f g m = g m
among-split t (x ∷ xs) ys f g (inl e) = f (inl e)
among-split t (x ∷ xs) ys f g (inr m) = among-split t xs ys (λ k. f (inr k)) g m

-- rising up to an end, and on from there
abbrev pub Below : ℕ → List ℕ → Type 0
Below e ts = (t : ℕ) → Among t ts → t < e

weaken : (a b : ℕ) (ts : List ℕ) → a ≤ b → Rises b ts → Rises a ts
weaken a b [] h r = tt
weaken a b (t ∷ ts) h r = (omega (arith, r.0), r.1)

pub rises-on : (a m : ℕ) (xs ys : List ℕ) → a ≤ m → Rises a xs → Below m xs → Rises m ys → Rises a (xs ++ ys)
rises-on a m [] ys h r b s = weaken a m ys h s
rises-on a m (x ∷ xs) ys h r b s =
    (r.0, rises-on (suc x) m xs ys (omega (arith, b x (inl refl))) r.1 (λ t k. b t (inr k)) s)
