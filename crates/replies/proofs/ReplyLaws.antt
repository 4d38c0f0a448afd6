-- What a function says and leaves, from one return each. Assumes nothing.
use Rattle.base.specs.Refusals.{refusal_number}
use Rattle.base.specs.declared.Refusal.{Refusal}
use mathlib.Core.Path.{◌≡◌, refl, subst}
use mathlib.Core.List.{List, [], ◌∷◌}
use Prim.Native.Nat.{ℕ}
use native.Mathlib.Omega.{arith}
use lib.IntN.{ℤ, pos}
use borrow.Author.Tests.{ne_eqb}
use Rattle.base.specs.Moment.{start_of_time, end_of_time}
use Rattle.signed.specs.Instant.{ticks_of}
use Rattle.replies.specs.Functions.{moment_numbers}
use Rattle.replies.specs.Reply.{Reply, numbers, refused, refusal, Gives}

-- an answer: its numbers stand in the output
pub gave : (x : Reply) (d e : List ℤ) → x ≡ numbers e → Gives x d 0 e
gave x d e h = rw h (record { result = refl; output = refl })

-- a refusal: the output is as found
pub denied : (x : Reply) (d : List ℤ) (n : Refusal) (p r : ℕ) → x ≡ refused n p → r ≡ refusal n p → Gives x d r d
denied x d n p r h q = rw h (record { result = q; output = refl })

-- a refusal of a small code, whose place is 0, by its number
pub denied-number : (x : Reply) (d : List ℤ) (k : Refusal) (r : ℕ) → x ≡ refused k 0 → r ≡ refusal_number k → Gives x d r d
denied-number x d k r h q = denied x d k 0 r h (omega arith)

pub denied-code : (x : Reply) (d : List ℤ) (k : Refusal) → x ≡ refused k 0 → Gives x d (refusal_number k) d
denied-code x d k h = denied-number x d k (refusal_number k) h refl

-- the same reply by another name
pub gives_as : (x y : Reply) (d : List ℤ) (r : ℕ) (e : List ℤ) → x ≡ y → Gives x d r e → Gives y d r e
gives_as x y d r e h g = subst (λ (z : Reply). Gives z d r e) h g

pub instant-numbers : (m n : ℕ) (z : ℤ) → (m ≡ start_of_time → ⊥) → (m ≡ end_of_time → ⊥) → z ≡ ticks_of m
    → moment_numbers m n ≡ numbers (pos 2 ∷ z ∷ pos n ∷ [])
instant-numbers m n z s e h = rw (h, ne_eqb m start_of_time s, ne_eqb m end_of_time e)
