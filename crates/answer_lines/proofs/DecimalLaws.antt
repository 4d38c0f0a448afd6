-- Laws of numbers as text: they read back, have no leading zero, and are short. Assumes nothing.
use mathlib.Core.Path.{◌≡◌, refl, ap, ◌∙◌}
use mathlib.Core.List.{List, [], ◌∷◌, ◌++◌}
use Prim.Native.Nat.{ℕ, zero, suc, ◌+◌, ◌*◌, ◌-◌, ◌/◌, ◌%◌, ◌^◌, ◌≤◌, ◌<◌}
use native.Mathlib.Nat.{pow-suc}
use native.Mathlib.Omega.{arith}
use lib.ListN.{length, get_or, length-append}
use borrow.Author.Tests.{lt-ltb, le-ltb}
use Rattle.base.proofs.Tests.{by_order}
use Rattle.answer_lines.specs.Decimal.{number_from, decimal_in, decimal}

-- any number of places that suffices gives the same
enough : (k l n : ℕ) → n ≤ k → n ≤ l → decimal_in k n ≡ decimal_in l n
unfolding decimal_in
enough zero zero n h i = refl
enough zero (suc l) n h i = rw (lt-ltb n 10 (omega arith))
enough (suc k) zero n h i = rw (lt-ltb n 10 (omega arith))
enough (suc k) (suc l) n h i =
    by_order n 10
    (λ s. rw (lt-ltb n 10 s))
    (λ b. rw (le-ltb n 10 b, enough k l (n / 10) (omega arith) (omega arith)))

-- the two rules of a decimal number
pub decimal-one : (n : ℕ) → n < 10 → decimal n ≡ (48 + n) ∷ []
unfolding decimal decimal_in
decimal-one zero h = refl
decimal-one (suc n) h = rw (lt-ltb (suc n) 10 h) (ap (λ (b : ℕ). (48 + b) ∷ []) (omega arith))

pub decimal-more : (n : ℕ) → 10 ≤ n → decimal n ≡ decimal (n / 10) ++ (48 + n % 10) ∷ []
unfolding decimal decimal_in
decimal-more zero h = absurd (omega arith)
decimal-more (suc n) h = rw (le-ltb (suc n) 10 h, enough n (suc n / 10) (suc n / 10) (omega arith) (omega arith))

-- a proof of every number's digits, by those two rules
by_digits : (P : ℕ → List ℕ → Type 0) → ((n : ℕ) → n < 10 → P n ((48 + n) ∷ []))
    → ((n : ℕ) → 10 ≤ n → P (n / 10) (decimal (n / 10)) → P n (decimal (n / 10) ++ (48 + n % 10) ∷ [])) → (n : ℕ) → P n (decimal n)
by_digits P one more n = go n n (omega arith)
  where
    go : (k n : ℕ) → n ≤ k → P n (decimal n)
    go zero n h = rw (decimal-one n (omega arith)) (one n (omega arith))
    go (suc k) n h =
        by_order n 10
        (λ s. rw (decimal-one n s) (one n s))
        (λ b. rw (decimal-more n b) (more n b (go k (n / 10) (omega arith))))

number_append : (v : ℕ) (xs ys : List ℕ) → number_from v (xs ++ ys) ≡ number_from (number_from v xs) ys
unfolding number_from
number_append v [] ys = refl
number_append v (b ∷ xs) ys = number_append (10 * v + (b - 48)) xs ys

-- "it reads back"
pub decimal-reads-back : (n : ℕ) → number_from 0 (decimal n) ≡ n
unfolding number_from
decimal-reads-back =
    by_digits (λ n xs. number_from 0 xs ≡ n)
    (λ n h. omega arith)
    (λ n h e. number_append 0 (decimal (n / 10)) ((48 + n % 10) ∷ []) ∙ rw e (omega arith))

-- no leading zero
pub decimal-first : (n : ℕ) → 0 < n → 49 ≤ get_or (decimal n) 0 0
decimal-first =
    by_digits (λ n xs. 0 < n → 49 ≤ get_or xs 0 0)
    (λ n h p. omega arith)
    (λ n h e p. front (decimal (n / 10)) _ (e (omega arith)))
  where
    front : (xs ys : List ℕ) → 49 ≤ get_or xs 0 0 → 49 ≤ get_or (xs ++ ys) 0 0
    front [] ys h = absurd (omega arith)
    front (b ∷ xs) ys h = h

length-below : (k n : ℕ) → n < 10 ^ suc k → length (decimal n) ≤ suc k
length-below zero n h = rw (decimal-one n h) (omega arith)
length-below (suc k) n h =
    by_order n 10
    (λ s. rw (decimal-one n s) (omega arith))
    (λ b. let p : n < 10 ^ suc k * 10 = rw (pow-suc 10 (suc k)) at h in
    rw (decimal-more n b, length-append (decimal (n / 10)) ((48 + n % 10) ∷ []))
    (omega (arith, length-below k (n / 10) (omega arith))))

pub decimal-short : (n : ℕ) → n < 2 ^ 64 → length (decimal n) ≤ 20
decimal-short n h = length-below 19 n (omega arith)

pub decimal-some : (n : ℕ) → 0 < length (decimal n)
decimal-some =
    by_digits (λ n xs. 0 < length xs)
    (λ n h. omega arith)
    (λ n h e. rw (length-append (decimal (n / 10)) ((48 + n % 10) ∷ [])) (omega arith))
