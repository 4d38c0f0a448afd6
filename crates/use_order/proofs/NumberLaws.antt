-- Uses by number are how often each is mentioned, and the table gives each number its place in the order. Assumes nothing.
use mathlib.Core.Path.{◌≡◌, refl, sym, ◌∙◌}
use mathlib.Core.Bool.{Bool, true, false}
use mathlib.Core.List.{List, [], ◌∷◌}
use Prim.Native.Nat.{ℕ, zero, suc, ◌+◌, ◌≤◌, ◌<◌}
use native.Mathlib.Omega.{arith}
use lib.ListN.{length, get_or, set, length-set}
use lib.Seq.{get_or-set_same, get_or-set_other, set_out}
use lib.Dec.{eqb, ltb}
use borrow.Author.Tests.{eq-eqb, eqb-true, eqb-false, ltb-true, ltb-false}
use Rattle.base.specs.Pick.{pick}
use Rattle.sorting.specs.Sort.{times}
use Rattle.use_order.specs.Order.{mention, mention_all, numbered_from}

pub length-mention : (k : ℕ) (u : List ℕ) → length (mention k u) ≡ length u
unfolding mention
length-mention k u = length-set u k (get_or u k 0 + 1)

get_or-mention : (j k : ℕ) (u : List ℕ) → k < length u → get_or (mention j u) k 0 ≡ get_or u k 0 + pick (eqb j k) 1 0
unfolding mention
get_or-mention j k u h = go (eqb j k) refl
  where
    go : (t : Bool) → eqb j k ≡ t → get_or (set u j (get_or u j 0 + 1)) k 0 ≡ get_or u k 0 + pick t 1 0
    go true e = let s : j ≡ k = eqb-true j k e in rw s (get_or-set_same u k (get_or u k 0 + 1) 0 h)
    go false e = get_or-set_other u j k (get_or u j 0 + 1) 0 (λ s. eqb-false j k e (sym s)) ∙ (let z : get_or u k 0 ≡ get_or u k 0 + 0 = omega arith in z)

-- a mention is one use more at most
pub mention-most : (j k : ℕ) (u : List ℕ) → get_or (mention j u) k 0 ≤ get_or u k 0 + 1
unfolding mention
mention-most j k u = go (ltb k (length u)) refl
  where
    by : (t : Bool) → get_or u k 0 + pick t 1 0 ≤ get_or u k 0 + 1
    by true = omega arith
    by false = omega arith

    other : (t : Bool) → eqb j k ≡ t → length u ≤ k → get_or (set u j (get_or u j 0 + 1)) k 0 ≤ get_or u k 0 + 1
    other true e l = let s : j ≡ k = eqb-true j k e in rw (set_out u j (get_or u j 0 + 1) (omega arith)) (omega arith)
    other false e l = rw (get_or-set_other u j k (get_or u j 0 + 1) 0 (λ s. eqb-false j k e (sym s))) (omega arith)

    go : (t : Bool) → ltb k (length u) ≡ t → get_or (set u j (get_or u j 0 + 1)) k 0 ≤ get_or u k 0 + 1
    go true e = rw (get_or-mention j k u (ltb-true k (length u) e)) (by (eqb j k))
    go false e = other (eqb j k) refl (ltb-false k (length u) e)

-- USES ARE COUNTS: how often each number is mentioned
pub uses-times : (ks u : List ℕ) (k : ℕ) → k < length u → get_or (mention_all ks u) k 0 ≡ get_or u k 0 + times k ks
unfolding mention_all times
uses-times [] u k h = omega arith
uses-times (j ∷ ks) u k h =
    let r : get_or (mention_all ks (mention j u)) k 0 ≡ get_or (mention j u) k 0 + times k ks = uses-times ks (mention j u) k (rw length-mention h) in
    let m = get_or-mention j k u h in
    omega (arith, r, m)

pub length-uses : (ks u : List ℕ) → length (mention_all ks u) ≡ length u
unfolding mention_all
length-uses [] u = refl
length-uses (j ∷ ks) u = length-uses ks (mention j u) ∙ length-mention j u

-- ---- the table
numbered-other : (i : ℕ) (ks t : List ℕ) (k : ℕ) → times k ks ≡ 0 → get_or (numbered_from i ks t) k 0 ≡ get_or t k 0
unfolding numbered_from times
numbered-other i [] t k h = refl
numbered-other i (x ∷ ks) t k h = go (eqb x k) refl h (λ z. numbered-other (suc i) ks (set t x i) k z)
  where
    go : (b : Bool) → eqb x k ≡ b → pick b 1 0 + times k ks ≡ 0 → (times k ks ≡ 0 → get_or (numbered_from (suc i) ks (set t x i)) k 0 ≡ get_or (set t x i) k 0)
        → get_or (numbered_from (suc i) ks (set t x i)) k 0 ≡ get_or t k 0
    go true e z rec = absurd (omega arith)
    go false e z rec = rec (omega arith) ∙ get_or-set_other t x k i 0 (λ s. eqb-false x k e (sym s))

-- THE NEW NUMBER of a number is its place in the order, where no number is there twice
pub new-number : (i : ℕ) (ks t : List ℕ) (j : ℕ) → j < length ks → ((k : ℕ) → times k ks ≤ 1) → ((n : ℕ) → n < length ks → get_or ks n 0 < length t)
    → get_or (numbered_from i ks t) (get_or ks j 0) 0 ≡ i + j
unfolding numbered_from times
new-number i [] t j l once below = absurd (omega arith)
new-number i (x ∷ ks) t zero l once below =
    let o : pick (eqb x x) 1 0 + times x ks ≤ 1 = once x in
    let z : times x ks ≡ 0 = let p : 1 + times x ks ≤ 1 = rw (eq-eqb x x refl) at o in omega arith in
    numbered-other (suc i) ks (set t x i) x z ∙ get_or-set_same t x i 0 (below 0 (omega arith)) ∙ (let y : i ≡ i + 0 = omega arith in y)
new-number i (x ∷ ks) t (suc j) l once below =
    new-number (suc i) ks (set t x i) j (omega arith) (λ k. let o : pick (eqb x k) 1 0 + times k ks ≤ 1 = once k in omega arith) (λ n h. rw length-set (below (suc n) (omega arith)))
    ∙ (let y : suc i + j ≡ i + suc j = omega arith in y)

-- every number in the table is small
pub numbered-most : (i m : ℕ) (ks t : List ℕ) → i + length ks ≤ m → ((k : ℕ) → get_or t k 0 ≤ m) → (k : ℕ) → get_or (numbered_from i ks t) k 0 ≤ m
unfolding numbered_from
numbered-most i m [] t h f k = f k
numbered-most i m (x ∷ ks) t h f k = numbered-most (suc i) m ks (set t x i) (omega arith) (λ n. go n (eqb x n) refl (ltb n (length t)) refl) k
  where
    go : (n : ℕ) (a : Bool) → eqb x n ≡ a → (b : Bool) → ltb n (length t) ≡ b → get_or (set t x i) n 0 ≤ m
    go n true e true l = let s : x ≡ n = eqb-true x n e in rw (s, get_or-set_same t n i 0 (ltb-true n (length t) l)) (omega arith)
    go n true e false l = let s : x ≡ n = eqb-true x n e in rw (s, set_out t n i (ltb-false n (length t) l)) (f n)
    go n false e b l = rw (get_or-set_other t x n i 0 (λ s. eqb-false x n e (sym s))) (f n)
