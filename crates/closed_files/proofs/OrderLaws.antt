-- The order of numbers whose uses fall is the numbers as they are. Assumes nothing.
use mathlib.Core.Path.{◌≡◌, refl, ap, ◌∙◌}
use mathlib.Core.List.{List, [], ◌∷◌}
use Prim.Native.Nat.{ℕ, zero, suc, ◌+◌, ◌-◌, ◌≤◌, ◌<◌}
use native.Mathlib.Omega.{arith}
use lib.ListN.{length, get_or}
use borrow.Author.Tests.{lt-ltb, le-leb}
use Rattle.sorting.specs.Sort.{insert, sort_of}
use Rattle.use_order.specs.Order.{key_of, keys_from, numbers_of, order_of}
use Rattle.use_order.proofs.OrderLaws.{key-number}
use Rattle.closed_files.specs.Again.{up_from}

pub length_up : (k n : ℕ) → length (up_from k n) ≡ n
unfolding up_from
length_up k zero = refl
length_up k (suc n) = ap suc (length_up (suc k) n)

pub up_at : (k n j : ℕ) → j < n → get_or (up_from k n) j 0 ≡ k + j
unfolding up_from
up_at k zero j h = absurd (omega arith)
up_at k (suc n) zero h = let z : k ≡ k + 0 = omega arith in z
up_at k (suc n) (suc j) h = up_at (suc k) n j (omega arith) ∙ (let z : suc k + j ≡ k + suc j = omega arith in z)

-- the first n numbers are used, each no less than the next, and no other is
pub record Falls (n : ℕ) (uses : List ℕ) : Type 0 where
  pub some : (j : ℕ) → j < n → 0 < get_or uses j 0
  pub none : (j : ℕ) → n ≤ j → get_or uses j 0 ≡ 0
  pub fall : (j : ℕ) → suc j < n → 4294967295 - get_or uses j 0 ≤ 4294967295 - get_or uses (suc j) 0

falls-next : (n u : ℕ) (l : List ℕ) → Falls (suc n) (u ∷ l) → Falls n l
falls-next n u l f =
    record { some = λ j h. f.some (suc j) (omega arith); none = λ j h. f.none (suc j) (omega arith); fall = λ j h. f.fall (suc j) (omega arith) }

none-next : (u : ℕ) (l : List ℕ) → Falls 0 (u ∷ l) → Falls 0 l
none-next u l f = record { some = λ j h. absurd (omega arith); none = λ j h. f.none (suc j) (omega arith); fall = λ j h. absurd (omega arith) }

keys_none : (k : ℕ) (l : List ℕ) → Falls 0 l → keys_from k l ≡ []
unfolding keys_from
keys_none k [] f = refl
keys_none k (u ∷ l) f = let z : u ≡ 0 = f.none 0 (omega arith) in rw z (keys_none (suc k) l (none-next u l f))

keys-some : (k n u : ℕ) (l : List ℕ) → Falls (suc n) (u ∷ l) → keys_from k (u ∷ l) ≡ key_of u k ∷ keys_from (suc k) l
unfolding keys_from
keys-some k n u l f = rw (lt-ltb 0 u (f.some 0 (omega arith)))

-- the keys are in their order
insert-first : (k n u : ℕ) (l : List ℕ) → Falls (suc n) (u ∷ l) → insert (key_of u k) (keys_from (suc k) l) ≡ key_of u k ∷ keys_from (suc k) l
unfolding insert
insert-first k zero u l f = rw (keys_none (suc k) l (falls-next 0 u l f))
insert-first k (suc n) u [] f = let z : 0 < 0 = f.some 1 (omega arith) in absurd (omega arith)
insert-first k (suc n) u (v ∷ l) f =
    let d : 4294967295 - u ≤ 4294967295 - v = f.fall 0 (omega arith) in
    let s = keys-some (suc k) n v l (falls-next (suc n) u (v ∷ l) f) in
    rw (s, le-leb (key_of u k) (key_of v (suc k)) (omega arith))

keys-sorted : (k n : ℕ) (uses : List ℕ) → Falls n uses → sort_of (keys_from k uses) ≡ keys_from k uses
unfolding sort_of
keys-sorted k zero uses f = rw (keys_none k uses f)
keys-sorted k (suc n) [] f = let z : 0 < 0 = f.some 0 (omega arith) in absurd (omega arith)
keys-sorted k (suc n) (u ∷ l) f =
    rw (keys-some k n u l f) (ap (insert (key_of u k)) (keys-sorted (suc k) n l (falls-next n u l f)) ∙ insert-first k n u l f)

numbers_up : (k n : ℕ) (uses : List ℕ) → k + length uses ≤ 8192 → Falls n uses → numbers_of (keys_from k uses) ≡ up_from k n
unfolding numbers_of up_from
numbers_up k zero uses h f = rw (keys_none k uses f)
numbers_up k (suc n) [] h f = let z : 0 < 0 = f.some 0 (omega arith) in absurd (omega arith)
numbers_up k (suc n) (u ∷ l) h f =
    rw (keys-some k n u l f, key-number u k (omega arith)) (ap (λ (q : List ℕ). k ∷ q) (numbers_up (suc k) n l (omega arith) (falls-next n u l f)))

-- WHERE THE USES FALL, the order is the numbers as they are
pub order-up : (n : ℕ) (uses : List ℕ) → length uses ≤ 8192 → Falls n uses → order_of uses ≡ up_from 0 n
unfolding order_of
order-up n uses h f = ap numbers_of (keys-sorted 0 n uses f) ∙ numbers_up 0 n uses (omega arith) f
