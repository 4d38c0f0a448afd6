-- Laws of keys, of the order and of the table of new numbers, as the code fills them. Assumes nothing.
use mathlib.Core.Path.{◌≡◌, refl, sym, ap, ◌∙◌, subst}
use mathlib.Core.Bool.{Bool, true, false}
use mathlib.Core.List.{List, [], ◌∷◌, ◌++◌, append_assoc, append-nil}
use Prim.Native.Nat.{ℕ, zero, suc, ◌+◌, ◌-◌, ◌*◌, ◌%◌, ◌≤◌, ◌<◌}
use native.Mathlib.Omega.{arith}
use native.Mathlib.Numerals.{add-one}
use lib.ListN.{length, get_or, set, take, drop, length-set, length-append, length-take, take-append-drop, drop_of_length-le}
use lib.Seq.{drop-cons, take-suc-set, take_all, drop-set-lt, drop-drop, take_at, drop_at}
use lib.Dec.{ltb}
use borrow.Author.Tests.{lt-ltb}
use Rattle.base.specs.Pick.{pick}
use Rattle.sorting.specs.Sort.{sort_of}
use Rattle.sorting.proofs.SortLaws.{length-sorted}
pub use Rattle.sorting.proofs.PartLaws.{prefix-length}
use Rattle.use_order.specs.Order.{key_of, keys_from, numbers_of, order_of, numbered_from}
use Rattle.use_order.specs.Fill.{Put, Filled, Ordered}

-- ---- numbers of keys
numbers-suc : (d : List ℕ) (i : ℕ) → i < length d → set (numbers_of (take i d) ++ drop i d) i (get_or (numbers_of (take i d) ++ drop i d) i 0 % 8192) ≡ numbers_of (take (suc i) d) ++ drop (suc i) d
unfolding numbers_of
numbers-suc [] i h = absurd (omega arith)
numbers-suc (x ∷ d) zero h = refl
numbers-suc (x ∷ d) (suc i) h = ap (λ (q : List ℕ). x % 8192 ∷ q) (numbers-suc d i (omega arith))

pub numbers-next : (d : List ℕ) (i : ℕ) → i < length d
    → set (numbers_of (take i d) ++ drop i d) i (get_or (numbers_of (take i d) ++ drop i d) i 0 % 8192) ≡ numbers_of (take (i + 1) d) ++ drop (i + 1) d
numbers-next d i h = rw add-one (numbers-suc d i h)

pub numbers-start : (d : List ℕ) → d ≡ numbers_of [] ++ d
unfolding numbers_of
numbers-start d = refl

pub numbers-end : (d k : List ℕ) (i : ℕ) → length d ≤ i → k ≡ numbers_of (take i d) ++ drop i d → k ≡ numbers_of d
numbers-end d k i h e = e ∙ rw (take_all i d h, drop_of_length-le d {i = i} h, append-nil)

pub length-numbers : (l : List ℕ) → length (numbers_of l) ≡ length l
unfolding numbers_of
length-numbers [] = refl
length-numbers (x ∷ l) = ap suc (length-numbers l)

-- ---- keys
pub put-none : (u k n : ℕ) (d : List ℕ) → u ≡ 0 → Put u k n d n d
put-none u k n d h = record { count = rw h; keys = rw h }

pub put_one : (u k n : ℕ) (d : List ℕ) → 0 < u → Put u k n d (n + 1) (set d n ((4294967295 - u) * 8192 + k))
put_one u k n d h = let e = lt-ltb 0 u h in record { count = rw e; keys = rw e }

module _ (uses d : List ℕ) where
  pub record Filling (keys : List ℕ) (i n : ℕ) : Type 0 where
    pub within : i ≤ length uses
    pub few : n ≤ i
    pub room : length keys ≡ length d
    pub so_far : take n keys ++ keys_from i (drop i uses) ≡ keys_from 0 uses
    pub rest : drop n keys ≡ drop n d

  pub filling-start : Filling d 0 0
  filling-start = record { within = omega arith; few = omega arith; room = refl; so_far = refl; rest = refl }

  pub filling-next : (keys after : List ℕ) (i n r : ℕ) → length uses ≤ length d → Filling keys i n → i < length uses → Put (get_or uses i 0) i n keys r after → Filling after (i + 1) r
  unfolding keys_from
  filling-next keys after i n r f m h p = go (ltb 0 (get_or uses i 0)) refl p.count p.keys
    where
      u : ℕ
      u = get_or uses i 0

      opened : drop i uses ≡ u ∷ drop (suc i) uses
      opened = drop-cons uses i 0 h

      keys-at : (t : Bool) → ltb 0 u ≡ t → keys_from i (drop i uses) ≡ pick t (key_of u i ∷ keys_from (i + 1) (drop (i + 1) uses)) (keys_from (i + 1) (drop (i + 1) uses))
      keys-at t e = ap (keys_from i) opened ∙ rw (e, add-one i)

      go : (t : Bool) → ltb 0 u ≡ t → r ≡ pick t (n + 1) n → after ≡ pick t (set keys n (key_of u i)) keys → Filling after (i + 1) r
      go true e c k = rw (c, k) (record {
        within = omega arith;
        few = omega (arith, m.few);
        room = length-set keys n (key_of u i) ∙ m.room;
        so_far = rw (add-one n, take-suc-set keys n (key_of u i) (omega (arith, m.few, m.room))) (append_assoc (take n keys) (key_of u i ∷ []) _ ∙ ap (λ (q : List ℕ). take n keys ++ q) (sym (keys-at true e)) ∙ m.so_far);
        rest = drop-set-lt (n + 1) keys n (key_of u i) (omega arith) ∙ sym (drop-drop 1 n keys) ∙ ap (drop 1) m.rest ∙ drop-drop 1 n d;
      })
      go false e c k = rw (c, k) (record {
        within = omega arith;
        few = omega (arith, m.few);
        room = m.room;
        so_far = ap (λ (q : List ℕ). take n keys ++ q) (sym (keys-at false e)) ∙ m.so_far;
        rest = m.rest;
      })

  pub filling-end : (keys : List ℕ) (i n : ℕ) → length uses ≤ length d → Filling keys i n → length uses ≤ i → Filled uses d n keys
  unfolding keys_from
  filling-end keys i n f m h =
      let e : take n keys ≡ keys_from 0 uses = sym (append-nil (take n keys)) ∙ subst (λ (q : List ℕ). take n keys ++ keys_from i q ≡ keys_from 0 uses) (drop_of_length-le uses {i = i} h) m.so_far in
      record {
        count = let z : n ≡ length (take n keys) = rw length-take (omega (arith, m.few, m.room, m.within)) in z ∙ ap length e;
        keys = sym (take-append-drop n keys) ∙ ap (λ (q : List ℕ). q ++ drop n keys) e ∙ ap (λ (q : List ℕ). keys_from 0 uses ++ q) m.rest;
      }

-- ---- the order
pub length-keys : (k : ℕ) (l : List ℕ) → length (keys_from k l) ≤ length l
unfolding keys_from
length-keys k [] = omega arith
length-keys k (u ∷ l) = go (ltb 0 u) (length-keys (suc k) l)
  where
    go : (t : Bool) → length (keys_from (suc k) l) ≤ length l → length (pick t (key_of u k ∷ keys_from (suc k) l) (keys_from (suc k) l)) ≤ suc (length l)
    go true h = omega arith
    go false h = omega arith

module _ (uses d f : List ℕ) (n : ℕ) (few : length uses ≤ 8192) (w : Filled uses d n f) where
  pub n-few : n ≤ 8192
  n-few = omega (arith, w.count, length-keys 0 uses)

  taken-keys : take n f ≡ keys_from 0 uses
  taken-keys = ap (take n) w.keys ∙ take_at (keys_from 0 uses) (drop n d) n (sym w.count)

  rest_keys : drop n f ≡ drop n d
  rest_keys = ap (drop n) w.keys ∙ drop_at (keys_from 0 uses) (drop n d) n (sym w.count)

  pub n-prefix : n ≡ length (take n f)
  n-prefix = w.count ∙ ap length (sym taken-keys)

  pub n_within : n ≤ length f
  n_within = let h : length (take n f) ≤ length f = rw length-take (omega arith) in omega (arith, n-prefix)

  module _ (s : List ℕ) (es : s ≡ sort_of (take n f)) where
    length-s : length s ≡ n
    length-s = ap length es ∙ length-sorted (take n f) ∙ sym n-prefix

    pub s-within : n ≤ length (s ++ drop n f)
    s-within = rw length-append (omega (arith, length-s))

    pub s-prefix : n ≡ length (take n (s ++ drop n f))
    s-prefix = sym length-s ∙ ap length (sym (take_at s (drop n f) n length-s))

    pub in_order : (x : List ℕ) → x ≡ numbers_of (take n (s ++ drop n f)) → Ordered uses d n (x ++ drop n (s ++ drop n f))
    unfolding order_of
    in_order x e =
        let p : x ≡ numbers_of (sort_of (keys_from 0 uses)) = e ∙ ap numbers_of (take_at s (drop n f) n length-s ∙ es ∙ ap sort_of taken-keys) in
        record {
          count = w.count ∙ sym (length-numbers (sort_of (keys_from 0 uses)) ∙ length-sorted (keys_from 0 uses));
          order = rw (drop_at s (drop n f) n length-s, rest_keys, p);
        }

-- ---- the table of new numbers
module _ (order start : List ℕ) where
  pub record Numbering (table : List ℕ) (i : ℕ) : Type 0 where
    pub within : i ≤ length order
    pub all : length table ≡ length start
    pub same : numbered_from i (drop i order) table ≡ numbered_from 0 order start

  pub numbering_start : Numbering start 0
  numbering_start = record { within = omega arith; all = refl; same = refl }

  pub numbering-next : (table after : List ℕ) (i : ℕ) → Numbering table i → i < length order → after ≡ set table (get_or order i 0) i → Numbering after (i + 1)
  unfolding numbered_from
  numbering-next table after i n h e = rw e (record {
    within = omega arith;
    all = length-set table (get_or order i 0) i ∙ n.all;
    same = let o : drop i order ≡ get_or order i 0 ∷ drop (suc i) order = drop-cons order i 0 h in rw (add-one i) (sym (ap (λ (q : List ℕ). numbered_from i q table) o) ∙ n.same);
  })

  pub numbering-end : (table : List ℕ) (i : ℕ) → Numbering table i → length order ≤ i → table ≡ numbered_from 0 order start
  unfolding numbered_from
  numbering-end table i n h = sym (ap (λ (q : List ℕ). numbered_from i q table) (drop_of_length-le order {i = i} h)) ∙ n.same
