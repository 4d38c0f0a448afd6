-- The keys that lie at the places of two arrays, and one more of them. Assumes nothing.
use mathlib.Core.Path.{◌≡◌, refl, sym, ◌∙◌, ap, subst}
use mathlib.Core.List.{List, [], ◌∷◌, ◌++◌}
use mathlib.Core.Bool.{true, false}
use Prim.Native.Nat.{ℕ, zero, suc, ◌+◌, ◌≤◌, ◌<◌}
use native.Mathlib.Omega.{arith}
use native.Mathlib.Nat.{not-suc-le-zero}
use native.Mathlib.Numerals.{add-one}
use lib.ListN.{length, get_or, set, length-set, length-append, get_or-append}
use lib.Seq.{get_or-append_seam, get_or-set_same, get_or-set_other}
use borrow.Author.Tests.{lt-ltb, le-ltb}
use Rattle.base.proofs.Tests.{never, by_order}
use Rattle.ids.specs.Ids.{among}
use Rattle.ids.specs.Layout.{Fits}
use Rattle.ids.specs.Memory.{texts_of, Keeps, Between, Finds, Added}
use Rattle.ids.specs.declared.Gap.{Gap}
use Rattle.ids.specs.declared.Gap.TheVariants.{Known, New}
use Rattle.ids.proofs.PlaceLaws.{numbered-among, between-new}
use Rattle.ids.proofs.MemoryLaws.{taken-new}
use Rattle.old_dictionaries.specs.View.{part}
use Rattle.unordered_keys.specs.Keys.{keys_in, limit_of, Inside, Stands, KeyTaken}
use Rattle.unordered_keys.proofs.WiderLaws.{keeps-wider, between-wider}

-- a place of s fits in 32 bits where any is remembered
module _ (s : List ℕ) (m : ℕ) where
  pub limit-none : 4294967295 < length s → 0 ≡ limit_of s m
  unfolding limit_of
  limit-none h = rw (lt-ltb 4294967295 (length s) h)

  pub limit-some : length s ≤ 4294967295 → m ≡ limit_of s m
  unfolding limit_of
  limit-some h = rw (le-ltb 4294967295 (length s) h)

  pub limit-fits : (n : ℕ) → n < limit_of s m → (n < m) × (length s ≤ 4294967295)
  limit-fits n h =
      by_order 4294967295 (length s)
      (λ l. absurd (omega (arith, limit-none l)))
      (λ l. (omega (arith, limit-some l), l))

pub keys-few : {s st en : List ℕ} {n : ℕ} → Inside s st en n → n ≤ 8192
keys-few h = omega (arith, h.few, h.room)

module _ (s : List ℕ) where
  pub keys_length : (st en : List ℕ) (n : ℕ) → length (keys_in s st en n) ≡ n
  unfolding keys_in
  keys_length st en zero = refl
  keys_length st en (suc n) = simp length-append (omega (arith, keys_length st en n))

  pub key-at : (st en : List ℕ) (n k : ℕ) → k < n → get_or (keys_in s st en n) k [] ≡ part (get_or st k 0) (get_or en k 0) s
  unfolding keys_in
  key-at st en zero k h = absurd (not-suc-le-zero h)
  key-at st en (suc n) k h =
      by_order k n
      (λ l. get_or-append (keys_in s st en n) _ [] k (omega (arith, keys_length st en n)) ∙ key-at st en n k l)
      (λ l. let z : k ≡ n = omega arith in
      let y : length (keys_in s st en n) ≡ k = keys_length st en n ∙ sym z in
      ap (λ (i : ℕ). get_or (keys_in s st en n ++ (part (get_or st n 0) (get_or en n 0) s ∷ [])) i []) (sym y)
      ∙ get_or-append_seam (keys_in s st en n) _ [] []
      ∙ ap (λ (i : ℕ). part (get_or st i 0) (get_or en i 0) s) (sym z))

  keys-same : (st en st' en' : List ℕ) (n : ℕ) → ((k : ℕ) → k < n → get_or st' k 0 ≡ get_or st k 0) → ((k : ℕ) → k < n → get_or en' k 0 ≡ get_or en k 0)
      → keys_in s st' en' n ≡ keys_in s st en n
  unfolding keys_in
  keys-same st en st' en' zero f g = refl
  keys-same st en st' en' (suc n) f g =
      rw (f n (omega arith), g n (omega arith), keys-same st en st' en' n (λ k h. f k (omega arith)) (λ k h. g k (omega arith)))

  -- one key more, from b to c
  module _ (st en : List ℕ) (n b c : ℕ) (h : Inside s st en n) (l : n < length st) (b-c : b ≤ c) (c-s : c ≤ length s) where
    pub keys-more : keys_in s (set st n b) (set en n c) (n + 1) ≡ keys_in s st en n ++ (part b c s ∷ [])
    unfolding keys_in
    keys-more =
        let x : get_or (set st n b) n 0 ≡ b = get_or-set_same st n b 0 l in
        let y : get_or (set en n c) n 0 ≡ c = get_or-set_same en n c 0 (omega (arith, h.ends)) in
        let z = keys-same st en (set st n b) (set en n c) n (λ k m. get_or-set_other st n k b 0 (λ e. omega arith)) (λ k m. get_or-set_other en n k c 0 (λ e. omega arith)) in
        rw (add-one n, x, y, z)

    pub inside-more : Inside s (set st n b) (set en n c) (n + 1)
    inside-more =
        record {
          room = omega (arith, length-set st n b, h.room);
          ends = length-set en n c ∙ h.ends ∙ sym (length-set st n b);
          few = omega (arith, length-set st n b);
          order = λ k m.
              by_order k n
              (λ q. rw (get_or-set_other st n k b 0 (λ e. omega arith), get_or-set_other en n k c 0 (λ e. omega arith)) (h.order k q))
              (λ q. let z : k ≡ n = omega arith in
              rw (z, get_or-set_same st n b 0 l, get_or-set_same en n c 0 (omega (arith, h.ends))) b-c);
          inside = λ k m.
              by_order k n
              (λ q. rw (get_or-set_other en n k c 0 (λ e. omega arith)) (h.inside k q))
              (λ q. let z : k ≡ n = omega arith in rw (z, get_or-set_same en n c 0 (omega (arith, h.ends))) c-s);
        }

-- what looking for the key from b to c gives
module _ (s st en : List ℕ) (n : ℕ) (od : List ℕ) (b c : ℕ) (r : Gap) (f : Finds (keys_in s st en n) od n (part b c s) r) where
  pub key-known : (k : ℕ) → r ≡ Known k → KeyTaken s st en n od (part b c s) st en od true
  key-known k q =
      let a = numbered-among (keys_in s st en n) od n (part b c s) k (rw q at f).is in
      record { said = λ mem m. sym (m.keeps.same (part b c s) ∙ a); kept = λ mem m e. never refl e }

  module _ (i j : ℕ) (q : r ≡ New i j) where
    pub key-gap : Fits od n i j × Between (keys_in s st en n) od n (part b c s) (i + j)
    key-gap = (rw q at f).is

    pub key-new : (od' : List ℕ) → Added od n (i + j) n od' → n < length st → b ≤ c → c ≤ length s
        → KeyTaken s st en n od (part b c s) (set st n b) (set en n c) od' false
    key-new od' a l b-c c-s =
        record {
          said = λ mem m. sym (m.keeps.same (part b c s) ∙ between-new (keys_in s st en n) od n (part b c s) (i + j) key-gap.1);
          kept = λ mem m e.
              record {
                inside = inside-more s st en n b c m.inside l b-c c-s;
                wide = omega (arith, length-set st n b, m.wide, a.room);
                keeps = keeps mem m;
              };
        }
      where
        keeps : (mem : List (List ℕ)) → Stands s st en n od mem → Keeps (keys_in s (set st n b) (set en n c) (n + 1)) od' (n + 1) (part b c s ∷ mem)
        keeps mem m =
            let x = part b c s in
            let us = keys_in s st en n in
            let y : get_or (us ++ (x ∷ [])) n [] ≡ x = ap (λ (k : ℕ). get_or (us ++ (x ∷ [])) k []) (sym (keys_length s st en n)) ∙ get_or-append_seam us x [] [] in
            let k = keeps-wider us (x ∷ []) od n mem (simp length-append (omega (arith, keys_length s st en n, m.wide))) m.keeps in
            let g = subst (λ (w : List ℕ). Between (us ++ (x ∷ [])) od n w (i + j)) (sym y) (between-wider us (x ∷ []) od n m.keeps.sorted x (i + j) key-gap.1) in
            let t = taken-new (us ++ (x ∷ [])) od od' n (i + j) n k.sorted g a (simp length-append (omega (arith, keys_length s st en n))) in
            rw (keys-more s st en n b c m.inside l b-c c-s) (subst (λ (w : List ℕ). Keeps (us ++ (x ∷ [])) od' (n + 1) (w ∷ mem)) y (t.kept mem k))
