-- How a reading of UTF-8 goes on. Assumes nothing.
use Rattle.std.specs.declared.option.Option.{Option}
use Rattle.std.specs.declared.option.Option.TheVariants.{None, Some}
use mathlib.Core.Path.{◌≡◌, refl, sym, ◌∙◌, ap}
use mathlib.Core.Bool.{Bool, true, false}
use mathlib.Core.List.{List, [], ◌∷◌}
use Prim.Native.Nat.{ℕ, zero, suc, ◌+◌, ◌-◌, ◌≤◌, ◌<◌}
use native.Mathlib.Omega.{arith}
use native.Mathlib.Numerals.{add-one}
use lib.ListN.{length, get_or, take, drop, length-drop, drop_of_length-le}
use lib.Seq.{drop-cons, drop-drop, take_all}
use lib.Dec.{ltb, leb}
use borrow.Author.Tests.{lt-ltb, le-ltb, ne_eqb, le-leb}
use Rattle.base.specs.Pick.{pick, both}
use Rattle.base.proofs.Tests.{never, by_order}
use Rattle.utf8.specs.Utf8.{lead, after, going, chars, utf8, size_by, size_of}

-- at a character's first byte, which asks for x
chars-at : (s : List ℕ) (i : ℕ) (x : Option (ℕ × ℕ × ℕ)) → i < length s → x ≡ lead (get_or s i 0)
    → utf8 (drop i s) ≡ going x (λ j l h. chars j l h (drop (i + 1) s))
unfolding chars
chars-at s i x h e = rw (drop-cons s i 0 h, e, add-one i)

pub utf8-end : (s : List ℕ) (i : ℕ) → length s ≤ i → utf8 (drop i s) ≡ true
unfolding chars
utf8-end s i l = rw (drop_of_length-le s l) refl

-- a byte where k are due, the first from lo to hi
going-tail : (k lo hi b : ℕ) (f : ℕ → ℕ → ℕ → Bool) → 0 < k → going (after k lo hi b) f ≡ both (both (leb lo b) (leb b hi)) (f (k - 1) 0x80 0xbf)
going-tail k lo hi b f p = rw (ne_eqb k 0 (λ e. omega arith)) (go (leb lo b) (leb b hi))
  where
    go : (t u : Bool) → going (pick t (pick u (Some (k - 1, 0x80, 0xbf)) None) None) f ≡ both (both t u) (f (k - 1) 0x80 0xbf)
    go true true = refl
    go true false = refl
    go false u = refl

take-some : (k b : ℕ) (s : List ℕ) → 0 < k → take k (b ∷ s) ≡ b ∷ take (k - 1) s
take-some zero b s h = absurd (omega arith)
take-some (suc k) b s h = let z : suc k - 1 ≡ k = omega arith in rw z refl

-- the byte i of the n from a place on
pub chars-tail : (s : List ℕ) (at n i lo hi : ℕ) (t : Bool) → at + n ≤ length s → i < n → t ≡ both (leb lo (get_or s (at + i) 0)) (leb (get_or s (at + i) 0) hi)
    → chars (n - i) lo hi (take (n - i) (drop (at + i) s)) ≡ both t (chars (n - (i + 1)) 0x80 0xbf (take (n - (i + 1)) (drop (at + (i + 1)) s)))
unfolding chars
chars-tail s at n i lo hi t h l e =
    let p : n - (i + 1) ≡ n - i - 1 = omega arith in
    let q : at + (i + 1) ≡ at + i + 1 = omega arith in
    rw (e, p, q, drop-cons s (at + i) 0 (omega arith), add-one (at + i), take-some (n - i) (get_or s (at + i) 0) (drop (suc (at + i)) s) (omega arith))
    (going-tail (n - i) lo hi (get_or s (at + i) 0) _ (omega arith))

-- none is left
pub chars-none : (lo hi : ℕ) → true ≡ chars 0 lo hi []
unfolding chars
chars-none lo hi = refl

-- no byte is due
pub chars-whole : (lo hi : ℕ) (s : List ℕ) → chars 0 lo hi s ≡ utf8 s
unfolding chars
chars-whole lo hi [] = refl
chars-whole lo hi (b ∷ s) = refl

both_false : (t : Bool) → both t false ≡ false
both_false true = refl
both_false false = refl

-- the bytes end within a character
pub chars-cut : (s : List ℕ) (k lo hi : ℕ) → length s < k → chars k lo hi s ≡ false
unfolding chars
chars-cut [] k lo hi l = ne_eqb k 0 (λ e. omega arith)
chars-cut (b ∷ s) k lo hi l =
    rw (going-tail k lo hi b (λ j l h. chars j l h s) (omega arith), chars-cut s (k - 1) 0x80 0xbf (omega arith)) (both_false (both (leb lo b) (leb b hi)))

-- k bytes end a character, and whole characters follow
chars-split : (k lo hi : ℕ) (s : List ℕ) → chars k lo hi s ≡ both (chars k lo hi (take k s)) (utf8 (drop k s))
unfolding chars
chars-split zero lo hi s = chars-whole lo hi s
chars-split (suc k) lo hi [] = rw (ne_eqb (suc k) 0 (λ e. omega arith))
chars-split (suc k) lo hi (b ∷ s) =
    let z : suc k - 1 ≡ k = omega arith in
    rw (
      going-tail (suc k) lo hi b (λ j l h. chars j l h s) (omega arith),
      going-tail (suc k) lo hi b (λ j l h. chars j l h (take k s)) (omega arith),
      z,
    )
    (go (both (leb lo b) (leb b hi)) _ _ _ (chars-split k 0x80 0xbf s))
  where
    go : (t x y u : Bool) → x ≡ both y u → both t x ≡ both (both t y) u
    go true x y u e = e
    go false x y u e = refl

-- a character at the front is whole, and what follows it is read on
front-size : (b : ℕ) (s : List ℕ) (x : Option (ℕ × ℕ × ℕ)) → going x (λ j l h. chars j l h s) ≡ both (ltb 0 (size_by x s)) (utf8 (drop (size_by x s) (b ∷ s)))
front-size b s None = refl
front-size b s (Some (k, lo, hi)) = chars-split k lo hi s ∙ go (chars k lo hi (take k s))
  where
    go : (t : Bool) → both t (utf8 (drop k s)) ≡ both (ltb 0 (pick t (k + 1) 0)) (utf8 (drop (pick t (k + 1) 0) (b ∷ s)))
    go true = rw (lt-ltb 0 (k + 1) (omega arith), add-one k)
    go false = refl

front_fits : (s : List ℕ) (x : Option (ℕ × ℕ × ℕ)) → size_by x s ≤ length s + 1
front_fits s None = omega arith
front_fits s (Some (k, lo, hi)) = go (chars k lo hi (take k s)) refl
  where
    go : (t : Bool) → chars k lo hi (take k s) ≡ t → pick t (k + 1) 0 ≤ length s + 1
    go true e =
        by_order (length s) k
        (λ (l : length s < k). never e (chars-cut (take k s) k lo hi (rw (take_all k s (omega arith)) l)))
        (λ (l : k ≤ length s). omega arith)
    go false e = omega arith

module _ (s : List ℕ) (at : ℕ) (h : at < length s) where
  -- what a character's first byte asks for tells its size
  pub size-by : (x : Option (ℕ × ℕ × ℕ)) → x ≡ lead (get_or s at 0) → size_by x (drop (at + 1) s) ≡ size_of (drop at s)
  unfolding size_of
  size-by x e = rw (drop-cons s at 0 h, ← e, add-one at)

  -- the bytes end before it
  pub size-cut : (k lo hi : ℕ) → Some (k, lo, hi) ≡ lead (get_or s at 0) → length s - at ≤ k → 0 ≡ size_of (drop at s)
  size-cut k lo hi e l =
      let d : length (drop (at + 1) s) ≡ length s - (at + 1) = length-drop (at + 1) s in
      let r : take k (drop (at + 1) s) ≡ drop (at + 1) s = take_all k (drop (at + 1) s) (omega arith) in
      let c : chars k lo hi (take k (drop (at + 1) s)) ≡ false = rw r (chars-cut (drop (at + 1) s) k lo hi (omega arith)) in
      rw c at (size-by (Some (k, lo, hi)) e)

  -- k bytes behind the first end it, or do not
  pub size-ends : (k lo hi : ℕ) (t : Bool) → Some (k, lo, hi) ≡ lead (get_or s at 0) → t ≡ chars k lo hi (take k (drop (at + 1) s))
      → pick t (k + 1) 0 ≡ size_of (drop at s)
  size-ends k lo hi t e f = rw f (size-by (Some (k, lo, hi)) e)

  -- what the size n of a character says of the bytes
  pub size-means : (n : ℕ) → n ≡ size_of (drop at s) → (at + n ≤ length s) × (utf8 (drop at s) ≡ both (ltb 0 n) (utf8 (drop (at + n) s)))
  unfolding chars
  size-means n e =
      let x : (Option (ℕ × ℕ × ℕ)) = lead (get_or s at 0) in
      let r : List ℕ = drop (suc at) s in
      let z : size_by x r ≡ n = rw (add-one at) at (size-by x refl) ∙ sym e in
      let d : length r ≡ length s - suc at = length-drop (suc at) s in (
        omega (arith, z, front_fits r x),
        rw (← drop-drop n at s, drop-cons s at 0 h) (rw z at (front-size (get_or s at 0) r x)),
      )

-- a character of three bytes whose first asks for two of the usual range
module _ (s : List ℕ) (at : ℕ) (h : at + 3 ≤ length s) where
  abbrev a : ℕ
  a = get_or s at 0

  abbrev b : ℕ
  b = get_or s (at + 1) 0

  abbrev c : ℕ
  c = get_or s (at + 2) 0

  pub three-passed : (0xe1 ≤ a) × (a ≤ 0xef) × (a ≡ 0xed → ⊥) × (0x80 ≤ b) × (b ≤ 0xbf) × (0x80 ≤ c) × (c ≤ 0xbf)
      → utf8 (drop (at + 3) s) ≡ utf8 (drop at s)
  unfolding chars
  three-passed (al, ah, ad, bl, bh, cl, ch) =
      sym (size-means s at (omega arith) 3 (size-ends s at (omega arith) 2 0x80 0xbf true first rest)).1
    where
      first : Some (2, 0x80, 0xbf) ≡ lead a
      first =
          rw (le-ltb a 0x80 (omega arith), le-ltb a 0xc2 (omega arith), le-ltb a 0xe0 (omega arith), ne_eqb a 0xe0 (λ e. omega arith), ne_eqb a 0xed ad, lt-ltb a 0xf0 (omega arith))

      pair : take 2 (drop (at + 1) s) ≡ b ∷ c ∷ []
      pair =
          let z : suc (at + 1) ≡ at + 2 = omega arith in
          ap (take 2)
          (drop-cons s (at + 1) 0 (omega arith) ∙ ap (λ (n : ℕ). b ∷ drop n s) z ∙ ap (λ (r : List ℕ). b ∷ r) (drop-cons s (at + 2) 0 (omega arith)))

      rest : true ≡ chars 2 0x80 0xbf (take 2 (drop (at + 1) s))
      rest = rw (pair, le-leb 0x80 b bl, le-leb b 0xbf bh, le-leb 0x80 c cl, le-leb c 0xbf ch)
