-- ASCII is UTF-8, and a mark tells it. Assumes nothing.
use mathlib.Core.Path.{◌≡◌, refl, sym, ap, ◌∙◌}
use mathlib.Core.List.{List, [], ◌∷◌}
use mathlib.Core.Bool.{Bool, true, false}
use Prim.Native.Nat.{ℕ, zero, suc, ◌+◌, ◌-◌, ◌*◌, ◌/◌, ◌≤◌, ◌<◌}
use native.Mathlib.Omega.{arith}
use native.Mathlib.Numerals.{add-one}
use lib.ListN.{length, get_or, take, drop, length-drop, drop_of_length-le}
use lib.Seq.{drop-cons, drop-drop, take_all}
use lib.Dec.{ltb, eqb}
use Rattle.base.specs.Pick.{pick}
use Rattle.base.proofs.Tests.{by_order}
use Rattle.base.proofs.Parts.{part-from}
use Rattle.utf8.specs.Utf8.{chars}
use Rattle.utf8.specs.Ascii.{ascii, ascii_blocks, ascii_front}

pub ascii-utf8 : (s : List ℕ) → ascii s ≡ true → chars 0 0x80 0xbf s ≡ true
unfolding ascii chars
ascii-utf8 [] e = refl
ascii-utf8 (b ∷ s) e = go (ltb b 0x80) refl e (ascii-utf8 s)
  where
    go : (t : Bool) → ltb b 0x80 ≡ t → pick t (ascii s) false ≡ true → (ascii s ≡ true → chars 0 0x80 0xbf s ≡ true) → chars 0 0x80 0xbf (b ∷ s) ≡ true
    go true q h f = rw q (f h)
    go false q h f = let z : true ≡ false = sym h in cc

-- m is 0 exactly where the bytes before i are ASCII
pub marked-at : (s : List ℕ) (i m : ℕ) → i < length s
    → pick (eqb (pick (ltb (get_or s i 0) 0x80) m 1) 0) (ascii (drop (i + 1) s)) false ≡ pick (eqb m 0) (ascii (drop i s)) false
unfolding ascii
marked-at s i m l = rw (drop-cons s i 0 l, add-one i) (go (ltb (get_or s i 0) 0x80) (eqb m 0) refl)
  where
    go : (u t : Bool) → eqb m 0 ≡ t → pick (eqb (pick u m 1) 0) (ascii (drop (suc i) s)) false ≡ pick t (pick u (ascii (drop (suc i) s)) false) false
    go true t p = rw p
    go false true p = refl
    go false false p = refl

pub marked-end : (s : List ℕ) (i m : ℕ) → length s ≤ i → pick (eqb m 0) (ascii (drop i s)) false ≡ eqb m 0
unfolding ascii
marked-end s i m l = rw (drop_of_length-le s l) (go (eqb m 0))
  where
    go : (t : Bool) → pick t true false ≡ t
    go true = refl
    go false = refl

-- a part of ASCII bytes is ASCII
ascii-head : (n p : ℕ) (s : List ℕ) → n ≤ p → ascii (take p s) ≡ true → ascii (take n s) ≡ true
unfolding ascii
ascii-head zero p s l e = refl
ascii-head (suc n) zero s l e = absurd (omega arith)
ascii-head (suc n) (suc p) [] l e = refl
ascii-head (suc n) (suc p) (b ∷ s) l e = go (ltb b 0x80) refl e (ascii-head n p s (omega arith))
  where
    go : (t : Bool) → ltb b 0x80 ≡ t → pick t (ascii (take p s)) false ≡ true → (ascii (take p s) ≡ true → ascii (take n s) ≡ true)
        → ascii (b ∷ take n s) ≡ true
    go true q h f = rw q (f h)
    go false q h f = let z : true ≡ false = sym h in cc

pub ascii-part : (a n p : ℕ) (s : List ℕ) → a + n ≤ p → ascii (take p s) ≡ true → ascii (take n (drop a s)) ≡ true
unfolding ascii
ascii-part zero n p s l e = ascii-head n p s (omega arith) e
ascii-part (suc a) n zero s l e = absurd (omega arith)
ascii-part (suc a) zero (suc p) [] l e = refl
ascii-part (suc a) (suc n) (suc p) [] l e = refl
ascii-part (suc a) n (suc p) (b ∷ s) l e = go (ltb b 0x80) e (ascii-part a n p s (omega arith))
  where
    go : (t : Bool) → pick t (ascii (take p s)) false ≡ true → (ascii (take p s) ≡ true → ascii (take n (drop a s)) ≡ true)
        → ascii (take n (drop a s)) ≡ true
    go true h f = f h
    go false h f = let z : true ≡ false = sym h in cc

-- and two parts in a row are
pub ascii_more : (a n : ℕ) (s : List ℕ) → ascii (take a s) ≡ true → ascii (take n (drop a s)) ≡ true → ascii (take (a + n) s) ≡ true
unfolding ascii
ascii_more zero n s e f = let z : 0 + n ≡ n = omega arith in rw z f
ascii_more (suc a) n [] e f = let z : suc a + n ≡ suc (a + n) = omega arith in rw z refl
ascii_more (suc a) n (b ∷ s) e f = let z : suc a + n ≡ suc (a + n) = omega arith in rw z (go (ltb b 0x80) refl e (λ h. ascii_more a n s h f))
  where
    go : (t : Bool) → ltb b 0x80 ≡ t → pick t (ascii (take a s)) false ≡ true → (ascii (take a s) ≡ true → ascii (take (a + n) s) ≡ true)
        → ascii (b ∷ take (a + n) s) ≡ true
    go true q h g = rw q (g h)
    go false q h g = let z : true ≡ false = sym h in cc

-- what is left of the front from a place on
pub ascii-from : (p a : ℕ) (s : List ℕ) → ascii (take p s) ≡ true → ascii (take (p - a) (drop a s)) ≡ true
unfolding ascii
ascii-from p a s e =
    by_order p a
    (λ (l : p < a). let z : p - a ≡ 0 = omega arith in rw z refl)
    (λ (l : a ≤ p). ascii-part a (p - a) p s (omega arith) e)

-- the same of a front that starts at a place before
pub ascii-at : (p b a : ℕ) (s : List ℕ) → b ≤ a → ascii (take (p - b) (drop b s)) ≡ true → ascii (take (p - a) (drop a s)) ≡ true
ascii-at p b a s l e =
    let z : b + (a - b) ≡ a = omega arith in
    let w : p - b - (a - b) ≡ p - a = omega arith in
    rw (drop-drop (a - b) b s, z, w) at (ascii-from (p - b) (a - b) (drop b s) e)

pub plain-utf8 : (p a n : ℕ) (s : List ℕ) → ascii (take p s) ≡ true → a + n ≤ p → true ≡ chars 0 0x80 0xbf (take (a + n - a) (drop a s))
plain-utf8 p a n s e l = let z : a + n - a ≡ n = omega arith in rw z (sym (ascii-utf8 _ (ascii-part a n p s l e)))

-- the front that is ASCII, block by block
module _ (s : List ℕ) (at : ℕ) where
  -- what is left of it from a place on
  pub record FrontFrom : Type 0 where
    pub inside : at ≤ length s
    pub rest : ascii_front s ≡ at + ascii_blocks ((length s - at) / 128) (drop at s)

  module _ (f : FrontFrom) (t : Bool) where
    module _ (l : 128 ≤ length s - at) (e : t ≡ ascii (take (at + 128 - at) (drop at s))) where
      block : ascii_front s ≡ at + pick t (128 + ascii_blocks ((length s - (at + 128)) / 128) (drop (at + 128) s)) 0
      unfolding ascii_blocks
      block =
          let n : (length s - at) / 128 ≡ suc ((length s - (at + 128)) / 128) = omega arith in
          let w : at + 128 - at ≡ 128 = omega arith in
          let g : ascii (take 128 (drop at s)) ≡ t = sym (rw w at e) in
          f.rest ∙ rw (n, g, drop-drop 128 at s)

      pub front-stop : t ≡ false → at ≡ ascii_front s
      front-stop q = let b : ascii_front s ≡ at + 0 = rw q at block in omega arith

      front-more : t ≡ true → ascii_front s ≡ at + (128 + ascii_blocks ((length s - (at + 128)) / 128) (drop (at + 128) s))
      front-more q = rw q at block

    module _ (l : length s - at < 128) (e : t ≡ ascii (take (length s - at) (drop at s))) where
      ending : ascii_front s ≡ at + pick t (length s - at) 0
      unfolding ascii_blocks
      ending =
          let n : (length s - at) / 128 ≡ 0 = omega arith in
          let g : ascii (drop at s) ≡ t = sym (rw (part-from at s) at e) in
          f.rest ∙ rw (n, g, length-drop at s)

      pub front-all : t ≡ true → length s ≡ ascii_front s
      front-all q = let b : ascii_front s ≡ at + (length s - at) = rw q at ending in omega (arith, f.inside)

      pub front-end : t ≡ false → at ≡ ascii_front s
      front-end q = let b : ascii_front s ≡ at + 0 = rw q at ending in omega arith

pub front-start : (s : List ℕ) → FrontFrom s 0
front-start s = let z : length s - 0 ≡ length s = omega arith in record { inside = omega arith; rest = rw z (omega arith) }

pub front-next : (s : List ℕ) (at : ℕ) → FrontFrom s at → (t : Bool) → 128 ≤ length s - at → t ≡ ascii (take (at + 128 - at) (drop at s)) → t ≡ true
    → FrontFrom s (at + 128)
front-next s at f t l e q = record { inside = omega arith; rest = omega (arith, front-more s at f t l e q) }

blocks-ascii : (n : ℕ) (s : List ℕ) → n * 128 ≤ length s → (ascii_blocks n s ≤ length s) × (ascii (take (ascii_blocks n s) s) ≡ true)
unfolding ascii_blocks ascii
blocks-ascii zero s h = go (ascii s) refl
  where
    go : (t : Bool) → ascii s ≡ t → (pick t (length s) 0 ≤ length s) × (ascii (take (pick t (length s) 0) s) ≡ true)
    go true e = (omega arith, rw (take_all (length s) s (omega arith)) e)
    go false e = (omega arith, refl)
blocks-ascii (suc n) s h =
    let d : length (drop 128 s) ≡ length s - 128 = length-drop 128 s in
    go (ascii_blocks n (drop 128 s)) (blocks-ascii n (drop 128 s) (omega arith)) (ascii (take 128 s)) refl
  where
    go : (k : ℕ) → (k ≤ length (drop 128 s)) × (ascii (take k (drop 128 s)) ≡ true) → (t : Bool) → ascii (take 128 s) ≡ t
        → (pick t (128 + k) 0 ≤ length s) × (ascii (take (pick t (128 + k) 0) s) ≡ true)
    go k b true e = (omega (arith, length-drop 128 s, b.0), ascii_more 128 k s e b.1)
    go k b false e = (omega arith, refl)

-- it lies in s, and is ASCII
pub front-ascii : (s : List ℕ) (n : ℕ) → n ≡ ascii_front s → (n ≤ length s) × (ascii (take n s) ≡ true)
front-ascii s n e = rw e (blocks-ascii (length s / 128) s (omega arith))

-- behind bytes that are ASCII
ascii-behind : (n : ℕ) (s : List ℕ) → ascii (take n s) ≡ true → ascii s ≡ ascii (drop n s)
unfolding ascii
ascii-behind zero s e = refl
ascii-behind (suc n) [] e = refl
ascii-behind (suc n) (b ∷ s) e = go (ltb b 0x80) e (ascii-behind n s)
  where
    go : (t : Bool) → pick t (ascii (take n s)) false ≡ true → (ascii (take n s) ≡ true → ascii s ≡ ascii (drop n s))
        → pick t (ascii s) false ≡ ascii (drop n s)
    go true h f = f h
    go false h f = let z : true ≡ false = sym h in cc

-- what stands behind the front may be told with a part of the front before it
pub front-tells : (s : List ℕ) (at from : ℕ) → FrontFrom s at → from ≤ at → (t : Bool) → t ≡ ascii (take (length s - from) (drop from s))
    → t ≡ ascii (take (length s - at) (drop at s))
front-tells s at from f l t e =
    let k = ascii-head at (ascii_front s) s (omega (arith, f.rest)) (front-ascii s (ascii_front s) refl).1 in
    let z : from + (at - from) ≡ at = omega arith in
    e
    ∙ rw (part-from from s, part-from at s)
    (ascii-behind (at - from) (drop from s) (ascii-from at from s k) ∙ ap ascii (drop-drop (at - from) from s ∙ ap (λ (j : ℕ). drop j s) z))

-- and a front that is all of s
pub all-front : (s : List ℕ) (n : ℕ) → n ≡ ascii_front s → n ≡ length s → ascii s ≡ true
all-front s n e h = rw (take_all n s (omega arith)) at (front-ascii s n e).1
