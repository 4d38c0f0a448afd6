-- The loop over a pool's strings: i of k are passed, up to a place. Assumes nothing.
use Rattle.base.specs.declared.Refusal.{Refusal}
use Rattle.std.specs.Prelude.{Err, Ok, Result}
use Rattle.base.specs.declared.Refusal.TheVariants.{BadData}
use mathlib.Core.Path.{◌≡◌, refl, sym, ◌∙◌, ap}
use mathlib.Core.List.{List, [], ◌∷◌}
use mathlib.Core.Bool.{Bool, true, false}
use Prim.Native.Nat.{ℕ, suc, ◌+◌, ◌-◌, ◌*◌, ◌≤◌, ◌<◌}
use native.Mathlib.Omega.{arith}
use native.Mathlib.Numerals.{add-one}
use lib.ListN.{length, get_or, take, drop, set, length-drop, length-set, drop_of_length-le}
use lib.Seq.{sets, drop-drop, drop-cons}
use lib.Dec.{ltb}
use borrow.Author.Tests.{lt-ltb, le-ltb, ltb-true}
use Rattle.base.specs.Pick.{pick, both}
use Rattle.base.proofs.Tests.{by_order, both_left, both_right, never}
use Rattle.base.proofs.Parts.{part-from}
use Rattle.counts.specs.Count.{read_count}
use Rattle.counts.proofs.CountLaws.{byte-count}
use Rattle.texts.specs.Text.{read_text, behind_text}
use Rattle.utf8.specs.Ascii.{ascii, ascii_front}
use Rattle.texts.proofs.TextLaws.{text-tested, Held, held}
use Rattle.utf8.proofs.AsciiLaws.{plain-utf8, ascii-at, front-ascii}
use Rattle.base.specs.Parsed.{got, bad, bind, ended, many, prepend}
use Rattle.pool.specs.Pool.{Pool, read_strings, all_strings, checked}
use Rattle.pool.specs.Index.{start, read_starts, short_length, Plain}

-- what is known to be ASCII, from a later place on
pub plain-later : (d : List ℕ) (at plain n : ℕ) → Plain d at plain → Plain d (at + n) plain
plain-later d at plain n p = (p.0, ascii-at plain at (at + n) d (omega arith) p.1)

-- and by a look at what stands from a place on
pub plain-front : (d : List ℕ) (at n : ℕ) → at ≤ length d → n ≡ ascii_front (drop at d) → Plain d at (at + n)
plain-front d at n h e =
    let x = front-ascii (drop at d) n e in
    let z : at + n - at ≡ n = omega arith in
    (omega (arith, x.0, length-drop at d), rw z x.1)

-- i strings more
abbrev raise : ℕ → Result ℕ Refusal → Result ℕ Refusal
raise i (Ok n) = Ok (i + n)
raise i (Err m) = Err m

raise_zero : (x : Result ℕ Refusal) → raise 0 x ≡ x
raise_zero (Ok n) = ap Ok (omega arith)
raise_zero (Err m) = refl

raise-cons : (i : ℕ) (t : List ℕ) (p : Pool) → raise i (checked (bind (bind p (prepend t)) ended)) ≡ raise (i + 1) (checked (bind p ended))
unfolding ended
raise-cons i t (got ts []) = ap Ok (omega arith)
raise-cons i t (got ts (b ∷ r)) = refl
raise-cons i t (bad m) = refl

-- what the loop keeps: ix₀ is the index before the loop, ix now
pub record Filling (d : List ℕ) (from k : ℕ) (ix₀ ix : List ℕ) (at i : ℕ) : Type 0 where
  pub inside : at ≤ length d
  pub small : at ≤ 5 + 1029 * i
  pub most : i ≤ k
  pub size : length ix ≡ length ix₀
  pub said : raise i (checked (all_strings (k - i) (drop at d))) ≡ checked (all_strings k (drop from d))
  pub kept : sets ix i (read_starts (k - i) at (drop at d)) ≡ sets ix₀ 0 (read_starts k from (drop from d))

-- the result r and the index ix of reading k strings from a place on
abbrev pub Filled : List ℕ → ℕ → ℕ → List ℕ → Result ℕ Refusal → List ℕ → Type 0
Filled d from k ix₀ r ix = (r ≡ checked (all_strings k (drop from d))) × (ix ≡ sets ix₀ 0 (read_starts k from (drop from d)))

pub filling-start : (d : List ℕ) (from k : ℕ) (ix : List ℕ) → from ≤ length d → from ≤ 5 → Filling d from k ix ix from 0
filling-start d from k ix h l =
    let z : k - 0 ≡ k = omega arith in
    record { inside = h; small = omega arith; most = omega arith; size = refl; said = rw z (raise_zero _); kept = rw z }

-- a string before the place `plain`, up to which the bytes are ASCII, with a length code of one byte
-- the length that the short way gives, where it gives one
short-means : (d : List ℕ) (at plain n : ℕ) → n ≡ short_length d at plain → n < 128 → (at < length d) × (n ≡ get_or d at 0) × (at + n < plain)
unfolding short_length
short-means d at plain n e h = go (both (ltb at (length d)) (both (ltb b 128) (ltb (at + b) plain))) refl e
  where
    b : ℕ
    b = get_or d at 0

    go : (t : Bool) → both (ltb at (length d)) (both (ltb b 128) (ltb (at + b) plain)) ≡ t → n ≡ pick t b 128
        → (at < length d) × (n ≡ b) × (at + n < plain)
    go true q k =
        let r = both_right (ltb at (length d)) _ q in
        (ltb-true at (length d) (both_left (ltb at (length d)) _ q), k, rw k (ltb-true (at + b) plain (both_right (ltb b 128) _ r)))
    go false q k = absurd (omega arith)

module _ (d : List ℕ) (at plain : ℕ) where
  -- ways out of the short way
  pub short-end : length d ≤ at → 128 ≡ short_length d at plain
  unfolding short_length
  short-end h = rw (le-ltb at (length d) h)

  module _ (h : at < length d) where
    pub short-long : 127 < get_or d at 0 → 128 ≡ short_length d at plain
    unfolding short_length
    short-long l = rw (lt-ltb at (length d) h, le-ltb (get_or d at 0) 128 (omega arith))

    module _ (l : get_or d at 0 ≤ 127) where
      pub short-past : plain ≤ at + get_or d at 0 → 128 ≡ short_length d at plain
      unfolding short_length
      short-past p = rw (lt-ltb at (length d) h, lt-ltb (get_or d at 0) 128 (omega arith), le-ltb (at + get_or d at 0) plain p)

      pub short-is : at + get_or d at 0 < plain → get_or d at 0 ≡ short_length d at plain
      unfolding short_length
      short-is p = rw (lt-ltb at (length d) h, lt-ltb (get_or d at 0) 128 (omega arith), lt-ltb (at + get_or d at 0) plain p)

pub plain_here : (d : List ℕ) (at plain n : ℕ) → plain ≤ length d → ascii (take (plain - at) (drop at d)) ≡ true
    → n ≡ short_length d at plain → n < 128 → Ok (1, n) ≡ read_text (take (length d - at) (drop at d))
plain_here d at plain n l e f h =
    let m = short-means d at plain n f h in
    let p : at < length d = m.0 in
    let q : n ≡ get_or d at 0 = m.1 in
    let r : at + n < plain = m.2 in
    let s : List ℕ = drop at d in
    let w : length s ≡ length d - at = length-drop at d in
    let c : read_count s ≡ Ok (n, 1) = rw q (byte-count d at p (omega arith)) in
    rw (part-from at d)
    (text-tested s (read_count s) refl n 1 c (omega arith) true (omega arith) (plain-utf8 (plain - at) 1 n s e (omega arith)))

-- a byte that is known to be ASCII
ascii-first : (b n : ℕ) (s : List ℕ) → ascii (take (suc n) (b ∷ s)) ≡ true → b < 128
unfolding ascii
ascii-first b n s e = go (ltb b 0x80) refl e
  where
    go : (t : Bool) → ltb b 0x80 ≡ t → pick t (ascii (take n s)) false ≡ true → b < 128
    go true q h = ltb-true b 0x80 q
    go false q h = never h refl

-- the string at a place 128 bytes and more before `plain` is short
module _ (d : List ℕ) (at plain : ℕ) (p : Plain d at plain) (l : at + 128 ≤ plain) where
  plain_byte : get_or d at 0 < 128
  plain_byte =
      let h : at < length d = omega (arith, p.0) in
      let z : plain - at ≡ suc (plain - at - 1) = omega arith in
      ascii-first (get_or d at 0) (plain - at - 1) (drop (suc at) d) (rw (z, drop-cons d at 0 h) at p.1)

  plain-text : Ok (1, get_or d at 0) ≡ read_text (take (length d - at) (drop at d))
  plain-text =
      let b : get_or d at 0 < 128 = plain_byte in
      plain_here d at plain (get_or d at 0) p.0 p.1 (short-is d at plain (omega (arith, p.0)) (omega arith) (omega arith)) b

module _ (d : List ℕ) (from k : ℕ) (ix₀ ix : List ℕ) (at i : ℕ) (f : Filling d from k ix₀ ix at i) where
  module _ (less : i < k) (t : Result (ℕ × ℕ) Refusal) (ht : t ≡ read_text (take (length d - at) (drop at d))) where
    text-here : (x : Result (ℕ × ℕ) Refusal) → t ≡ x → read_text (drop at d) ≡ x
    text-here x e = ap read_text (sym (part-from at d)) ∙ sym ht ∙ e

    one_more : k - i ≡ suc (k - (i + 1))
    one_more = omega arith

    strings-here : (x : Result (ℕ × ℕ) Refusal) → t ≡ x → all_strings (k - i) (drop at d) ≡ bind (bind (behind_text (drop at d) x) (λ u r. bind (read_strings (k - (i + 1)) r) (prepend u))) ended
    unfolding all_strings many
    strings-here x e = rw (one_more, text-here x e)

    starts-here : (x : Result (ℕ × ℕ) Refusal) → t ≡ x → read_starts (k - i) at (drop at d) ≡ start x at (drop at d) (λ a r. read_starts (k - (i + 1)) a r)
    unfolding read_starts
    starts-here x e = rw (one_more, text-here x e)

    pub filling-refused : (m : Refusal) → t ≡ Err m → Filled d from k ix₀ (Err m) ix
    filling-refused m e = (rw (strings-here (Err m) e) at f.said, rw (starts-here (Err m) e) at f.kept)

    module _ (a n : ℕ) (e : t ≡ Ok (a, n)) where
      pub here : Held (drop at d) a n
      here = held (drop at d) a n (text-here (Ok (a, n)) e)

      pub here-inside : at + (a + n) ≤ length d
      here-inside = omega (arith, here.inside, length-drop at d)

      said-next : raise (i + 1) (checked (all_strings (k - (i + 1)) (drop (at + (a + n)) d))) ≡ checked (all_strings k (drop from d))
      unfolding all_strings
      said-next =
          sym (raise-cons i (take n (drop a (drop at d))) (read_strings (k - (i + 1)) (drop (at + (a + n)) d)))
          ∙ rw (strings-here (Ok (a, n)) e, drop-drop (a + n) at d) at f.said

      pub filling-next : Filling d from k ix₀ (set ix i at) (at + (a + n)) (i + 1)
      filling-next =
          record {
            inside = here-inside;
            small = omega (arith, here.small, here.short);
            most = omega arith;
            size = length-set ix i at ∙ f.size;
            said = said-next;
            kept = rw (add-one i) (rw (starts-here (Ok (a, n)) e, drop-drop (a + n) at d, add-one i) at f.kept);
          }

  -- no string is left to read
  all_read : k ≤ i → raise i (checked (ended [] (drop at d))) ≡ checked (all_strings k (drop from d))
  unfolding all_strings many
  all_read h = let z : k - i ≡ 0 = omega arith in rw z at f.said

  starts-read : k ≤ i → ix ≡ sets ix₀ 0 (read_starts k from (drop from d))
  unfolding read_starts
  starts-read h = let z : k - i ≡ 0 = omega arith in rw z at f.kept

  pub filling-end : k ≤ i → at ≡ length d → Filled d from k ix₀ (Ok k) ix
  unfolding ended
  filling-end h e =
      let x : i + 0 ≡ k = omega (arith, f.most) in
      (rw (drop_of_length-le d {i = at} (omega arith), x) at (all_read h), starts-read h)

  pub filling-left : k ≤ i → (at ≡ length d → ⊥) → Filled d from k ix₀ (Err BadData) ix
  unfolding ended
  filling-left h e =
      let l : at < length d = below (omega (arith, f.inside)) e in
      (rw (drop-cons d at 0 l) at (all_read h), starts-read h)
    where
      below : at ≤ length d → (at ≡ length d → ⊥) → at < length d
      below p q = by_order at (length d) (λ m. m) (λ m. absurd (q (omega arith)))

-- a short string is passed: r is the place behind it
module _ (d : List ℕ) (at plain : ℕ) (p : Plain d at plain) (l : at + 128 ≤ plain) (r : ℕ) (h : r ≡ at + (1 + get_or d at 0)) where
  pub passed-filling : (from k : ℕ) (ix₀ ix ix' : List ℕ) (i : ℕ) → Filling d from k ix₀ ix at i → i < k → ix' ≡ set ix i at → Filling d from k ix₀ ix' r (i + 1)
  passed-filling from k ix₀ ix ix' i f less q =
      rw (h, q) (filling-next d from k ix₀ ix at i f less (Ok (1, get_or d at 0)) (plain-text d at plain p l) 1 (get_or d at 0) refl)

  pub passed-plain : Plain d r plain
  passed-plain = rw h (plain-later d at plain (1 + get_or d at 0) p)

  pub passed-near : r ≤ at + 128
  passed-near = omega (arith, plain_byte d at plain p l)
