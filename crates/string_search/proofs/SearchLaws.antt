-- Each way out of the search. Assumes nothing.
use Rattle.base.specs.declared.Refusal.TheVariants.{BadData}
use Rattle.base.specs.declared.Refusal.{Refusal}
use mathlib.Core.Path.{◌≡◌, refl, ap, ◌∙◌}
use mathlib.Core.List.{List}
use Prim.Native.Nat.{ℕ, zero, suc, ◌+◌, ◌-◌, ◌≤◌, ◌<◌}
use native.Mathlib.Omega.{arith}
use lib.ListN.{length, drop, length-drop}
use lib.Seq.{drop-drop}
use lib.Dec.{leb}
use borrow.Author.Tests.{leb-true, le-leb, lt-leb, lt-ltb, le-ltb}
use Rattle.base.specs.Parsed.{Parsed, got, bad, parse}
use Rattle.base.proofs.ParseLaws.{got-value, got-rest, bind-good, pick_good}
use Rattle.counts.specs.Count.{read_count}
use Rattle.pool.specs.declared.Span.{Span}
use Rattle.places.specs.Placed.{Placed, at, no, Stands}
use Rattle.places.proofs.PlaceLaws.{here, refuse}
use Rattle.string_search.specs.Search.{judge_length, parse_string, nth_string, string_numbered, string_span}
use Rattle.string_search.proofs.SuffixLaws.{place-of}

pub placed-bad : {A : Type 0} {s : List ℕ} {p : Parsed A} {x : Placed A} → Stands s p x → (k : Refusal) → x ≡ no k → p ≡ bad k
placed-bad h k f = rw (h.means, f)

pub length-in : (s : List ℕ) (n e : ℕ) → e ≤ length s → n ≤ length s - e → Stands s (judge_length n (drop e s)) (at n e)
unfolding judge_length
length-in s n e w h =
    let l : n ≤ length (drop e s) = rw length-drop h in
    rw (le-leb n (length (drop e s)) l) (here s n n e refl w)

pub length-out : (s : List ℕ) (n e : ℕ) → length s - e < n → Stands s (judge_length n (drop e s)) (no BadData)
unfolding judge_length
length-out s n e h =
    let l : length (drop e s) < n = rw length-drop h in
    rw (lt-leb n (length (drop e s)) l) (refuse s BadData)

-- a string that was read lies in the bytes
pub string-room : (s q : List ℕ) (n e : ℕ) → parse_string q ≡ got n (drop e s) → e ≤ length s → e + n ≤ length s
unfolding parse_string judge_length
string-room s q n e h w =
    let x = bind-good (parse read_count q) judge_length n (drop e s) h in
    let y = pick_good (leb x.first (length x.rest)) (got x.first x.rest) BadData n (drop e s) x.on in
    let l : x.first ≤ length x.rest = leb-true x.first (length x.rest) y.0 in
    let a : x.first ≡ n = got-value y.1 in
    let b : length x.rest ≡ length (drop e s) = ap length (got-rest y.1) in
    omega (arith, length-drop e s)

-- where the steps stand: `left` of k are still to be taken, from `place` on
module _ (s : List ℕ) (from k : ℕ) where
  pub record Skipping (left place : ℕ) : Type 0 where
    pub inside : place ≤ length s
    pub goes : nth_string k (drop from s) ≡ nth_string left (drop place s)

  pub skipping-start : from ≤ length s → Skipping k from
  skipping-start h = record { inside = h; goes = refl }

  module _ (left place : ℕ) (w : Skipping left place) where
    pub skipping-bad : 0 < left → (m : Refusal) → Stands s (parse_string (drop place s)) (no m) → Stands s (nth_string k (drop from s)) (no m)
    unfolding nth_string
    skipping-bad h m b = record { means = w.goes ∙ go left h; within = tt }
      where
        go : (j : ℕ) → 0 < j → nth_string j (drop place s) ≡ bad m
        go zero h = absurd (omega arith)
        go (suc j) h = rw b.means

    pub skipping-next : 0 < left → (n e : ℕ) → Stands s (parse_string (drop place s)) (at n e) → e + n ≤ length s → Skipping (left - 1) (e + n)
    unfolding nth_string
    skipping-next h n e b l = record { inside = l; goes = w.goes ∙ go left h }
      where
        go : (j : ℕ) → 0 < j → nth_string j (drop place s) ≡ nth_string (j - 1) (drop (e + n) s)
        go zero h = absurd (omega arith)
        go (suc j) h = let z : suc j - 1 ≡ j = omega arith in rw (b.means, z, drop-drop)

    pub skipping-done : left ≡ 0 → (x : Placed ℕ) → Stands s (parse_string (drop place s)) x → Stands s (nth_string k (drop from s)) x
    unfolding nth_string
    skipping-done h x b = rw (w.goes, h) b

-- the span
module _ (d : List ℕ) (k : ℕ) where
  abbrev none : Span
  none = record { at = 0; len = 0 }

  pub span-uncounted : (m : Refusal) → parse read_count d ≡ bad m → none ≡ string_span d k
  unfolding string_span
  span-uncounted m e = rw e

  pub span-past : (n : ℕ) (r : List ℕ) → parse read_count d ≡ got n r → n ≤ k → none ≡ string_span d k
  unfolding string_span string_numbered
  span-past n r e h = rw (e, le-ltb k n h)

  pub span-bad : (n : ℕ) (r : List ℕ) (m : Refusal) → parse read_count d ≡ got n r → k < n → nth_string k r ≡ bad m → none ≡ string_span d k
  unfolding string_span string_numbered
  span-bad n r m e h f = rw (e, lt-ltb k n h, f)

  pub span-here : (n : ℕ) (r : List ℕ) (m p : ℕ) → parse read_count d ≡ got n r → k < n → nth_string k r ≡ got m (drop p d) → p ≤ length d
      → record { at = p; len = m } ≡ string_span d k
  unfolding string_span string_numbered
  span-here n r m p e h f w = rw (e, lt-ltb k n h, f, place-of d p w)
