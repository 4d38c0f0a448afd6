-- The search for a string finds it where the index has it, in a pool that the check takes. Assumes nothing.
use Rattle.base.specs.declared.Refusal.{Refusal}
use Rattle.std.specs.Prelude.{Err, Ok, Result}
use mathlib.Core.Path.{◌≡◌, refl, sym, ap, ◌∙◌}
use mathlib.Core.List.{List, [], ◌∷◌}
use Prim.Native.Nat.{ℕ, zero, suc, ◌+◌, ◌-◌, ◌≤◌, ◌<◌}
use native.Mathlib.Omega.{arith}
use lib.ListN.{length, take, drop, get_or, length-drop}
use lib.Seq.{drop-drop}
use borrow.Author.Tests.{le-leb, lt-ltb, le-ltb}
use Rattle.base.specs.Parsed.{Parsed, got, bad, bind, behind_code, parse, many, prepend}
use Rattle.base.proofs.ParseLaws.{bad-got, bind-good}
use Rattle.counts.specs.Count.{read_count}
use Rattle.texts.specs.Text.{read_text, behind_text}
use Rattle.texts.proofs.TextLaws.{held}
use Rattle.pool.specs.Pool.{string, read_strings, parse_pool, strings_in, strings_of}
use Rattle.pool.specs.Index.{start, read_starts, room_in, room_of, span_at, span_of}
use Rattle.pool.specs.declared.Span.{Span}
use Rattle.pool.proofs.StringLaws.{opened}
use Rattle.string_search.specs.Search.{judge_length, parse_string, nth_string, string_numbered, span_in, string_span}
use Rattle.countries.proofs.OrderLaws.{many-length}

-- the string at a place
record TextAt (d : List ℕ) (at a n : ℕ) : Type 0 where
  count : read_count (drop at d) ≡ Ok (n, a)
  inside : at + a + n ≤ length d
  string-is : parse_string (drop at d) ≡ got n (drop (at + a) d)

text-at : (d : List ℕ) (at a n : ℕ) → at ≤ length d → read_text (drop at d) ≡ Ok (a, n) → TextAt d at a n
unfolding parse_string judge_length
text-at d at a n h e =
    let w = held (drop at d) a n e in
    let i : at + a + n ≤ length d = omega (arith, w.inside, length-drop at d) in
    let l : n ≤ length (drop (at + a) d) = rw length-drop (omega arith) in
    record { count = w.count; inside = i; string-is = rw (w.count, drop-drop a at d, le-leb n (length (drop (at + a) d)) l) }

module _ (d : List ℕ) (at a m : ℕ) (t : TextAt d at a m) where
  nth-first : span_in d (nth_string 0 (drop at d)) ≡ span_at d at
  unfolding nth_string
  nth-first = let p : length d - length (drop (at + a) d) ≡ at + a = rw length-drop (omega (arith, t.inside)) in rw (t.string-is, t.count, p)

  nth-later : (j : ℕ) (x : Span) → span_in d (nth_string j (drop (at + (a + m)) d)) ≡ x → span_in d (nth_string (suc j) (drop at d)) ≡ x
  unfolding nth_string
  nth-later j x e = let w : at + a + m ≡ at + (a + m) = omega arith in rw (t.string-is, drop-drop m (at + a) d, w) e

  by_number : (n j : ℕ) → j < suc n
      → ((i : ℕ) → i < n → span_in d (nth_string i (drop (at + (a + m)) d)) ≡ span_at d (get_or (read_starts n (at + (a + m)) (drop (at + (a + m)) d)) i 0))
      → span_in d (nth_string j (drop at d)) ≡ span_at d (get_or (at ∷ read_starts n (at + (a + m)) (drop (a + m) (drop at d))) j 0)
  by_number n zero l rec = nth-first
  by_number n (suc i) l rec = rw (drop-drop (a + m) at d) (nth-later i _ (rec i (omega arith)))

-- the strings that are read in a row from a place of d on
all-starts : (d : List ℕ) (n at : ℕ) (ts : List (List ℕ)) (q : List ℕ) → at ≤ length d → read_strings n (drop at d) ≡ got ts q → (j : ℕ) → j < n
    → span_in d (nth_string j (drop at d)) ≡ span_at d (get_or (read_starts n at (drop at d)) j 0)
unfolding many read_starts
all-starts d zero at ts q h e j l = absurd (omega arith)
all-starts d (suc n) at ts q h e j l = go (read_text (drop at d)) refl e (λ b us p i k. all-starts d n b us p i k)
  where
    go : (x : Result (ℕ × ℕ) Refusal) → read_text (drop at d) ≡ x → bind (behind_text (drop at d) x) (λ u r. bind (read_strings n r) (prepend u)) ≡ got ts q
        → ((b : ℕ) (us : List (List ℕ)) (p : List ℕ) → b ≤ length d → read_strings n (drop b d) ≡ got us p → (i : ℕ) → i < n
        → span_in d (nth_string i (drop b d)) ≡ span_at d (get_or (read_starts n b (drop b d)) i 0))
        → span_in d (nth_string j (drop at d)) ≡ span_at d (get_or (start x at (drop at d) (λ b r. read_starts n b r)) j 0)
    go (Err k) w f rec = bad-got f
    go (Ok (a, m)) w f rec =
        let t = text-at d at a m h w in
        let b = bind-good (read_strings n (drop (a + m) (drop at d))) (prepend (take m (drop a (drop at d)))) ts q f in
        let s : read_strings n (drop (at + (a + m)) d) ≡ got b.first b.rest = ap (read_strings n) (sym (drop-drop (a + m) at d)) ∙ b.is in
        by_number d at a m t n j l (rec (at + (a + m)) b.first b.rest (omega (arith, t.inside)) s)

-- a pool that is taken
module _ (d : List ℕ) (ts : List (List ℕ)) (q : List ℕ) (e : parse_pool d ≡ got ts q) where
  pub room-is : room_of d ≡ length ts
  unfolding room_in
  room-is =
      let o = opened d ts q e in
      let n : length ts ≡ o.k = many-length string o.k _ ts [] o.all in
      rw (o.count, le-ltb 8192 o.k o.few, n)

  taken-span : (k : ℕ) → k < length ts → string_span d k ≡ span_of d k
  unfolding string_span string_numbered
  taken-span k l =
      let o = opened d ts q e in
      let n : length ts ≡ o.k = many-length string o.k _ ts [] o.all in
      let h : k < o.k = omega arith in
      let ss = read_starts o.k o.a (drop o.a d) in
      let s : span_in d (bind (behind_code d (Ok (o.k, o.a))) (string_numbered k)) ≡ span_at d (get_or ss k 0) =
      rw (lt-ltb k o.k h) (all-starts d o.k o.a ts [] o.front o.all k h) in
      ap (λ (c : _). span_in d (bind (behind_code d c) (string_numbered k))) o.count
      ∙ s ∙ ap (λ (xs : List ℕ). span_at d (get_or xs k 0)) (sym o.places)

-- a pool that has a string is taken
pub record Has (d : List ℕ) : Type 0 where
  pub room : room_of d ≡ length (strings_of d)
  pub span : (k : ℕ) → k < length (strings_of d) → string_span d k ≡ span_of d k

pub has-string : (d : List ℕ) (j : ℕ) → j < length (strings_of d) → Has d
has-string d j l = go (parse_pool d) refl l
  where
    go : (p : Parsed (List (List ℕ))) → parse_pool d ≡ p → j < length (strings_in p) → Has d
    go (got ts q) e h =
        let w : strings_of d ≡ ts = ap strings_in e in
        record { room = room-is d ts q e ∙ ap length (sym w); span = λ k i. taken-span d ts q e k (rw (← w) i) }
    go (bad n) e h = absurd (omega arith)
