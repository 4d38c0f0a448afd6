-- The string that the search finds is the pool's, where the check takes the pool. Assumes nothing.
use Rattle.base.specs.declared.Refusal.TheVariants.{TooLarge}
use Rattle.base.specs.declared.Refusal.{Refusal}
use Rattle.std.specs.Prelude.{Err, Ok, Result}
use Rattle.base.specs.Coded.{Coded}
use mathlib.Core.Path.{◌≡◌, refl, sym, ap, ◌∙◌, subst}
use mathlib.Core.List.{List, [], ◌∷◌}
use Prim.Native.Nat.{ℕ, zero, suc, ◌+◌, ◌-◌, ◌≤◌, ◌<◌}
use native.Mathlib.Omega.{arith}
use lib.Dec.{ltb}
use lib.ListN.{length, take, drop, get_or, length-drop}
use lib.Seq.{drop-drop}
use borrow.Author.Tests.{le-leb, lt-ltb}
use Rattle.base.specs.Parsed.{got, bind, behind_code, parse, many, prepend, ended}
use Rattle.base.proofs.ParseLaws.{bad-got, got-value, got-rest, bind-good, pick-bad, ended-good}
use Rattle.counts.specs.Count.{read_count}
use Rattle.texts.specs.Text.{read_text, behind_text, parse_text}
use Rattle.texts.proofs.TextLaws.{held}
use Rattle.pool.specs.Pool.{string, no_state, read_strings, all_strings, counted, parse_pool}
use Rattle.string_search.specs.Search.{judge_length, parse_string, nth_string, string_numbered, string_span}
use Rattle.string_search.proofs.SuffixLaws.{Suffix, suffix-drop, suffix-then, suffix-place}

-- a text that is read is a string with its length
record Read-string (s t r : List ℕ) : Type 0 where
  size : ℕ
  rest : List ℕ
  parsed : parse_string s ≡ got size rest
  bytes : take size rest ≡ t
  behind : r ≡ drop size rest
  within : size ≤ length rest
  suffix : Suffix s rest

text-string : (s t r : List ℕ) → parse_text s ≡ got t r → Read-string s t r
unfolding parse_string judge_length
text-string s t r e = go (read_text s) refl e
  where
    go : (x : Result (ℕ × ℕ) Refusal) → read_text s ≡ x → behind_text s x ≡ got t r → Read-string s t r
    go (Err k) q h = bad-got h
    go (Ok (a, n)) q h =
        let w = held s a n q in
        let l : n ≤ length (drop a s) = rw length-drop (omega (arith, w.inside)) in
        record {
          size = n;
          rest = drop a s;
          parsed = rw (w.count, le-leb n (length (drop a s)) l);
          bytes = got-value h;
          behind = sym (got-rest h) ∙ sym (drop-drop n a s);
          within = l;
          suffix = suffix-drop s a;
        }

-- the k-th string, of those read in a row from a place of d on
record Nth (d s : List ℕ) (t : List ℕ) (k : ℕ) : Type 0 where
  size : ℕ
  rest : List ℕ
  found : nth_string k s ≡ got size rest
  bytes : take size rest ≡ t
  within : size ≤ length rest
  suffix : Suffix d rest

suffix-next : (d s t q : List ℕ) → Suffix d s → Read-string s t q → Suffix d q
suffix-next d s t q f c =
    suffix-then d s q f (suffix-then s c.rest q c.suffix (subst (λ (l : List ℕ). Suffix c.rest l) (sym c.behind) (suffix-drop c.rest c.size)))

nth-step : (d s t q : List ℕ) (us : List (List ℕ)) (n k : ℕ) → Suffix d s → Read-string s t q → ((j : ℕ) → j < n → Nth d q (get_or us j []) j) → k < suc n
    → Nth d s (get_or (t ∷ us) k []) k
unfolding nth_string
nth-step d s t q us n zero f c rec l =
    record { size = c.size; rest = c.rest; found = c.parsed; bytes = c.bytes; within = c.within; suffix = suffix-then d s c.rest f c.suffix }
nth-step d s t q us n (suc j) f c rec l =
    let m = rec j (omega arith) in
    record {
      size = m.size;
      rest = m.rest;
      found = rw c.parsed (ap (nth_string j) (sym c.behind) ∙ m.found);
      bytes = m.bytes;
      within = m.within;
      suffix = m.suffix;
    }

abbrev AllNth : List ℕ → ℕ → Type 0
AllNth d n =
    (s : List ℕ) (ts : List (List ℕ)) (r : List ℕ) → Suffix d s → many string no_state n tt s ≡ got ts r → (k : ℕ) → k < n → Nth d s (get_or ts k []) k

nth-more : (d : List ℕ) (n : ℕ) → AllNth d n → (s t q : List ℕ) (us ts : List (List ℕ)) (p : List ℕ) → Suffix d s → Read-string s t q
    → many string no_state n tt q ≡ got us p → t ∷ us ≡ ts → (k : ℕ) → k < suc n → Nth d s (get_or ts k []) k
nth-more d n rec s t q us ts p f c h z k l =
    subst (λ (l : List (List ℕ)). Nth d s (get_or l k []) k) z (nth-step d s t q us n k f c (λ j i. rec q us p (suffix-next d s t q f c) h j i) l)

nth-is : (d : List ℕ) (n : ℕ) → AllNth d n
unfolding many
nth-is d zero s ts r f e k l = absurd (omega arith)
nth-is d (suc n) s ts r f e k l =
    let x = bind-good (parse_text s) (λ a q. bind (many string no_state n tt q) (prepend a)) ts r e in
    let y = bind-good (many string no_state n tt x.rest) (prepend x.first) ts r x.on in
    nth-more d n (nth-is d n) s x.first x.rest y.first ts y.rest f (text-string s x.first x.rest x.is) y.is (got-value y.on) k l

code-suffix : (s : List ℕ) (v : ℕ) (r : List ℕ) → parse read_count s ≡ got v r → Suffix s r
code-suffix s v r e = go (read_count s) e
  where
    go : (x : Coded ℕ) → behind_code s x ≡ got v r → Suffix s r
    go (Ok (w, n)) e = let z : drop n s ≡ r = got-rest e in rw (← z) (suffix-drop s n)
    go (Err k) e = bad-got e

many-length : (n : ℕ) (s : List ℕ) (ts : List (List ℕ)) (r : List ℕ) → many string no_state n tt s ≡ got ts r → length ts ≡ n
unfolding many
many-length zero s ts r e = let z : [] ≡ ts = got-value e in rw (← z)
many-length (suc n) s ts r e =
    let x = bind-good (parse_text s) (λ a q. bind (many string no_state n tt q) (prepend a)) ts r e in
    let y = bind-good (many string no_state n tt x.rest) (prepend x.first) ts r x.on in
    let z : x.first ∷ y.first ≡ ts = got-value y.on in
    rw (← z) (ap suc (many-length n x.rest y.first y.rest y.is))

-- THE STRING WITH A NUMBER BELOW THE POOL'S COUNT, as a part of the pool's data
pub record IsString (d t : List ℕ) (at len : ℕ) : Type 0 where
  pub inside : at + len ≤ length d
  pub bytes : take len (drop at d) ≡ t

span-found : (d : List ℕ) (k n : ℕ) (s t : List ℕ) → parse read_count d ≡ got n s → k < n → Nth d s t k
    → IsString d t (string_span d k).at (string_span d k).len
unfolding string_span string_numbered
span-found d k n s t e l m =
    let p = suffix-place d m.rest m.suffix in
    let q : length m.rest ≡ length d - m.suffix.place = ap length m.suffix.is ∙ length-drop m.suffix.place d in
    rw (e, lt-ltb k n l, m.found, p)
    (record { inside = omega (arith, m.within, m.suffix.inside); bytes = ap (take m.size) (sym m.suffix.is) ∙ m.bytes })

pub string-is : (d : List ℕ) (ts : List (List ℕ)) (r : List ℕ) (k : ℕ) → parse_pool d ≡ got ts r → k < length ts
    → IsString d (get_or ts k []) (string_span d k).at (string_span d k).len
unfolding counted all_strings
string-is d ts r k e h =
    let x = bind-good (parse read_count d) counted ts r e in
    let y = pick-bad (ltb 8192 x.first) (all_strings x.first x.rest) TooLarge ts r x.on in
    let z = bind-good (read_strings x.first x.rest) ended ts r y.1 in
    let w = ended-good z.first ts z.rest r z.on in
    let i : read_strings x.first x.rest ≡ got ts z.rest = z.is ∙ ap (λ (us : List (List ℕ)). got us z.rest) w.0 in
    let l : k < x.first = omega (arith, many-length x.first x.rest ts z.rest i) in
    span-found d k x.first x.rest (get_or ts k []) x.is l (nth-is d x.first x.rest ts z.rest (code-suffix d x.first x.rest x.is) i k l)
