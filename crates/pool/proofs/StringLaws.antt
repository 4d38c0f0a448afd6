-- Where a pool's strings are found. Assumes nothing.
use Rattle.base.specs.declared.Refusal.TheVariants.{TooLarge}
use Rattle.base.specs.declared.Refusal.{Refusal}
use Rattle.std.specs.Prelude.{Err, Ok, Result}
use Rattle.base.specs.Coded.{Coded}
use mathlib.Core.Path.{◌≡◌, refl, sym, ◌∙◌, ap, ap₂}
use mathlib.Core.List.{List, [], ◌∷◌}
use Prim.Native.Nat.{ℕ, zero, suc, ◌+◌, ◌-◌, ◌≤◌, ◌<◌}
use native.Mathlib.Omega.{arith}
use native.Mathlib.Nat.{not-suc-le-zero}
use lib.ListN.{length, take, drop, get_or, length-take, length-drop}
use lib.Seq.{drop-drop, get_or-take}
use lib.Dec.{ltb}
use borrow.Author.Tests.{ltb-false}
use Rattle.base.proofs.Parts.{part-from}
use Rattle.counts.specs.Count.{read_count}
use Rattle.counts.proofs.CountLaws.{counted as count-counted}
use Rattle.texts.specs.Text.{read_text, behind_text}
use Rattle.texts.proofs.TextLaws.{Held, held}
use Rattle.base.specs.Parsed.{got, bad, bind, behind_code, ended, many, prepend}
use Rattle.base.proofs.ParseLaws.{bad-got, bind-good, pick-bad, ended-good}
use Rattle.pool.specs.Pool.{Pool, read_strings, all_strings, counted, parse_pool, strings_in, strings_of}
use Rattle.pool.specs.Index.{read_starts, starts_in, starts_of, Ready, span_in, span_at, span_of}
use Rattle.pool.specs.declared.Span.{Span}

-- the first of the strings, and the others
record Head (k : ℕ) (s : List ℕ) (ts : List (List ℕ)) (q : List ℕ) : Type 0 where
  a : ℕ
  n : ℕ
  others : List (List ℕ)
  said : read_text s ≡ Ok (a, n)
  is : ts ≡ take n (drop a s) ∷ others
  after : read_strings k (drop (a + n) s) ≡ got others q

head : (k : ℕ) (s : List ℕ) (ts : List (List ℕ)) (q : List ℕ) → read_strings (suc k) s ≡ got ts q → Head k s ts q
unfolding many
head k s ts q e = go (read_text s) refl e
  where
    more : (a n : ℕ) → read_text s ≡ Ok (a, n) → bind (read_strings k (drop (a + n) s)) (prepend (take n (drop a s))) ≡ got ts q → Head k s ts q
    more a n h r =
        let g = bind-good (read_strings k (drop (a + n) s)) (prepend (take n (drop a s))) ts q r in
        let z = g.on in
        let y : g.rest ≡ q = cc in
        record { a = a; n = n; others = g.first; said = h; is = cc; after = g.is ∙ ap (got g.first) y }

    go : (x : Result (ℕ × ℕ) Refusal) → read_text s ≡ x → bind (behind_text s x) (λ u r. bind (read_strings k r) (prepend u)) ≡ got ts q → Head k s ts q
    go (Err m) h r = bad-got r
    go (Ok (a, n)) h r = more a n h r

none : (s : List ℕ) (ts : List (List ℕ)) (q : List ℕ) → read_strings zero s ≡ got ts q → ts ≡ []
unfolding many
none s ts q e = cc

-- the string that starts at the place p of d is t
pub record Found (d : List ℕ) (p : ℕ) (t : List ℕ) : Type 0 where
  pub a : ℕ
  pub n : ℕ
  pub inside : p ≤ length d
  pub here : Held (drop p d) a n
  pub is : t ≡ take n (drop a (drop p d))

starts-here : (k at : ℕ) (d : List ℕ) (a n : ℕ) → read_text (drop at d) ≡ Ok (a, n) → read_starts (suc k) at (drop at d) ≡ at ∷ read_starts k (at + (a + n)) (drop (at + (a + n)) d)
unfolding read_starts
starts-here k at d a n e = rw (e, drop-drop (a + n) at d)

module _ (k at : ℕ) (d : List ℕ) (ts : List (List ℕ)) (q : List ℕ) (f : Head k (drop at d) ts q) where
  found_first : at ≤ length d → Found d (get_or (read_starts (suc k) at (drop at d)) 0 0) (get_or ts 0 [])
  found_first h =
      rw (starts-here k at d f.a f.n f.said, f.is)
      (record { a = f.a; n = f.n; inside = h; here = held (drop at d) f.a f.n f.said; is = refl })

  found-later : (j : ℕ) → Found d (get_or (read_starts k (at + (f.a + f.n)) (drop (at + (f.a + f.n)) d)) j 0) (get_or f.others j [])
      → Found d (get_or (read_starts (suc k) at (drop at d)) (suc j) 0) (get_or ts (suc j) [])
  found-later j g = rw (starts-here k at d f.a f.n f.said, f.is) g

  next-inside : at ≤ length d → at + (f.a + f.n) ≤ length d
  next-inside h = omega (arith, (held (drop at d) f.a f.n f.said).inside, length-drop at d)

  next-after : read_strings k (drop (at + (f.a + f.n)) d) ≡ got f.others q
  next-after = rw (drop-drop (f.a + f.n) at d) at f.after

found : (k at : ℕ) (d : List ℕ) (ts : List (List ℕ)) (q : List ℕ) (j : ℕ) → at ≤ length d → read_strings k (drop at d) ≡ got ts q → j < length ts → Found d (get_or (read_starts k at (drop at d)) j 0) (get_or ts j [])
found zero at d ts q j h e l = absurd (omega (arith, ap length (none (drop at d) ts q e)))
found (suc k) at d ts q zero h e l = found_first k at d ts q (head k (drop at d) ts q e) h
found (suc k) at d ts q (suc j) h e l =
    let f = head k (drop at d) ts q e in
    found-later k at d ts q f j
    (found k (at + (f.a + f.n)) d f.others q j (next-inside k at d ts q f h) (next-after k at d ts q f) (omega (arith, ap length f.is)))

as_many : (k at : ℕ) (d : List ℕ) (ts : List (List ℕ)) (q : List ℕ) → read_strings k (drop at d) ≡ got ts q → (length ts ≡ k) × (length (read_starts k at (drop at d)) ≡ k)
unfolding read_starts
as_many zero at d ts q e = (ap length (none (drop at d) ts q e), refl)
as_many (suc k) at d ts q e =
    let f = head k (drop at d) ts q e in
    let r = as_many k (at + (f.a + f.n)) d f.others q (next-after k at d ts q f) in
    (ap length f.is ∙ ap suc r.0, ap length (starts-here k at d f.a f.n f.said) ∙ ap suc r.1)

-- a pool that is not refused
pub record Opened (d : List ℕ) (ts : List (List ℕ)) (q : List ℕ) : Type 0 where
  pub k : ℕ
  pub a : ℕ
  pub front : a ≤ length d
  pub count : read_count d ≡ Ok (k, a)
  pub few : k ≤ 8192
  pub all : read_strings k (drop a d) ≡ got ts []
  pub end : q ≡ []
  pub places : starts_of d ≡ read_starts k a (drop a d)

pub opened : (d : List ℕ) (ts : List (List ℕ)) (q : List ℕ) → parse_pool d ≡ got ts q → Opened d ts q
unfolding counted all_strings starts_in
opened d ts q e = go (read_count d) refl e
  where
    go : (g : Coded ℕ) → read_count d ≡ g → bind (behind_code d g) counted ≡ got ts q → Opened d ts q
    go (Err m) r h = bad-got h
    go (Ok (k, a)) r h =
        let p = pick-bad (ltb 8192 k) (bind (read_strings k (drop a d)) ended) TooLarge ts q h in
        let b = bind-good (read_strings k (drop a d)) ended ts q p.1 in
        let z = ended-good b.first ts b.rest q b.on in
        record {
          k = k;
          a = a;
          front = (count-counted d (sym r)).within;
          count = r;
          few = ltb-false 8192 k p.0;
          all = b.is ∙ ap₂ got z.0 z.1;
          end = z.2;
          places = rw (r, p.0);
        }

-- a pool that has a string is not refused
some-strings : (d : List ℕ) (j : ℕ) → j < length (strings_of d) → (q : List ℕ) × (parse_pool d ≡ got (strings_of d) q)
some-strings d j l = go (parse_pool d) l
  where
    go : (p : Pool) → j < length (strings_in p) → (q : List ℕ) × (p ≡ got (strings_in p) q)
    go (got ts q) h = (q, refl)
    go (bad m) h = absurd (not-suc-le-zero h)

-- the string j of the pool, by an index that is ready
module _ (d : List ℕ) (j : ℕ) (l : j < length (strings_of d)) where
  whole : (q : List ℕ) × (parse_pool d ≡ got (strings_of d) q)
  whole = some-strings d j l

  o : Opened d (strings_of d) whole.0
  o = opened d (strings_of d) whole.0 whole.1

  pub below : j < 8192
  below = omega (arith, o.few, (as_many o.k o.a d (strings_of d) [] o.all).0)

  -- where it starts
  pub string-found : Found d (get_or (starts_of d) j 0) (get_or (strings_of d) j [])
  string-found = rw o.places (found o.k o.a d (strings_of d) [] j o.front o.all l)

  start-below : j < length (starts_of d)
  start-below = rw o.places (omega (arith, as_many o.k o.a d (strings_of d) [] o.all))

  pub index-room : (ix : List ℕ) → Ready d ix → j < length ix
  index-room ix r = omega (arith, start-below, length-take (length (starts_of d)) ix, ap length r.begins)

  pub start_is : (ix : List ℕ) → Ready d ix → get_or ix j 0 ≡ get_or (starts_of d) j 0
  start_is ix r =
      sym (get_or-take (length (starts_of d)) ix j 0 start-below) ∙ ap (λ (m : List ℕ). get_or m j 0) r.begins

  -- where its bytes lie
  span-is : span_of d j ≡ record { at = get_or (starts_of d) j 0 + string-found.a; len = string-found.n }
  span-is = ap (span_in (get_or (starts_of d) j 0)) string-found.here.count

  pub span-inside : (span_of d j).at + (span_of d j).len ≤ length d
  span-inside = let f = string-found in rw span-is (omega (arith, f.here.inside, length-drop (get_or (starts_of d) j 0) d, f.inside))

  pub span-string : take (span_of d j).len (drop (span_of d j).at d) ≡ get_or (strings_of d) j []
  span-string = let f = string-found in rw span-is (rw (← drop-drop f.a (get_or (starts_of d) j 0) d) (sym f.is))

-- what the code reads where an index that is ready points
module _ (d ix : List ℕ) (j : ℕ) (r : Ready d ix) (l : j < length (strings_of d)) where
  pub index-inside : get_or ix j 0 ≤ length d
  index-inside = rw (start_is d j l ix r) (string-found d j l).inside

  module _ (g x : Coded ℕ) (h : g ≡ read_count (take (length d - get_or ix j 0) (drop (get_or ix j 0) d))) (e : g ≡ x) where
    pub count-here : x ≡ read_count (drop (get_or ix j 0) d)
    count-here = sym e ∙ h ∙ ap read_count (part-from (get_or ix j 0) d)

    pub index-span : span_in (get_or ix j 0) x ≡ span_of d j
    index-span = ap (span_in (get_or ix j 0)) count-here ∙ ap (span_at d) (start_is d j l ix r)

  pub count-inside : (g : Coded ℕ) (n a : ℕ) → g ≡ read_count (take (length d - get_or ix j 0) (drop (get_or ix j 0) d)) → g ≡ Ok (n, a) → get_or ix j 0 + a ≤ length d
  count-inside g n a h e =
      let c = count-counted (drop (get_or ix j 0) d) (count-here g (Ok (n, a)) h e) in
      omega (arith, index-inside, c.within, length-drop (get_or ix j 0) d)

-- a span that is the j-th string's, as the code takes it
module _ (d : List ℕ) (j : ℕ) (l : j < length (strings_of d)) (s : Span) (e : s ≡ span_of d j) where
  pub part-inside : s.at + s.len ≤ length d
  part-inside = rw e (span-inside d j l)

  pub part-string : take (s.at + s.len - s.at) (drop s.at d) ≡ get_or (strings_of d) j []
  part-string = let z : s.at + s.len - s.at ≡ s.len = omega arith in rw z (rw e (span-string d j l))
