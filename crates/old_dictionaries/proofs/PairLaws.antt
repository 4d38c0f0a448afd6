-- Pairs and entries: what the code finds at a place, and that both say the same where the keys are apart. Assumes nothing.
use Rattle.base.specs.declared.Refusal.{Refusal}
use Rattle.base.specs.declared.Refusal.TheVariants.{SecondAlias}
use Rattle.std.specs.declared.option.Option.{Option}
use Rattle.std.specs.declared.option.Option.TheVariants.{None, Some}
use mathlib.Core.Path.{◌≡◌, sym, ap, ◌∙◌}
use mathlib.Core.Bool.{Bool, true, false}
use mathlib.Core.List.{List, [], ◌∷◌, ◌++◌}
use Prim.Native.Nat.{ℕ, zero, suc, ◌+◌, ◌-◌, ◌≤◌, ◌<◌}
use native.Mathlib.Omega.{arith}
use lib.ListN.{length, drop}
use Rattle.base.specs.Equal.{equal}
use Rattle.base.specs.Parsed.{got, bad}
use Rattle.base.proofs.ParseLaws.{got-value, got-rest, bind-good, pick-bad}
use Rattle.ids.specs.Ids.{among}
use Rattle.aliases.specs.Dictionary.{Entry, entry, Dictionary, keys}
use Rattle.old_texts.specs.OldText.{parse_old_text}
use Rattle.old_dictionaries.specs.OldDictionary.{after_key, parse_entry}
use Rattle.old_dictionaries.specs.Pairs.{parse_pair, parse_pairs, first_key, key_among}
use Rattle.old_dictionaries.specs.View.{part, PairTo, PairAt}

-- a pair of strings, one behind the other
module _ (s x y r : List ℕ) (k : parse_old_text s ≡ got x r) where
  pub pair-got : (q : List ℕ) → parse_old_text r ≡ got y q → parse_pair s ≡ got (entry x y) q
  unfolding parse_pair
  pair-got q t = rw (k, t)

  pub pair-bad : (n : Refusal) → parse_old_text r ≡ bad n → parse_pair s ≡ bad n
  unfolding parse_pair
  pair-bad n t = rw (k, t)

pub key-bad : (s : List ℕ) (n : Refusal) → parse_old_text s ≡ bad n → parse_pair s ≡ bad n
unfolding parse_pair
key-bad s n t = rw t

-- an entry that reads is a pair with a new key, and such a pair is an entry
pub entry-pair : (pre : Dictionary) (s : List ℕ) (e : Entry) (q : List ℕ) → parse_entry pre s ≡ got e q → (parse_pair s ≡ got e q) × (among e.key (keys pre) ≡ false)
unfolding parse_entry after_key parse_pair
entry-pair pre s e q h =
    let b = bind-good (parse_old_text s) _ e q h in
    let k = pick-bad (among b.first (keys pre)) _ SecondAlias e q b.on in
    let c = bind-good (parse_old_text b.rest) _ e q k.1 in
    let f : e ≡ entry b.first c.first = sym (got-value c.on) in
    (rw b.is k.1, rw f k.0)

pub pair-entry : (pre : Dictionary) (s : List ℕ) (e : Entry) (q : List ℕ) → parse_pair s ≡ got e q → among e.key (keys pre) ≡ false → parse_entry pre s ≡ got e q
unfolding parse_entry after_key parse_pair
pair-entry pre s e q h n =
    let b = bind-good (parse_old_text s) _ e q h in
    let c = bind-good (parse_old_text b.rest) _ e q b.on in
    let f : e ≡ entry b.first c.first = sym (got-value c.on) in
    let k : among b.first (keys pre) ≡ false = rw f at n in
    rw (b.is, k) b.on

-- the first of some pairs, and the others
pub record Split (n : ℕ) (s : List ℕ) (es : Dictionary) (q : List ℕ) : Type 0 where
  pub first : Entry
  pub rest : List ℕ
  pub more : Dictionary
  pub pair : parse_pair s ≡ got first rest
  pub pairs : parse_pairs n rest ≡ got more q
  pub all : es ≡ first ∷ more

pub pairs-split : (n : ℕ) (s : List ℕ) (es : Dictionary) (q : List ℕ) → parse_pairs (suc n) s ≡ got es q → Split n s es q
unfolding parse_pairs
pairs-split n s es q h =
    let b = bind-good (parse_pair s) _ es q h in
    let c = bind-good (parse_pairs n b.rest) _ es q b.on in
    record {
      first = b.first;
      rest = b.rest;
      more = c.first;
      pair = b.is;
      pairs = c.is ∙ ap (got c.first) (got-rest c.on);
      all = sym (got-value c.on);
    }

pub pairs-join : (n : ℕ) (s : List ℕ) (e : Entry) (r : List ℕ) (es : Dictionary) (q : List ℕ) → parse_pair s ≡ got e r → parse_pairs n r ≡ got es q
    → parse_pairs (suc n) s ≡ got (e ∷ es) q
unfolding parse_pairs
pairs-join n s e r es q h k = rw (h, k)

-- one pair more
pub pairs-more : (n : ℕ) (s : List ℕ) (es : Dictionary) (q : List ℕ) (e : Entry) (r : List ℕ) → parse_pairs n s ≡ got es q → parse_pair q ≡ got e r
    → parse_pairs (suc n) s ≡ got (es ++ (e ∷ [])) r
unfolding parse_pairs
pairs-more zero s es q e r h p =
    let v : [] ≡ es = got-value h in
    let w : s ≡ q = got-rest h in
    rw (← v, w, p)
pairs-more (suc n) s es q e r h p =
    let b = pairs-split n s es q h in
    let m = pairs-more n b.rest b.more q e r b.pairs p in
    pairs-join (suc n) s b.first b.rest (b.more ++ (e ∷ [])) r b.pair m ∙ ap (λ (x : Dictionary). got (x ++ (e ∷ [])) r) (sym b.all)

-- the keys that the scan finds are those of the pairs
known-one : (n : ℕ) (x s : List ℕ) (e : Entry) (r : List ℕ) (es : Dictionary) → parse_pair s ≡ got e r → key_among n x r ≡ among x (keys es)
    → key_among (suc n) x s ≡ among x (keys (e ∷ es))
unfolding key_among among keys
known-one n x s e r es h k = rw (h, k)

pub pairs-known : (n : ℕ) (x s : List ℕ) (es : Dictionary) (q : List ℕ) → parse_pairs n s ≡ got es q → key_among n x s ≡ among x (keys es)
unfolding parse_pairs key_among among keys
pairs-known zero x s es q h = let v : [] ≡ es = got-value h in rw (← v)
pairs-known (suc n) x s es q h =
    let b = pairs-split n s es q h in
    known-one n x s b.first b.rest b.more b.pair (pairs-known n x b.rest b.more q b.pairs)
    ∙ ap (λ (y : Dictionary). among x (keys y)) (sym b.all)

-- the scan over the pairs: left are still to be looked at, from a place on
pub record Scanning (s x : List ℕ) (whole : Bool) (left place : ℕ) : Type 0 where
  pub inside : place ≤ length s
  pub rest : whole ≡ key_among left x (drop place s)

pub scan-done : (s x : List ℕ) (whole : Bool) (left place : ℕ) → Scanning s x whole left place → left ≡ 0 → false ≡ whole
unfolding key_among
scan-done s x whole left place g z = sym (rw z at g.rest)

module _ (s x : List ℕ) (whole : Bool) (left place : ℕ) (g : Scanning s x whole left place) (some : 0 < left) (r : Option (ℕ × ℕ × ℕ × ℕ)) (p : PairAt s place r) where
  turn : whole ≡ first_key x (key_among (left - 1) x) (parse_pair (drop place s))
  unfolding key_among
  turn = let e : left ≡ suc (left - 1) = omega arith in rw e at g.rest

  pub scan-none : r ≡ None → false ≡ whole
  scan-none e = let q : PairTo s (parse_pair (drop place s)) None = rw e at p.means in sym (turn ∙ rw q.1)

  module _ (b c v e : ℕ) (h : r ≡ Some (b, c, v, e)) where
    to : PairTo s (parse_pair (drop place s)) (Some (b, c, v, e))
    to = rw h at p.means

    pub scan-inside : (b ≤ c) × (c ≤ length s)
    scan-inside = (to.0, omega (arith, to.1, to.2, to.3))

    module _ (t : Bool) (q : t ≡ equal (part b c s) x) where
      pub scan-same : t ≡ true → true ≡ whole
      scan-same y = sym (turn ∙ rw (to.4, ← q, y))

      pub scan-next : t ≡ false → Scanning s x whole (left - 1) e
      scan-next y = record { inside = to.3; rest = turn ∙ rw (to.4, ← q, y) }
