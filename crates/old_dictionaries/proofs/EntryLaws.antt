-- The entries of a dictionary, one by one. Assumes nothing.
use Rattle.base.specs.declared.Refusal.{Refusal}
use Rattle.std.specs.Prelude.{Err, Ok}
use Rattle.base.specs.Coded.{Coded}
use mathlib.Core.Path.{◌≡◌, refl, sym, ap, ◌∙◌}
use mathlib.Core.Bool.{Bool, true, false}
use mathlib.Core.List.{List, [], ◌∷◌, ◌++◌}
use Prim.Native.Nat.{ℕ, suc, ◌+◌, ◌-◌, ◌≤◌, ◌<◌}
use native.Mathlib.Omega.{arith}
use native.Mathlib.Numerals.{add-one}
use lib.ListN.{length, drop, length-drop, length-append}
use Rattle.base.specs.Parsed.{got, bad, bind}
use Rattle.base.specs.Equal.{equal}
use Rattle.base.proofs.EqualLaws.{equal-true}
use Rattle.base.proofs.Tests.{clash, never}
use Rattle.string_order.specs.Order.{ordering}
use Rattle.std.specs.declared.cmp.Ordering.{Ordering}
use Rattle.std.specs.declared.cmp.Ordering.TheVariants.{Less, Equal, Greater}
use Rattle.string_order.proofs.OrderLaws.{ordering-refl, less-trans}
use Rattle.ids.specs.Ids.{among}
use Rattle.aliases.specs.Dictionary.{Entry, entry, Dictionary, keys}
use Rattle.aliases.proofs.KeyLaws.{keys-more}
use Rattle.old_counts.specs.OldCount.{read_old_count}
use Rattle.old_texts.specs.OldText.{parse_old_text}
use Rattle.old_dictionaries.specs.OldDictionary.{after_key, parse_entry, parse_entries, parse_old_dictionary, found_of, read_old_dictionary}
use Rattle.old_dictionaries.specs.Pairs.{parse_pairs, key_among}
use Rattle.old_dictionaries.specs.View.{part, is_less, ValueAt, TurnTo, Largest, Keyed, Turned}
use Rattle.old_dictionaries.specs.declared.Turn.{Turn}
use Rattle.old_dictionaries.specs.declared.Turn.TheVariants.{Next, Bad, Unordered}
use Rattle.old_dictionaries.proofs.PairLaws.{entry-pair, pairs-more, pairs-known}

-- a value behind a key
module _ (s : List ℕ) (place lo hi : ℕ) where
  pub value-bad : (k : Refusal) → parse_old_text (drop place s) ≡ bad k → ValueAt s place lo hi (Bad k)
  value-bad k e = record { means = e }

  pub value-next : (y : List ℕ) (d : ℕ) → d ≤ length s → parse_old_text (drop place s) ≡ got y (drop d s) → ValueAt s place lo hi (Next d lo hi)
  value-next y d l e = record { means = (refl, refl, l, y, e) }

-- what comes behind the string m is not among the keys, once the key k is one of them too
module _ (m k : List ℕ) (pre : Dictionary) (y : List ℕ) (above : (x : List ℕ) → ordering m x ≡ Less → among x (keys pre) ≡ false) where
  more-keys : (x : List ℕ) → ordering m x ≡ Less → equal k x ≡ false → among x (keys (pre ++ (entry k y ∷ []))) ≡ false
  unfolding among
  more-keys x l e = sym (keys-more pre (entry k y) x) ∙ rw (e, above x l)

  differ : (x : List ℕ) → (k ≡ x → ⊥) → equal k x ≡ false
  differ x n = go (equal k x) refl
    where
      go : (t : Bool) → equal k x ≡ t → t ≡ false
      go true e = absurd (n (equal-true k x e))
      go false e = refl

  -- k is the largest
  pub largest-new : ordering m k ≡ Less → (x : List ℕ) → ordering k x ≡ Less → among x (keys (pre ++ (entry k y ∷ []))) ≡ false
  largest-new l x h =
      more-keys x (less-trans m k x l h) (differ x (λ e.
      let z : Equal ≡ Less = sym (ordering-refl k) ∙ ap (ordering k) e ∙ h in clash cc))

less-true : (o : Ordering) → is_less o ≡ true → o ≡ Less
less-true Less e = refl
less-true Equal e = never refl (sym e)
less-true Greater e = never refl (sym e)

-- the entry whose key x goes from b to c, behind others, the largest of whose keys m goes from lo to hi
module _ (s : List ℕ) (lo hi b c : ℕ) (b-c : b ≤ c) (c-s : c ≤ length s) where
  abbrev x : List ℕ
  x = part b c s

  abbrev m : List ℕ
  m = part lo hi s

  new-bad : (pre : Dictionary) → among x (keys pre) ≡ false → (k : Refusal) → parse_old_text (drop c s) ≡ bad k → after_key pre x (drop c s) ≡ bad k
  unfolding after_key
  new-bad pre a k f = rw (a, f)

  new-next : (pre : Dictionary) → among x (keys pre) ≡ false → (y : List ℕ) (d : ℕ) → parse_old_text (drop c s) ≡ got y (drop d s) → after_key pre x (drop c s) ≡ got (entry x y) (drop d s)
  unfolding after_key
  new-next pre a y d f = rw (a, f)

  -- a new key, and the value behind it; a and e is where the largest key then lies
  new-key : (a e : ℕ) → a ≤ e → e ≤ length s → (r : Turn) → ValueAt s c a e r → (pre : Dictionary) → among x (keys pre) ≡ false
      → ((y z : List ℕ) → ordering (part a e s) z ≡ Less → among z (keys (pre ++ (entry x y ∷ []))) ≡ false)
      → TurnTo s pre (after_key pre x (drop c s)) r
  new-key a e a-e e-s (Bad k) v pre q above = new-bad pre q k v.means
  new-key a e a-e e-s Unordered v pre q above = absurd v.means
  new-key a e a-e e-s (Next d a' e') v pre q above =
      let f : a' ≡ a = v.means.0 in
      let g : e' ≡ e = v.means.1 in
      let w : TurnTo s pre (after_key pre x (drop c s)) (Next d a e) = (a-e, e-s, v.means.2, entry x v.means.3, new-next pre q v.means.3 d v.means.4, above v.means.3) in
      rw (f, g) w

  -- u says whether m comes before x
  module _ (u : Bool) (i : u ≡ is_less (ordering m x)) where
    pub key-larger : u ≡ true → (r : Turn) → ValueAt s c b c r → Keyed s lo hi b c r
    key-larger y r v =
        let l : ordering m x ≡ Less = less-true (ordering m x) (sym i ∙ y) in
        record { means = λ pre h. new-key b c b-c c-s r v pre (h x l) (λ z. largest-new m x pre z h l) }

  pub key-other : Keyed s lo hi b c Unordered
  key-other = record { means = λ pre h. tt }

-- the entry at a place
module _ (s : List ℕ) (lo hi place : ℕ) where
  pub entry-unread : (k : Refusal) → parse_old_text (drop place s) ≡ bad k → Turned s lo hi place (Bad k)
  unfolding parse_entry
  entry-unread k e = record { means = λ pre h. rw e }

  pub entry-keyed : (b c : ℕ) → parse_old_text (drop place s) ≡ got (part b c s) (drop c s) → (r : Turn) → Keyed s lo hi b c r → Turned s lo hi place r
  unfolding parse_entry
  entry-keyed b c e r k = record { means = λ pre h. rw e (k.means pre h) }

-- the loop over the entries: `done` of n are read, they are pre, and the place is behind them
pub record Walk (s : List ℕ) (from n done place : ℕ) (pre : Dictionary) : Type 0 where
  pub inside : place ≤ length s
  pub few : done ≤ n
  pub many : length pre ≡ done
  pub pairs : parse_pairs done (drop from s) ≡ got pre (drop place s)
  pub rest : parse_entries n [] (drop from s) ≡ parse_entries (n - done) pre (drop place s)

pub walk_start : (s : List ℕ) (from n : ℕ) → from ≤ length s → Walk s from n 0 from []
unfolding parse_pairs
walk_start s from n h =
    let z : n - 0 ≡ n = omega arith in
    record { inside = h; few = omega arith; many = refl; pairs = refl; rest = rw z refl }

module _ (s : List ℕ) (from n done place : ℕ) (pre : Dictionary) (g : Walk s from n done place pre) where
  -- the keys before
  pub walk-known : (x : List ℕ) → key_among done x (drop from s) ≡ among x (keys pre)
  walk-known x = pairs-known done x (drop from s) pre (drop place s) g.pairs

  module _ (some : done < n) where
    turn : parse_entries n [] (drop from s) ≡ bind (parse_entry pre (drop place s)) (λ e q. parse_entries (n - (done + 1)) (pre ++ (e ∷ [])) q)
    unfolding parse_entries
    turn = let e : n - done ≡ suc (n - (done + 1)) = omega arith in g.rest ∙ rw e refl

    pub walk-bad : (k : Refusal) → parse_entry pre (drop place s) ≡ bad k → Err k ≡ found_of s (parse_entries n [] (drop from s))
    walk-bad k q = let w : parse_entries n [] (drop from s) ≡ bad k = turn ∙ rw q in rw w

    pub walk-next : (d : ℕ) (x : Entry) → d ≤ length s → parse_entry pre (drop place s) ≡ got x (drop d s)
        → Walk s from n (done + 1) d (pre ++ (x ∷ []))
    walk-next d x l q =
        let p = entry-pair pre (drop place s) x (drop d s) q in
        let m = pairs-more done (drop from s) pre (drop place s) x (drop d s) g.pairs p.0 in
        record {
          inside = l;
          few = omega arith;
          many = simp length-append (omega (arith, g.many));
          pairs = rw (add-one done) m;
          rest = turn ∙ rw q;
        }

  pub walk-done : n ≤ done → Ok (n, place) ≡ found_of s (parse_entries n [] (drop from s))
  unfolding parse_entries
  walk-done h =
      let z : n - done ≡ 0 = omega arith in
      let l : length s - length (drop place s) ≡ place = rw (length-drop place s) (omega (arith, g.inside)) in
      let e : length pre ≡ n = omega (arith, g.many, g.few) in
      let w : parse_entries n [] (drop from s) ≡ got pre (drop place s) = g.rest ∙ rw z refl in
      rw (w, l, e) refl

-- the same while the keys are in order: the largest of them goes from lo to hi
pub record Going (s : List ℕ) (from n done lo hi place : ℕ) : Type 0 where
  pub order : lo ≤ hi
  pub end : hi ≤ length s
  pub pre : Dictionary
  pub walk : Walk s from n done place pre
  pub largest : Largest (part lo hi s) pre

pub going_start : (s : List ℕ) (from n : ℕ) → from ≤ length s → Going s from n 0 0 0 from
unfolding among keys
going_start s from n h = record { order = omega arith; end = omega arith; pre = []; walk = walk_start s from n h; largest = λ y l. refl }

module _ (s : List ℕ) (from n done lo hi place : ℕ) (g : Going s from n done lo hi place) where
  module _ (some : done < n) (r : Turn) (t : Turned s lo hi place r) where
    to : TurnTo s g.pre (parse_entry g.pre (drop place s)) r
    to = t.means g.pre g.largest

    pub going-bad : (k : Refusal) → r ≡ Bad k → Err k ≡ found_of s (parse_entries n [] (drop from s))
    going-bad k e = walk-bad s from n done place g.pre g.walk some k (rw e at to)

    next-at : (d b c : ℕ) → TurnTo s g.pre (parse_entry g.pre (drop place s)) (Next d b c) → Going s from n (done + 1) b c d
    next-at d b c q =
        record {
          order = q.0;
          end = q.1;
          pre = g.pre ++ (q.3 ∷ []);
          walk = walk-next s from n done place g.pre g.walk some d q.3 q.2 q.4;
          largest = q.5;
        }

    pub going_next : (d b c : ℕ) → r ≡ Next d b c → Going s from n (done + 1) b c d
    going_next d b c e = next-at d b c (rw e at to)

  pub going_done : n ≤ done → Ok (n, place) ≡ found_of s (parse_entries n [] (drop from s))
  going_done = walk-done s from n done place g.pre g.walk

-- the count of a dictionary, and what follows it
module _ (s : List ℕ) (r : Coded ℕ) (h : r ≡ read_old_count s) where
  pub count-bad : (k : Refusal) → r ≡ Err k → Err k ≡ read_old_dictionary s
  unfolding parse_old_dictionary
  count-bad k e = let q : read_old_count s ≡ Err k = sym h ∙ e in rw q

  pub count-read : (n a : ℕ) → r ≡ Ok (n, a) → (f : Coded ℕ) → f ≡ found_of s (parse_entries n [] (drop a s)) → f ≡ read_old_dictionary s
  unfolding parse_old_dictionary
  count-read n a e f i = let q : read_old_count s ≡ Ok (n, a) = sym h ∙ e in i ∙ rw q
