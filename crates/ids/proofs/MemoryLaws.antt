-- Laws of the places that stand for the strings seen. Assumes nothing.
use mathlib.Core.Path.{◌≡◌, refl, sym, ◌∙◌, ap}
use mathlib.Core.List.{List, [], ◌∷◌}
use mathlib.Core.Bool.{Bool, true, false}
use Prim.Native.Nat.{ℕ, zero, suc, ◌+◌, ◌-◌, ◌≤◌, ◌<◌}
use native.Mathlib.Omega.{arith}
use native.Mathlib.Nat.{not-suc-le-zero}
use native.Mathlib.Numerals.{add-one}
use lib.ListN.{length, get_or, replicate, length-replicate, get_or-replicate}
use Rattle.base.specs.Pick.{pick}
use Rattle.base.specs.Equal.{equal}
use Rattle.base.proofs.Tests.{never, by_order, pick_same}
use Rattle.base.proofs.EqualLaws.{equal-true, equal-refl}
use Rattle.pool.specs.Pool.{strings_of}
use Rattle.pool.proofs.PoolLaws.{few as pool-few}
use Rattle.string_order.specs.Order.{ordering}
use Rattle.std.specs.declared.cmp.Ordering.TheVariants.{Less}
use Rattle.ids.specs.Ids.{among}
use Rattle.ids.specs.Layout.{number_at, Fits}
use Rattle.ids.specs.Memory.{text_at, texts_of, how_many, Roomy, Sorted, Keeps, Taken, Between, Finds, Added}
use Rattle.ids.specs.declared.Gap.{Gap}
use Rattle.ids.specs.declared.Gap.TheVariants.{Known, New}
use Rattle.ids.proofs.IdLaws.{among-or}
use Rattle.ids.proofs.PlaceLaws.{among-at, numbered-among, at-among, between-new}
use Rattle.ids.proofs.PutLaws.{roomy-none}

-- of ts no more than all are among xs, and more are among those that are xs and x
how_many-most : (ts xs : List (List ℕ)) → how_many ts xs ≤ length ts
unfolding how_many
how_many-most [] xs = omega arith
how_many-most (t ∷ ts) xs = go (among t xs) (how_many-most ts xs)
  where
    go : (b : Bool) → how_many ts xs ≤ length ts → pick b 1 0 + how_many ts xs ≤ suc (length ts)
    go true h = omega arith
    go false h = omega arith

pub how_many-new : (ts xs : List (List ℕ)) (k : ℕ) → k < length ts → among (get_or ts k []) xs ≡ false → how_many ts xs < length ts
unfolding how_many
how_many-new [] xs k h e = absurd (not-suc-le-zero h)
how_many-new (t ∷ ts) xs zero h e = rw e (omega (arith, how_many-most ts xs))
how_many-new (t ∷ ts) xs (suc k) h e = go (among t xs) (how_many-new ts xs k (omega arith) e)
  where
    go : (b : Bool) → how_many ts xs < length ts → pick b 1 0 + how_many ts xs < suc (length ts)
    go true r = omega arith
    go false r = omega arith

-- ys are xs and x
module _ (xs ys : List (List ℕ)) (x : List ℕ) (e : (y : List ℕ) → among y ys ≡ pick (equal x y) true (among y xs)) where
  no_less : (t : List ℕ) → pick (among t xs) 1 0 ≤ pick (among t ys) 1 0
  no_less t = rw (e t) (go (equal x t) (among t xs))
    where
      go : (a b : Bool) → pick b 1 0 ≤ pick (pick a true b) 1 0
      go true true = omega arith
      go true false = omega arith
      go false b = omega arith

  how_many-on : (ts : List (List ℕ)) → how_many ts xs ≤ how_many ts ys
  unfolding how_many
  how_many-on [] = omega arith
  how_many-on (t ∷ ts) = omega (arith, no_less t, how_many-on ts)

  how_many-more : (ts : List (List ℕ)) (k : ℕ) → k < length ts → get_or ts k [] ≡ x → among x xs ≡ false → how_many ts xs < how_many ts ys
  unfolding how_many
  how_many-more [] k h q f = absurd (not-suc-le-zero h)
  how_many-more (t ∷ ts) zero h q f =
      let a : among t ys ≡ true = e t ∙ rw (q, equal-refl x) refl in
      let b : among t xs ≡ false = ap (λ (y : List ℕ). among y xs) q ∙ f in
      rw (a, b) (omega (arith, how_many-on ts))
  how_many-more (t ∷ ts) (suc k) h q f = omega (arith, no_less t, how_many-more ts k (omega arith) q f)

pub sorted-most : (ts : List (List ℕ)) (od : List ℕ) (n : ℕ) → Sorted ts od n → n ≤ length ts
sorted-most ts od n s = omega (arith, s.few, how_many-most ts (texts_of ts od n))

-- no place stands for no string
pub sorted_none : (ts : List (List ℕ)) (od : List ℕ) → length ts + 257 ≤ length od → Roomy od 0 → Sorted ts od 0
sorted_none ts od l r =
    record {
      room = l;
      roomy = r;
      known = λ i l. absurd (not-suc-le-zero l);
      rising = λ i j l m. absurd (not-suc-le-zero m);
      few = omega arith;
    }

pub keeps-none : (ts : List (List ℕ)) (od : List ℕ) → length ts + 257 ≤ length od → Roomy od 0 → Keeps ts od 0 []
unfolding texts_of
keeps-none ts od l r = record { sorted = sorted_none ts od l r; same = λ x. refl }

-- an array of zeros
pub keeps-start : (ts : List (List ℕ)) (m : ℕ) → length ts + 257 ≤ m → Keeps ts (replicate m 0) 0 []
keeps-start ts m l =
    keeps-none ts (replicate m 0) (omega (arith, length-replicate {A = ℕ} m 0))
    (roomy-none (replicate m 0) 0 (get_or-replicate {A = ℕ} m 256 0 0 (omega arith)))

-- an array that stands for no string of a pool stands for none of another
pub keeps-again : (ts us : List (List ℕ)) (od : List ℕ) (n : ℕ) → length us + 257 ≤ length od → Keeps ts od n [] → Keeps us od 0 []
unfolding among texts_of
keeps-again ts us od zero l m = keeps-none us od l m.sorted.roomy
keeps-again ts us od (suc n) l m = never (among-at ts od (suc n) n (text_at ts od n) (omega arith) refl) (sym (m.same (text_at ts od n)))

-- the number k of x, put at its place p
module _ (ts : List (List ℕ)) (od od' : List ℕ) (n p k : ℕ) (s : Sorted ts od n) (b : Between ts od n (get_or ts k []) p)
    (t : Added od n p k od') (l : k < length ts) where
  abbrev x : List ℕ
  x = get_or ts k []

  number-above : (i : ℕ) → p < i → i < suc n → number_at od' i ≡ number_at od (i - 1)
  number-above i h m = let z : i - 1 + 1 ≡ i = omega arith in sym (ap (number_at od') z) ∙ t.above (i - 1) (omega arith) (omega arith)

  -- the number at a place after it, by cases
  by_number : (G : ℕ → Type 0) (i : ℕ) → i < suc n → (i < p → G (number_at od i)) → (i ≡ p → G k) → (p < i → G (number_at od (i - 1)))
      → G (number_at od' i)
  by_number G i h f g e =
      by_order i p
      (λ q. rw (t.below i q) (f q))
      (λ q. by_order p i
      (λ r. rw (number-above i r h) (e r))
      (λ r. let z : i ≡ p = omega arith in rw (z, t.here) (g z)))

  -- what holds of each number and of k holds of each number then
  pub inserted-each : (G : ℕ → Type 0) → ((i : ℕ) → i < n → G (number_at od i)) → G k → (i : ℕ) → i < suc n → G (number_at od' i)
  inserted-each G f g i h = by_number G i h (λ q. f i (omega (arith, b.inside))) (λ q. g) (λ q. f (i - 1) (omega arith))

  pub inserted_same : (y : List ℕ) → among y (texts_of ts od' (suc n)) ≡ pick (equal x y) true (among y (texts_of ts od n))
  inserted_same y = among-or (among y (texts_of ts od' (suc n))) (equal x y) (among y (texts_of ts od n)) to here there
    where
      old : (i : ℕ) → i < n → text_at ts od i ≡ y → pick (equal x y) true (among y (texts_of ts od n)) ≡ true
      old i h r = rw (among-at ts od n i y h r) (pick_same (equal x y) true)

      new : x ≡ y → pick (equal x y) true (among y (texts_of ts od n)) ≡ true
      new r = let q : equal x y ≡ true = ap (equal x) (sym r) ∙ equal-refl x in rw q refl

      to : among y (texts_of ts od' (suc n)) ≡ true → pick (equal x y) true (among y (texts_of ts od n)) ≡ true
      to e =
          let a = at-among ts od' (suc n) y e in
          by_number (λ j. get_or ts j [] ≡ y → pick (equal x y) true (among y (texts_of ts od n)) ≡ true) a.place a.inside
          (λ q. old a.place (omega (arith, b.inside)))
          (λ q. new)
          (λ q. old (a.place - 1) (omega (arith, a.inside)))
          a.is

      here : equal x y ≡ true → among y (texts_of ts od' (suc n)) ≡ true
      here e = among-at ts od' (suc n) p y (omega (arith, b.inside)) (ap (λ (j : ℕ). get_or ts j []) t.here ∙ equal-true x y e)

      there : among y (texts_of ts od n) ≡ true → among y (texts_of ts od' (suc n)) ≡ true
      there e =
          let a = at-among ts od n y e in
          by_order a.place p
          (λ q. among-at ts od' (suc n) a.place y (omega (arith, a.inside)) (ap (λ (j : ℕ). get_or ts j []) (t.below a.place q) ∙ a.is))
          (λ q. among-at ts od' (suc n) (a.place + 1) y (omega (arith, a.inside))
          (ap (λ (j : ℕ). get_or ts j []) (t.above a.place q a.inside) ∙ a.is))

  inserted_rising : (i j : ℕ) → i < j → j < suc n → ordering (text_at ts od' i) (text_at ts od' j) ≡ Less
  inserted_rising i j h m =
      by_number (λ u. ordering (get_or ts u []) (text_at ts od' j) ≡ Less) i (omega arith)
      (λ q. by_number (λ v. ordering (text_at ts od i) (get_or ts v []) ≡ Less) j m
      (λ r. s.rising i j h (omega (arith, b.inside)))
      (λ r. b.below i q)
      (λ r. s.rising i (j - 1) (omega arith) (omega arith)))
      (λ q. by_number (λ v. ordering x (get_or ts v []) ≡ Less) j m
      (λ r. absurd (omega arith))
      (λ r. absurd (omega arith))
      (λ r. b.above (j - 1) (omega arith) (omega arith)))
      (λ q. by_number (λ v. ordering (text_at ts od (i - 1)) (get_or ts v []) ≡ Less) j m
      (λ r. absurd (omega arith))
      (λ r. absurd (omega arith))
      (λ r. s.rising (i - 1) (j - 1) (omega arith) (omega arith)))

  pub inserted-sorted : Sorted ts od' (suc n)
  inserted-sorted =
      record {
        room = omega (arith, t.room, s.room);
        roomy = t.roomy;
        known = λ i h.
            by_number (λ j. j < length ts) i h
            (λ q. s.known i (omega (arith, b.inside)))
            (λ q. l)
            (λ q. s.known (i - 1) (omega arith));
        rising = inserted_rising;
        few =
            omega (arith, s.few, how_many-more (texts_of ts od n) (texts_of ts od' (suc n)) x inserted_same ts k l refl (between-new ts od n x p b));
      }

  keeps-more : (mem : List (List ℕ)) → Keeps ts od n mem → Keeps ts od' (n + 1) (x ∷ mem)
  unfolding among
  keeps-more mem m =
      rw (add-one n)
      record {
        sorted = inserted-sorted;
        same = λ y. ap (pick (equal x y) true) (m.same y) ∙ sym (inserted_same y);
      }

  pub taken-new : Taken ts x od n od' false
  taken-new = record { said = λ mem m. sym (m.same x ∙ between-new ts od n x p b); kept = keeps-more }

-- what looking for x, the k-th string, gives
module _ (ts : List (List ℕ)) (od : List ℕ) (n k : ℕ) (x : List ℕ) (e : x ≡ get_or ts k []) (r : Gap) (f : Finds ts od n x r) where
  pub known_among : (j : ℕ) → r ≡ Known j → among (get_or ts k []) (texts_of ts od n) ≡ true
  known_among j q = numbered-among ts od n (get_or ts k []) j (rw (q, e) at f).is

  pub taken-seen : (j : ℕ) → r ≡ Known j → Taken ts (get_or ts k []) od n od true
  taken-seen j q =
      let a = known_among j q in
      record { said = λ mem m. sym (m.same (get_or ts k []) ∙ a); kept = λ mem m. m }

  module _ (i j : ℕ) (q : r ≡ New i j) where
    pub found-gap : Fits od n i j × Between ts od n (get_or ts k []) (i + j)
    found-gap = (rw (q, e) at f).is

    -- a string that was not seen leaves room for it
    pub new-room : Sorted ts od n → k < length ts → n < length ts
    new-room s l = omega (arith, s.few, how_many-new ts (texts_of ts od n) k l (between-new ts od n (get_or ts k []) (i + j) found-gap.1))

pub sorted-few : (d od : List ℕ) (n : ℕ) → Sorted (strings_of d) od n → n ≤ 8192
sorted-few d od n s = omega (arith, sorted-most (strings_of d) od n s, pool-few d)
