-- Laws of numbers in groups of seven bits in any form, at every number of groups and every largest last byte: how a reading goes on, what
-- a value that reads is, that the forms read are the padded ones, and what more bytes do. Assumes nothing.
use Rattle.base.specs.declared.Refusal.{Refusal}
use Rattle.std.specs.Prelude.{Err, Ok}
use Rattle.base.specs.Coded.{Coded}
use Rattle.base.specs.declared.Refusal.TheVariants.{BadCode, BadData}
use mathlib.Core.Path.{◌≡◌, refl, sym, ap, ap₂, ◌∙◌, subst⁻¹}
use mathlib.Core.List.{List, [], ◌∷◌, ◌++◌}
use mathlib.Core.Bool.{Bool, true, false}
use mathlib.Core.Logic.{◌⊎◌, inl, inr}
use Prim.Native.Nat.{ℕ, zero, suc, ◌+◌, ◌*◌, ◌-◌, ◌/◌, ◌%◌, ◌^◌, ◌≤◌, ◌<◌}
use native.Mathlib.Omega.{arith}
use native.Mathlib.Numerals.{add-one}
use native.Mathlib.Nat.{pow-suc, pow-le-pow_right, one-le-pow}
use lib.Dec.{ltb, leb, lit≤}
use lib.Arith.{digits_lt}
use lib.ListN.{length, get_or, drop, drop_of_length-le}
use lib.Seq.{drop-cons}
use borrow.Author.Tests.{lt-ltb, le-ltb, le-leb, lt-leb, ltb-true, ltb-false, leb-true}
use Rattle.base.specs.Pick.{pick}
use Rattle.base.proofs.Tests.{by_order, pick-holds, clash}
use Rattle.base.proofs.Parts.{Bytes}
use Rattle.counts.specs.Groups.{grouped, before, any_groups, write_groups, padded_groups}
use Rattle.counts.proofs.GroupWriteLaws.{write-most}

-- where the reader's loop stands: i bytes with the top bit set are read, whose groups give v, and the next group counts unit
pub record Reading (top : ℕ) (s : List ℕ) (v unit i : ℕ) : Type 0 where
  pub most : i ≤ 4
  pub below : v < unit
  pub power : unit ≡ 128 ^ i
  pub said : before v unit i (any_groups (4 - i) top (drop i s)) ≡ any_groups 4 top s

before-none : (g : Coded ℕ) → before 0 1 0 g ≡ g
before-none (Ok (w, n)) = ap₂ (λ (v n : ℕ). Ok (v, n)) (omega arith) (omega arith)
before-none (Err k) = refl

-- a byte more
before_more : (v unit i b : ℕ) (g : Coded ℕ) → before v unit i (grouped b g) ≡ before (v + unit * (b % 128)) (unit * 128) (i + 1) g
before_more v unit i b (Ok (w, n)) = ap₂ (λ (v n : ℕ). Ok (v, n)) (omega arith) (omega arith)
before_more v unit i b (Err k) = refl

pub reading-start : (top : ℕ) (s : List ℕ) → Reading top s 0 1 0
reading-start top s = record { most = omega arith; below = omega arith; power = refl; said = before-none (any_groups 4 top s) }

-- how a reading goes on: a law for each way on from the loop's test
module _ (top : ℕ) (s : List ℕ) (v unit i : ℕ) (r : Reading top s v unit i) where
  -- the sums of the next group b
  pub reading-fits : (b : ℕ) → b < 128 → (v + unit * b < unit * 128) × (unit ≤ 268435456)
  reading-fits b h =
      (omega (arith, digits_lt h r.below), omega (arith, r.power, pow-le-pow_right {n = 128} (lit≤ tt) r.most))

  pub reading-cut : length s ≤ i → Err BadData ≡ any_groups 4 top s
  unfolding any_groups
  reading-cut h = rw (drop_of_length-le s h) at r.said

  module _ (less : i < 4) (here : i < length s) where
    next-byte : any_groups (4 - i) top (drop i s)
        ≡ pick (ltb (get_or s i 0) 128) (Ok (get_or s i 0, 1)) (grouped (get_or s i 0) (any_groups (4 - (i + 1)) top (drop (i + 1) s)))
    unfolding any_groups
    next-byte = let e : 4 - i ≡ suc (4 - (i + 1)) = omega arith in rw (e, drop-cons s i 0 here, add-one i)

    pub reading-last : get_or s i 0 < 128 → before v unit i (Ok (get_or s i 0, 1)) ≡ any_groups 4 top s
    reading-last h = rw (next-byte, lt-ltb (get_or s i 0) 128 h) at r.said

    pub reading-next : 128 ≤ get_or s i 0 → Reading top s (v + unit * (get_or s i 0 % 128)) (unit * 128) (i + 1)
    reading-next h =
        let m = before_more v unit i (get_or s i 0) (any_groups (4 - (i + 1)) top (drop (i + 1) s)) in
        record {
          most = omega arith;
          below = (reading-fits (get_or s i 0 % 128) (omega arith)).0;
          power = rw (add-one i, pow-suc) (ap (λ (u : ℕ). u * 128) r.power);
          said = sym m ∙ (rw (next-byte, le-ltb (get_or s i 0) 128 h) at r.said);
        }

  -- behind four bytes with the top bit set
  module _ (four : 4 ≤ i) (here : 4 < length s) where
    fifth-byte : before v unit 4 (pick (leb (get_or s 4 0) top) (Ok (get_or s 4 0, 1)) (Err BadCode)) ≡ any_groups 4 top s
    unfolding any_groups
    fifth-byte = let e : i ≡ 4 = omega arith in rw (e, drop-cons s 4 0 here) at r.said

    pub reading-fifth : get_or s 4 0 ≤ top → before v unit 4 (Ok (get_or s 4 0, 1)) ≡ any_groups 4 top s
    reading-fifth h = rw (le-leb (get_or s 4 0) top h) at fifth-byte

    pub reading-above : top < get_or s 4 0 → Err BadCode ≡ any_groups 4 top s
    reading-above h = rw (lt-leb (get_or s 4 0) top h) at fifth-byte

-- a value v that s gives in n bytes, in any form
pub record AnyGroup (k top : ℕ) (s : List ℕ) (v n : ℕ) : Type 0 where
  pub small : v < (top + 1) * 128 ^ k
  pub fits : top < 128 → v < 128 ^ n
  pub some : 1 ≤ n
  pub size : n ≤ k + 1
  pub within : n ≤ length s
  pub zero-last : v ≡ 0 → get_or s (n - 1) 0 ≡ 0
  pub single : n ≡ 1 → v ≡ get_or s 0 0

abbrev pub IsAny : ℕ → ℕ → List ℕ → Coded ℕ → Type 0
IsAny k top s (Ok (v, n)) = AnyGroup k top s v n
IsAny k top s (Err j) = Unit

any-more : (k top b : ℕ) (s : List ℕ) (g : Coded ℕ) → IsAny k top s g → IsAny (suc k) top (b ∷ s) (grouped b g)
any-more k top b s (Ok (v, n)) h =
    let e : n + 1 - 1 ≡ suc (n - 1) = omega arith in
    record {
      small = rw pow-suc (omega arith);
      fits = λ t. let l = h.fits t in rw (add-one n, pow-suc) (omega arith);
      some = omega arith;
      size = omega arith;
      within = omega arith;
      zero-last = λ z. rw e (h.zero-last (omega arith));
      single = λ l. absurd (omega arith);
    }
any-more k top b s (Err j) h = tt

last-any : (k top b : ℕ) (s : List ℕ) → b < (top + 1) * 128 ^ k → (top < 128 → b < 128) → AnyGroup k top (b ∷ s) b 1
last-any k top b s h l =
    record { small = h; fits = l; some = omega arith; size = omega arith; within = omega arith; zero-last = λ z. z; single = λ l. refl }

pub is_any : (k top : ℕ) (s : List ℕ) → IsAny k top s (any_groups k top s)
unfolding any_groups
is_any k top [] = tt
is_any zero top (b ∷ s) =
    pick-holds (IsAny zero top (b ∷ s)) (leb b top) (λ t.
    let l : b ≤ top = leb-true b top t in last-any zero top b s (omega arith) (λ m. omega arith)) (λ _. tt)
is_any (suc k) top (b ∷ s) =
    pick-holds (IsAny (suc k) top (b ∷ s)) (ltb b 128)
    (λ t. last-any (suc k) top b s (rw pow-suc (omega (arith, ltb-true b 128 t, one-le-pow k 128 (lit≤ tt)))) (λ m. ltb-true b 128 t))
    (λ _. any-more k top b s (any_groups k top s) (is_any k top s))

pub any-group : (k top : ℕ) (s : List ℕ) {v n : ℕ} → Ok (v, n) ≡ any_groups k top s → AnyGroup k top s v n
any-group k top s e = subst⁻¹ (IsAny k top s) e (is_any k top s)

-- no form is shorter than the written one
pub any-least : (k top : ℕ) (s : List ℕ) {v n : ℕ} → top < 128 → Ok (v, n) ≡ any_groups k top s → length (write_groups k v) ≤ n
any-least k top s {v = v} {n = n} t e = go n (any-group k top s e).some ((any-group k top s e).fits t)
  where
    go : (m : ℕ) → 1 ≤ m → v < 128 ^ m → length (write_groups k v) ≤ m
    go zero l h = absurd (omega arith)
    go (suc m) l h = write-most m k v h

pub padded-length : (k v : ℕ) → length (padded_groups k v) ≡ suc k
unfolding padded_groups
padded-length zero v = refl
padded-length (suc k) v = ap suc (padded-length k (v / 128))

-- every padded form is read, as its value, in all of its bytes
pub padded-read : (j k top v : ℕ) (rest : List ℕ) → j ≤ k → top < 128 → v < 128 ^ suc j → v < (top + 1) * 128 ^ k
    → any_groups k top (padded_groups j v ++ rest) ≡ Ok (v, suc j)
unfolding any_groups padded_groups
padded-read zero zero top v rest l t h m =
    let e : v % 128 ≡ v = omega arith in
    simp (e, le-leb v top (omega arith))
padded-read zero (suc k) top v rest l t h m =
    let e : v % 128 ≡ v = omega (arith, rw pow-suc at h) in
    simp (e, lt-ltb v 128 (omega (arith, rw pow-suc at h)))
padded-read (suc j) zero top v rest l t h m = absurd (omega arith)
padded-read (suc j) (suc k) top v rest l t h m =
    simp (
      le-ltb (128 + v % 128) 128 (omega arith),
      padded-read j k top (v / 128) rest (omega arith) t (omega (arith, rw pow-suc at h)) (omega (arith, rw pow-suc at m)),
    ) (ap₂ (λ (v n : ℕ). Ok (v, n)) (omega arith) (omega arith))

-- s starts with a form of the value v that it gives in n bytes
pub record Padded (s : List ℕ) (v n : ℕ) : Type 0 where
  pub more : ℕ
  pub size : n ≡ suc more
  pub form : s ≡ padded_groups more v ++ drop n s

abbrev IsPadded : List ℕ → Coded ℕ → Type 0
IsPadded s (Ok (v, n)) = Padded s v n
IsPadded s (Err j) = Unit

padded-more : (b : ℕ) (s : List ℕ) (g : Coded ℕ) → 128 ≤ b → b < 256 → IsPadded s g → IsPadded (b ∷ s) (grouped b g)
unfolding padded_groups
padded-more b s (Ok (v, n)) hb hl w =
    let d : v ≡ (b % 128 + 128 * v) / 128 = omega arith in
    record {
      more = suc w.more;
      size = omega (arith, w.size);
      form = simp (add-one) (ap₂ ◌∷◌ (omega arith) (w.form ∙ ap (λ (x : ℕ). padded_groups w.more x ++ drop n s) d));
    }
padded-more b s (Err j) hb hl w = tt

last-padded : (b : ℕ) (s : List ℕ) → b < 128 → Padded (b ∷ s) b 1
unfolding padded_groups
last-padded b s h = let e : b % 128 ≡ b = omega arith in record { more = 0; size = refl; form = rw e }

is-padded : (k top : ℕ) (s : List ℕ) → top < 128 → Bytes s → IsPadded s (any_groups k top s)
unfolding any_groups
is-padded k top [] ht hs = tt
is-padded zero top (b ∷ s) ht hs =
    pick-holds (IsPadded (b ∷ s)) (leb b top) (λ t. last-padded b s (omega (arith, leb-true b top t))) (λ _. tt)
is-padded (suc k) top (b ∷ s) ht hs =
    pick-holds (IsPadded (b ∷ s)) (ltb b 128)
    (λ t. last-padded b s (ltb-true b 128 t))
    (λ t. padded-more b s (any_groups k top s) (ltb-false b 128 t) (hs 0) (is-padded k top s ht (λ i. hs (suc i))))

-- nothing but a padded form is read
pub any-form : (k top : ℕ) (s : List ℕ) {v n : ℕ} → top < 128 → Bytes s → Ok (v, n) ≡ any_groups k top s → Padded s v n
any-form k top s ht hs e = subst⁻¹ (IsPadded s) e (is-padded k top s ht hs)

-- the padded form with no group of 0 behind the others is the written one
pub padded-shortest : (j k v : ℕ) → j ≤ k → v < 128 ^ suc j → suc j ≤ length (write_groups k v) → padded_groups j v ≡ write_groups k v
unfolding padded_groups write_groups
padded-shortest zero zero v l h m = refl
padded-shortest zero (suc k) v l h m =
    let s : v < 128 = omega (arith, rw pow-suc at h) in
    let e : v % 128 ≡ v = omega arith in
    rw (lt-ltb v 128 s, e)
padded-shortest (suc j) zero v l h m = absurd (omega arith)
padded-shortest (suc j) (suc k) v l h m =
    by_order v 128
    (λ (s : v < 128). absurd (omega (arith, rw (lt-ltb v 128 s) at m)))
    (λ (s : 128 ≤ v). rw (le-ltb v 128 s)
    (ap (λ (xs : List ℕ). (128 + v % 128) ∷ xs)
    (padded-shortest j k (v / 128) (omega arith) (omega (arith, rw pow-suc at h)) (omega (arith, rw (le-ltb v 128 s) at m)))))

-- a code that is not cut is the same with the bytes e added
same-grouped : (b : ℕ) (g h : Coded ℕ) → ((Err BadData ≡ g → ⊥) → h ≡ g) → (Err BadData ≡ grouped b g → ⊥) → grouped b h ≡ grouped b g
same-grouped b (Ok (v, n)) h f p = ap (grouped b) (f (λ z. clash cc))
same-grouped b (Err k) h f p = ap (grouped b) (f p)

pub any_same : (e : List ℕ) (k top : ℕ) (s : List ℕ) → (Err BadData ≡ any_groups k top s → ⊥) → any_groups k top (s ++ e) ≡ any_groups k top s
unfolding any_groups
any_same e k top [] p = absurd (p refl)
any_same e zero top (b ∷ s) p = refl
any_same e (suc k) top (b ∷ s) p = go (any_same e k top s) (ltb b 128) p
  where
    go : ((Err BadData ≡ any_groups k top s → ⊥) → any_groups k top (s ++ e) ≡ any_groups k top s) → (t : Bool)
        → (Err BadData ≡ pick t (Ok (b, 1)) (grouped b (any_groups k top s)) → ⊥)
        → pick t (Ok (b, 1)) (grouped b (any_groups k top (s ++ e))) ≡ pick t (Ok (b, 1)) (grouped b (any_groups k top s))
    go f true q = refl
    go f false q = same-grouped b (any_groups k top s) (any_groups k top (s ++ e)) f q

-- a code that is cut ends, with the bytes e added, past the old end
abbrev Past : List ℕ → Coded ℕ → Type 0
Past s (Ok (v, n)) = length s < n
Past s (Err j) = Unit

past-grouped : (b : ℕ) (s : List ℕ) (g h : Coded ℕ) → (Err BadData ≡ g → Past s h) → Err BadData ≡ grouped b g → Past (b ∷ s) (grouped b h)
past-grouped b s g (Err j) f p = tt
past-grouped b s (Err k) (Ok (v, n)) f p = omega (arith, f p)
past-grouped b s (Ok (w, m)) (Ok (v, n)) f p = clash cc

past : (e : List ℕ) (k top : ℕ) (s : List ℕ) → Err BadData ≡ any_groups k top s → Past s (any_groups k top (s ++ e))
unfolding any_groups
past e k top [] p = go (any_groups k top e) refl
  where
    go : (r : Coded ℕ) → r ≡ any_groups k top e → Past [] r
    go (Ok (v, n)) q = (any-group k top e q).some
    go (Err j) q = tt
past e zero top (b ∷ s) p = go (leb b top) p
  where
    go : (t : Bool) → Err BadData ≡ pick {A = Coded ℕ} t (Ok (b, 1)) (Err BadCode) → Past (b ∷ s) (pick (leb b top) (Ok (b, 1)) (Err BadCode))
    go true q = clash cc
    go false q = clash cc
past e (suc k) top (b ∷ s) p = go (past e k top s) (ltb b 128) p
  where
    go : (Err BadData ≡ any_groups k top s → Past s (any_groups k top (s ++ e))) → (t : Bool)
        → Err BadData ≡ pick t (Ok (b, 1)) (grouped b (any_groups k top s))
        → Past (b ∷ s) (pick t (Ok (b, 1)) (grouped b (any_groups k top (s ++ e))))
    go f true q = clash cc
    go f false q = past-grouped b s (any_groups k top s) (any_groups k top (s ++ e)) f q

pub any-past : (e : List ℕ) (k top : ℕ) (s : List ℕ) {v n : ℕ} → Err BadData ≡ any_groups k top s → Ok (v, n) ≡ any_groups k top (s ++ e) → length s < n
any-past e k top s p q = subst⁻¹ (Past s) q (past e k top s p)

-- a refusal is 7 or 9
abbrev SevenOrNine : Coded ℕ → Type 0
SevenOrNine (Ok (v, n)) = Unit
SevenOrNine (Err j) = (j ≡ BadCode) ⊎ (j ≡ BadData)

seven-or-nine : (k top : ℕ) (s : List ℕ) → SevenOrNine (any_groups k top s)
unfolding any_groups
seven-or-nine k top [] = inr refl
seven-or-nine zero top (b ∷ s) = pick-holds SevenOrNine (leb b top) (λ _. tt) (λ _. inl refl)
seven-or-nine (suc k) top (b ∷ s) = pick-holds SevenOrNine (ltb b 128) (λ _. tt) (λ _. go (any_groups k top s) (seven-or-nine k top s))
  where
    go : (g : Coded ℕ) → SevenOrNine g → SevenOrNine (grouped b g)
    go (Ok (v, n)) h = tt
    go (Err j) h = h

pub any-refused : (k top : ℕ) (s : List ℕ) {j : Refusal} → Err j ≡ any_groups k top s → (j ≡ BadCode) ⊎ (j ≡ BadData)
any-refused k top s e = subst⁻¹ SevenOrNine e (seven-or-nine k top s)
