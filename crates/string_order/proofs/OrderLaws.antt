-- Laws of the order of strings. Assumes nothing.
use mathlib.Core.Path.{◌≡◌, refl, sym, ◌∙◌, ap, ap₂}
use mathlib.Core.List.{List, [], ◌∷◌, ◌++◌}
use mathlib.Core.Bool.{Bool, true}
use Prim.Native.Nat.{ℕ, ◌+◌, ◌*◌, ◌-◌, ◌≤◌, ◌<◌}
use native.Mathlib.Omega.{arith}
use native.Mathlib.Numerals.{add-one}
use lib.ListN.{length, take, drop, get_or, take-append-drop, length-drop, drop_of_length-le}
use lib.Seq.{drop-cons, drop-drop, get_or-drop, length-take-le}
use lib.Dec.{ltb}
use borrow.Author.Tests.{lt-ltb, le-ltb}
use Rattle.base.specs.Pick.{pick}
use Rattle.base.specs.Equal.{equal}
use Rattle.base.proofs.Tests.{clash, by_order}
use Rattle.base.proofs.EqualLaws.{equal-true}
use Rattle.string_order.specs.Order.{ordering, and_then}
use Rattle.std.specs.declared.cmp.Ordering.{Ordering}
use Rattle.std.specs.declared.cmp.Ordering.TheVariants.{Less, Equal, Greater}

-- what two first bytes and the order of what follows come to
module _ (a b : ℕ) (o : Ordering) where
  first-less : a < b → pick (ltb a b) Less (pick (ltb b a) Greater o) ≡ Less
  first-less h = rw (lt-ltb a b h)

  first-greater : b < a → pick (ltb a b) Less (pick (ltb b a) Greater o) ≡ Greater
  first-greater h = rw (le-ltb a b (omega arith), lt-ltb b a h)

  first-equal : a ≡ b → pick (ltb a b) Less (pick (ltb b a) Greater o) ≡ o
  first-equal h = rw (le-ltb a b (omega arith), le-ltb b a (omega arith))

-- the first bytes of two strings and what follows, by cases
by_first : (a b : ℕ) (o : Ordering) (G : Ordering → Type 0) → (a < b → G Less) → (b < a → G Greater) → (a ≡ b → G o)
    → G (pick (ltb a b) Less (pick (ltb b a) Greater o))
by_first a b o G f g h =
    by_order a b
    (λ l. rw (first-less a b o l) (f l))
    (λ m. by_order b a (λ l. rw (first-greater a b o l) (g l)) (λ l. rw (first-equal a b o (omega arith)) (h (omega arith))))

pub ordering-refl : (a : List ℕ) → ordering a a ≡ Equal
unfolding ordering
ordering-refl [] = refl
ordering-refl (x ∷ a) = first-equal x x (ordering a a) refl ∙ ordering-refl a

pub equal-is-equality : (a b : List ℕ) → ordering a b ≡ Equal → a ≡ b
unfolding ordering
equal-is-equality [] [] e = refl
equal-is-equality [] (y ∷ b) e = clash cc
equal-is-equality (x ∷ a) [] e = clash cc
equal-is-equality (x ∷ a) (y ∷ b) e =
    by_first x y (ordering a b) (λ o. o ≡ Equal → x ∷ a ≡ y ∷ b) (λ l q. clash cc) (λ l q. clash cc)
    (λ h q. let r : a ≡ b = equal-is-equality a b q in cc) e

-- what is not less is greater the other way round
pub greater-less : (a b : List ℕ) → ordering a b ≡ Greater → ordering b a ≡ Less
unfolding ordering
greater-less [] [] e = clash cc
greater-less [] (y ∷ b) e = clash cc
greater-less (x ∷ a) [] e = refl
greater-less (x ∷ a) (y ∷ b) e =
    by_first x y (ordering a b) (λ o. o ≡ Greater → ordering (y ∷ b) (x ∷ a) ≡ Less) (λ l q. clash cc) (λ l q. first-less y x _ l)
    (λ h q. first-equal y x _ (sym h) ∙ greater-less a b q) e

pub less-trans : (a b c : List ℕ) → ordering a b ≡ Less → ordering b c ≡ Less → ordering a c ≡ Less
unfolding ordering
less-trans [] [] c e f = clash cc
less-trans [] (y ∷ b) [] e f = clash cc
less-trans [] (y ∷ b) (z ∷ c) e f = refl
less-trans (x ∷ a) [] c e f = clash cc
less-trans (x ∷ a) (y ∷ b) [] e f = clash cc
less-trans (x ∷ a) (y ∷ b) (z ∷ c) e f =
    by_first x y (ordering a b) (λ o. o ≡ Less → ordering (x ∷ a) (z ∷ c) ≡ Less)
    (λ l q. by_first y z (ordering b c) (λ o. o ≡ Less → ordering (x ∷ a) (z ∷ c) ≡ Less)
    (λ m r. first-less x z _ (omega arith)) (λ m r. clash cc) (λ h r. first-less x z _ (omega arith)) f)
    (λ l q. clash cc)
    (λ g q. by_first y z (ordering b c) (λ o. o ≡ Less → ordering (x ∷ a) (z ∷ c) ≡ Less)
    (λ m r. first-less x z _ (omega arith)) (λ m r. clash cc) (λ h r. first-equal x z _ (omega arith) ∙ less-trans a b c q r) f)
    e

-- two parts of one length decide, or what follows them
ordering-append : (u v s t : List ℕ) → length u ≡ length v → ordering (u ++ s) (v ++ t) ≡ and_then (ordering u v) (ordering s t)
unfolding ordering
ordering-append [] [] s t h = refl
ordering-append [] (y ∷ v) s t h = absurd (omega arith)
ordering-append (x ∷ u) [] s t h = absurd (omega arith)
ordering-append (x ∷ u) (y ∷ v) s t h =
    by_first x y (ordering u v) (λ o. ordering (x ∷ u ++ s) (y ∷ v ++ t) ≡ and_then o (ordering s t)) (λ l. first-less x y _ l) (λ l. first-greater x y _ l)
    (λ e. first-equal x y _ e ∙ ordering-append u v s t (omega arith))

-- the order from the place i on, by that of the bytes up to e
module _ (a b : List ℕ) (i e : ℕ) (f : i ≤ e) (h : e ≤ length a) (l : e ≤ length b) where
  pub ordering-part : (o : Ordering) → ordering (take (e - i) (drop i a)) (take (e - i) (drop i b)) ≡ o
      → and_then o (ordering (drop e a) (drop e b)) ≡ ordering (drop i a) (drop i b)
  ordering-part o q =
      let m = length-take-le (e - i) (drop i a) (rw length-drop (omega arith)) in
      let n = length-take-le (e - i) (drop i b) (rw length-drop (omega arith)) in
      ap (λ (r : Ordering). and_then r (ordering (drop e a) (drop e b))) (sym q)
      ∙ sym (ordering-append (take (e - i) (drop i a)) (take (e - i) (drop i b)) (drop e a) (drop e b) (m ∙ sym n))
      ∙ ap₂ ordering (split a) (split b)
    where
      split : (s : List ℕ) → take (e - i) (drop i s) ++ drop e s ≡ drop i s
      split s =
          let z : i + (e - i) ≡ e = omega arith in
          ap (λ (r : List ℕ). take (e - i) (drop i s) ++ r) (sym (drop-drop (e - i) i s ∙ ap (λ (j : ℕ). drop j s) z))
          ∙ take-append-drop (e - i) (drop i s)

  pub part-equal : (r : Bool) → r ≡ equal (take (e - i) (drop i a)) (take (e - i) (drop i b)) → r ≡ true
      → ordering (drop e a) (drop e b) ≡ ordering (drop i a) (drop i b)
  part-equal r q t =
      let z = equal-true (take (e - i) (drop i a)) (take (e - i) (drop i b)) (sym q ∙ t) in
      ordering-part Equal (ap (ordering (take (e - i) (drop i a))) (sym z) ∙ ordering-refl (take (e - i) (drop i a)))

-- the next four bytes
next-four : (s : List ℕ) (i : ℕ) → i + 4 ≤ length s
    → take (i + 4 - i) (drop i s) ≡ get_or s i 0 ∷ get_or s (i + 1) 0 ∷ get_or s (i + 2) 0 ∷ get_or s (i + 3) 0 ∷ []
next-four s i h =
    let z : i + 4 - i ≡ 4 = omega arith in
    let z₀ : i + 0 ≡ i = omega arith in
    ap (λ (n : ℕ). take n (drop i s)) z
    ∙ go (drop i s) (rw length-drop (omega arith))
    ∙ rw (get_or-drop i s 0 0, get_or-drop i s 1 0, get_or-drop i s 2 0, get_or-drop i s 3 0, z₀)
  where
    go : (r : List ℕ) → 4 ≤ length r → take 4 r ≡ get_or r 0 0 ∷ get_or r 1 0 ∷ get_or r 2 0 ∷ get_or r 3 0 ∷ []
    go [] k = absurd (omega arith)
    go (a ∷ []) k = absurd (omega arith)
    go (a ∷ b ∷ []) k = absurd (omega arith)
    go (a ∷ b ∷ c ∷ []) k = absurd (omega arith)
    go (a ∷ b ∷ c ∷ d ∷ r) k = refl

module _ (a b : List ℕ) (i : ℕ) (h : i + 4 ≤ length a) (l : i + 4 ≤ length b) (o : Ordering)
    (q : o ≡ ordering (get_or a i 0 ∷ get_or a (i + 1) 0 ∷ get_or a (i + 2) 0 ∷ get_or a (i + 3) 0 ∷ [])
    (get_or b i 0 ∷ get_or b (i + 1) 0 ∷ get_or b (i + 2) 0 ∷ get_or b (i + 3) 0 ∷ [])) where
  pub four-decide : (p : Ordering) → o ≡ p → and_then p (ordering (drop (i + 4) a) (drop (i + 4) b)) ≡ ordering (drop i a) (drop i b)
  four-decide p e = ordering-part a b i (i + 4) (omega arith) h l p (ap₂ ordering (next-four a i h) (next-four b i l) ∙ sym q ∙ e)

-- the order of four bytes is that of the numbers that they are
module _ (a b c d p q r s : ℕ) (lb : b < 256) (lc : c < 256) (ld : d < 256) (lq : q < 256) (lr : r < 256) (ls : s < 256) where
  abbrev x : ℕ
  x = a * 16777216 + b * 65536 + c * 256 + d

  abbrev y : ℕ
  y = p * 16777216 + q * 65536 + r * 256 + s

  pub four-less : x < y → Less ≡ ordering (a ∷ b ∷ c ∷ d ∷ []) (p ∷ q ∷ r ∷ s ∷ [])
  unfolding ordering
  four-less h =
      by_first a p _ (λ o. Less ≡ o) (λ l. refl) (λ l. absurd (omega arith))
      (λ e. by_first b q _ (λ o. Less ≡ o) (λ l. refl) (λ l. absurd (omega arith))
      (λ f. by_first c r _ (λ o. Less ≡ o) (λ l. refl) (λ l. absurd (omega arith))
      (λ g. by_first d s _ (λ o. Less ≡ o) (λ l. refl) (λ l. absurd (omega arith)) (λ k. absurd (omega arith)))))

  pub four-greater : y < x → Greater ≡ ordering (a ∷ b ∷ c ∷ d ∷ []) (p ∷ q ∷ r ∷ s ∷ [])
  unfolding ordering
  four-greater h =
      by_first a p _ (λ o. Greater ≡ o) (λ l. absurd (omega arith)) (λ l. refl)
      (λ e. by_first b q _ (λ o. Greater ≡ o) (λ l. absurd (omega arith)) (λ l. refl)
      (λ f. by_first c r _ (λ o. Greater ≡ o) (λ l. absurd (omega arith)) (λ l. refl)
      (λ g. by_first d s _ (λ o. Greater ≡ o) (λ l. absurd (omega arith)) (λ l. refl) (λ k. absurd (omega arith)))))

  pub four-equal : x ≡ y → Equal ≡ ordering (a ∷ b ∷ c ∷ d ∷ []) (p ∷ q ∷ r ∷ s ∷ [])
  unfolding ordering
  four-equal h =
      by_first a p _ (λ o. Equal ≡ o) (λ l. absurd (omega arith)) (λ l. absurd (omega arith))
      (λ e. by_first b q _ (λ o. Equal ≡ o) (λ l. absurd (omega arith)) (λ l. absurd (omega arith))
      (λ f. by_first c r _ (λ o. Equal ≡ o) (λ l. absurd (omega arith)) (λ l. absurd (omega arith))
      (λ g. by_first d s _ (λ o. Equal ≡ o) (λ l. absurd (omega arith)) (λ l. absurd (omega arith)) (λ k. refl))))

-- a byte at a time
module _ (a b : List ℕ) (i : ℕ) where
  module _ (h : i < length a) (l : i < length b) where
    byte_at : ordering (drop i a) (drop i b)
        ≡ pick (ltb (get_or a i 0) (get_or b i 0)) Less (pick (ltb (get_or b i 0) (get_or a i 0)) Greater (ordering (drop (i + 1) a) (drop (i + 1) b)))
    unfolding ordering
    byte_at = rw (drop-cons a i 0 h, drop-cons b i 0 l, add-one i)

    pub byte-less : get_or a i 0 < get_or b i 0 → Less ≡ ordering (drop i a) (drop i b)
    byte-less m = sym (byte_at ∙ first-less (get_or a i 0) (get_or b i 0) _ m)

    pub byte-greater : get_or b i 0 < get_or a i 0 → Greater ≡ ordering (drop i a) (drop i b)
    byte-greater m = sym (byte_at ∙ first-greater (get_or a i 0) (get_or b i 0) _ m)

    pub byte-equal : get_or a i 0 ≡ get_or b i 0 → ordering (drop (i + 1) a) (drop (i + 1) b) ≡ ordering (drop i a) (drop i b)
    byte-equal m = sym (byte_at ∙ first-equal (get_or a i 0) (get_or b i 0) _ m)

  pub ends-less : length a ≤ i → i < length b → Less ≡ ordering (drop i a) (drop i b)
  unfolding ordering
  ends-less h l = rw (drop_of_length-le a h, drop-cons b i 0 l)

  pub ends-greater : i < length a → length b ≤ i → Greater ≡ ordering (drop i a) (drop i b)
  unfolding ordering
  ends-greater h l = rw (drop-cons a i 0 h, drop_of_length-le b l)

  pub ends-equal : length a ≤ i → length b ≤ i → Equal ≡ ordering (drop i a) (drop i b)
  unfolding ordering
  ends-equal h l = rw (drop_of_length-le a h, drop_of_length-le b l)
