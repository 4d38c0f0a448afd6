-- TWO JOBS SIDE BY SIDE, over two files whose fields go together one by one: where what they make of two such fields is the same as far as what they
-- remember and answer is related, so is what they come to, places aside. Assumes nothing.
use Rattle.base.specs.declared.Refusal.{Refusal}
use mathlib.Core.Path.{◌≡◌, refl, ap, subst, subst⁻¹, sym}
use mathlib.Core.Bool.{Bool, true, false}
use mathlib.Core.List.{List, [], ◌∷◌}
use mathlib.Core.Option.{Option, none, some}
use Prim.Native.Nat.{ℕ, ◌≤◌}
use native.Mathlib.Omega.{arith}
use lib.ListN.{length}
use lib.Dec.{ltb}
use borrow.Author.Tests.{ltb-false, le-ltb}
use Rattle.base.specs.Pick.{pick}
use Rattle.base.specs.Run.{Step, stop, next, follow}
use Rattle.frames.specs.Frame.{Field}
use Rattle.frames.specs.Machine.{Out, found, refused, cut, ended, Content, bad, answer, keep, Job, verdict, onward, walk}
use Rattle.frames.specs.Fields.{end_at, listing, fields, pass, outcome, up_to, first_above}
use Rattle.frames.proofs.CapLaws.{stop_at}
use Rattle.frames.proofs.PartLaws.{walk-fields}

-- two lists whose elements go together one by one
pub data Pairs {A B : Type 0} (R : A → B → Type 0) : List A → List B → Type 0 where
  no-pair : Pairs R [] []
  and-pair : {x : A} {y : B} {xs : List A} {ys : List B} → R x y → Pairs R xs ys → Pairs R (x ∷ xs) (y ∷ ys)

module _ {M N A B : Type 0} (R : M → N → Type 0) (Q : A → B → Type 0) where
  pub data SameContent : Content M A → Content N B → Type 0 where
    both-bad : {n : Refusal} → SameContent (bad n) (bad n)
    both-answer : {v : A} {w : B} → Q v w → SameContent (answer v) (answer w)
    both-keep : {m : M} {n : N} → R m n → SameContent (keep m) (keep n)

  pub data SameOut : Out M A → Out N B → Type 0 where
    both_found : {v : A} {w : B} {p q : ℕ} → Q v w → SameOut (found v p) (found w q)
    both-refused : {n : Refusal} {p q : ℕ} → SameOut (refused n p) (refused n q)
    both-cut : {p q : ℕ} → SameOut (cut p) (cut q)
    both-ended : {m : M} {n : N} {p q : ℕ} → R m n → SameOut (ended m p) (ended n q)

  pub data SameStep : Step M (Out M A) → Step N (Out N B) → Type 0 where
    both-stop : {o : Out M A} {u : Out N B} → SameOut o u → SameStep (stop o) (stop u)
    both-next : {m : M} {n : N} → R m n → SameStep (next m) (next n)

  module _ (F : Field → Field → Type 0) (c : M → Field → Content M A) (d : N → Field → Content N B)
      (each : (m : M) (n : N) (g h : Field) → F g h → R m n → SameContent (c m g) (d n h)) where
    pub pass-beside : (gs hs : List Field) (m : M) (n : N) → Pairs F gs hs → R m n → SameStep (pass c m gs) (pass d n hs)
    unfolding pass
    pass-beside gs hs m n no-pair r = both-next r
    pass-beside gs hs m n (and-pair {x = g} {y = h} {xs = xs} {ys = ys} p ps) r =
        go (c m g) (d n h) (each m n g h p r) (λ m' n' r'. pass-beside xs ys m' n' ps r')
      where
        go : (x : Content M A) (y : Content N B) → SameContent x y → ((m' : M) (n' : N) → R m' n' → SameStep (pass c m' xs) (pass d n' ys))
            → SameStep (onward (verdict g x) (λ m'. pass c m' xs)) (onward (verdict h y) (λ n'. pass d n' ys))
        go x y both-bad rec = both-stop both-refused
        go x y (both-answer q) rec = both-stop (both_found q)
        go x y (both-keep {m = m'} {n = n'} s) rec = rec m' n' s

-- the fields up to an ID, and the first above it
data SamePlace : Option ℕ → Option ℕ → Type 0 where
  neither : SamePlace none none
  each-one : {p q : ℕ} → SamePlace (some p) (some q)

module _ (F : Field → Field → Type 0) (ids : (g h : Field) → F g h → h.id ≡ g.id) (last : ℕ) where
  abbrev UpTo : Field → Field → Type 0
  UpTo g h = F g h × (g.id ≤ last)

  up_to-pairs : (gs hs : List Field) → Pairs F gs hs → Pairs UpTo (up_to last gs) (up_to last hs)
  unfolding up_to
  up_to-pairs gs hs no-pair = no-pair
  up_to-pairs gs hs (and-pair {x = g} {y = h} {xs = xs} {ys = ys} p ps) =
      subst⁻¹ (λ (t : Bool). Pairs UpTo (pick (ltb last g.id) [] (g ∷ up_to last xs)) (pick t [] (h ∷ up_to last ys))) (ap (ltb last) (ids g h p))
      (go (ltb last g.id) refl (up_to-pairs xs ys ps))
    where
      go : (t : Bool) → ltb last g.id ≡ t → Pairs UpTo (up_to last xs) (up_to last ys)
          → Pairs UpTo (pick t [] (g ∷ up_to last xs)) (pick t [] (h ∷ up_to last ys))
      go true e rec = no-pair
      go false e rec = and-pair (p, ltb-false last g.id e) rec

  above-pairs : (gs hs : List Field) → Pairs F gs hs → SamePlace (first_above last gs) (first_above last hs)
  unfolding first_above
  above-pairs gs hs no-pair = neither
  above-pairs gs hs (and-pair {x = g} {y = h} {xs = xs} {ys = ys} p ps) =
      subst⁻¹ (λ (t : Bool). SamePlace (pick (ltb last g.id) (some g.place) (first_above last xs))
      (pick t (some h.place) (first_above last ys)))
      (ap (ltb last) (ids g h p)) (go (ltb last g.id) (above-pairs xs ys ps))
    where
      go : (t : Bool) → SamePlace (first_above last xs) (first_above last ys)
          → SamePlace (pick t (some g.place) (first_above last xs)) (pick t (some h.place) (first_above last ys))
      go true rec = each-one
      go false rec = rec

-- the files f and h: fields to the bytes' end, the first of ID 0, and the others go together
pub record Beside (F : Field → Field → Type 0) (f h : List ℕ) : Type 0 where
  pub whole : (listing 255 f).ending ≡ end_at (length f)
  pub whole' : (listing 255 h).ending ≡ end_at (length h)
  pub first : Field
  pub first' : Field
  pub others : List Field
  pub others' : List Field
  pub splits : fields f ≡ first ∷ others
  pub splits' : fields h ≡ first' ∷ others'
  pub is-first : first.id ≡ 0
  pub is-first' : first'.id ≡ 0
  pub ids : (g k : Field) → F g k → k.id ≡ g.id
  pub pairs : Pairs F others others'

module _ {M N A B : Type 0} (R : M → N → Type 0) (Q : A → B → Type 0) (F : Field → Field → Type 0) (f h : List ℕ) (b : Beside F f h)
    (J : Job M A) (K : Job N B) (alike : K.last ≡ J.last)
    (each : (m : M) (n : N) (g k : Field) → F g k → g.id ≤ J.last → R m n → SameContent R Q (J.content m g) (K.content n k)) where
  -- what ends a walk over all fields
  outcome-beside : (x y : Option ℕ) (m : M) (n : N) → SamePlace x y → R m n
      → SameOut R Q (outcome (stop_at x (end_at (length f))) m) (outcome (stop_at y (end_at (length h))) n)
  outcome-beside x y m n neither r = both-ended r
  outcome-beside x y m n each-one r = both-refused

  follow-beside : (s : Step M (Out M A)) (t : Step N (Out N B)) (x y : Option ℕ) → SameStep R Q s t → SamePlace x y
      → SameOut R Q (follow s (outcome (stop_at x (end_at (length f))))) (follow t (outcome (stop_at y (end_at (length h)))))
  follow-beside s t x y (both-stop o) p = o
  follow-beside s t x y (both-next {m = m} {n = n} r) p = outcome-beside x y m n p r

  -- the first field is kept by both, and what is remembered of it goes together
  pub walk-beside : (m m' : M) (n n' : N) → J.content m b.first ≡ keep m' → K.content n b.first' ≡ keep n' → R m' n'
      → SameOut R Q (walk J m f) (walk K n h)
  unfolding pass up_to first_above
  walk-beside m m' n n' e e' r =
      let l = J.last in
      let low : ltb l b.first.id ≡ false = rw b.is-first (le-ltb l 0 (omega arith)) in
      let low' : ltb l b.first'.id ≡ false = rw b.is-first' (le-ltb l 0 (omega arith)) in
      let p = pass-beside R Q (λ g k. F g k × (g.id ≤ l)) J.content K.content (λ m n g k u. each m n g k u.0 u.1) _ _ m' n'
      (up_to-pairs F b.ids l b.others b.others' b.pairs) r in
      rw (walk-fields J m f (length f) b.whole, walk-fields K n h (length h) b.whole', b.splits, b.splits', alike, low, low', e, e')
      (subst (λ (k : ℕ). SameOut R Q (follow (pass J.content m' (up_to l b.others)) (outcome (stop_at (first_above l b.others) (end_at (length f))))) (follow (pass K.content n' (up_to k b.others')) (outcome (stop_at (first_above k b.others') (end_at (length h))))))
      (sym alike) (follow-beside _ _ _ _ p (above-pairs F b.ids l b.others b.others' b.pairs)))
