-- What more bytes do to the walk of any job: what it has settled stays, and what it waits for comes past the old end. Nothing here looks
-- into a field. Assumes nothing.
use Rattle.base.specs.declared.Refusal.{Refusal}
use mathlib.Core.Path.{◌≡◌, refl, ap, sym, ◌∙◌}
use mathlib.Core.Bool.{Bool, true, false}
use mathlib.Core.List.{List, ◌++◌}
use Prim.Native.Nat.{ℕ, ◌≤◌, ◌<◌}
use native.Mathlib.Omega.{arith}
use lib.ListN.{length, take, drop, take-append-drop}
use lib.Seq.{length-take-le}
use Rattle.base.specs.Run.{Step, stop, next, follow}
use Rattle.base.proofs.Tests.{never, clash}
use Rattle.frames.specs.Frame.{Field}
use Rattle.frames.specs.Machine.{Out, found, refused, final, Content, Job, onward, walk}
use Rattle.frames.specs.Fields.{Ending, refused_at, cut_at, end_at, Listing, listing, pass, outcome, over}
use Rattle.base.specs.All.{All}
use Rattle.base.proofs.AllLaws.{all_map}
use Rattle.frames.proofs.FieldLaws.{Spans, StopsTo, listing-spans, settled, Grows, listing-grows}
use Rattle.frames.proofs.PassLaws.{pass-append, pass-found, pass-refused, pass-final}
use Rattle.frames.proofs.WalkLaws.{walk-pass}

-- a pass over fields, then their ending
module _ {M A : Type 0} (c : M → Field → Content M A) (m : M) where
  outcome-final : (x : Ending) (m' : M) → final (outcome {A = A} x m') ≡ settled x
  outcome-final (refused_at n p) m' = refl
  outcome-final (cut_at p) m' = refl
  outcome-final (end_at p) m' = refl

  -- where it is not final, it keeps every field and the ending waits
  over-waits : (l : Listing) → final (over c m l) ≡ false → (m' : M) × (pass c m l.fields ≡ next m') × (settled l.ending ≡ false)
  over-waits l = go (pass c m l.fields) refl
    where
      go : (s : Step M (Out M A)) → pass c m l.fields ≡ s → final (follow s (outcome l.ending)) ≡ false
          → (m' : M) × (pass c m l.fields ≡ next m') × (settled l.ending ≡ false)
      go (stop o) e h = never (pass-final c m l.fields o e) h
      go (next m') e h = (m', e, sym (outcome-final l.ending m') ∙ h)

  over-found : (Q : ℕ → Type 0) (l : Listing) (v : A) (p : ℕ) → All (λ g. Q g.past) l.fields → over c m l ≡ found v p → Q p
  over-found Q l v p a = go (pass c m l.fields) refl
    where
      no : (x : Ending) (m' : M) → outcome x m' ≡ found v p → Q p
      no (refused_at n q) m' h = clash cc
      no (cut_at q) m' h = clash cc
      no (end_at q) m' h = clash cc

      go : (s : Step M (Out M A)) → pass c m l.fields ≡ s → follow s (outcome l.ending) ≡ found v p → Q p
      go (stop o) e h = pass-found c Q m l.fields v p a (e ∙ ap stop h)
      go (next m') e h = no l.ending m' h

  over-refused : (b : ℕ) (l : Listing) (n : Refusal) (p : ℕ) → Spans 0 b l → over c m l ≡ refused n p → p < b
  over-refused b l n p s = go (pass c m l.fields) refl
    where
      no : (x : Ending) (m' : M) → StopsTo 0 b x → outcome {A = A} x m' ≡ refused n p → p < b
      no (refused_at k q) m' t h = let z : q ≡ p = cc in omega (arith, t.1)
      no (cut_at q) m' t h = clash cc
      no (end_at q) m' t h = clash cc

      go : (x : Step M (Out M A)) → pass c m l.fields ≡ x → follow x (outcome l.ending) ≡ refused n p → p < b
      go (stop o) e h = pass-refused c (λ q. q < b) m l.fields n p (all_map (λ g k. omega arith) s.inside) (e ∙ ap stop h)
      go (next m') e h = no l.ending m' s.stops h

  -- over the listing x, and over y, what it grows to
  module _ (b : ℕ) (x y : Listing) (g : Grows b x y) where
    grown : over c m y ≡ follow (onward (pass c m x.fields) (λ m'. pass c m' g.more.fields)) (outcome g.more.ending)
    grown = rw (g.joined, g.ends, pass-append)

    over-stable : final (over c m x) ≡ true → over c m y ≡ over c m x
    unfolding pass
    over-stable = rw grown (go (pass c m x.fields))
      where
        go : (s : Step M (Out M A)) → final (follow s (outcome x.ending)) ≡ true
            → follow (onward s (λ m'. pass c m' g.more.fields)) (outcome g.more.ending) ≡ follow s (outcome x.ending)
        go (stop o) h = refl
        go (next m') h = rw (g.same (sym (outcome-final x.ending m') ∙ h))

over-later : {M A : Type 0} (c : M → Field → Content M A) (m : M) (b : ℕ) (x y : Listing) → Grows b x y → (v : A) (p : ℕ)
    → final (over c m x) ≡ false → over c m y ≡ found v p → b < p
over-later c m b x y g v p h k =
    let w = over-waits c m x h in
    over-found c w.0 (λ q. b < q) g.more v p (g.later w.2).past (sym (grown c m b x y g ∙ rw w.1) ∙ k)

module _ {M A : Type 0} (J : Job M A) where
  -- STANDING: what a walk has settled stays, whatever is added
  pub walk-stable : (m : M) (bs e : List ℕ) → final (walk J m bs) ≡ true → walk J m (bs ++ e) ≡ walk J m bs
  walk-stable m bs e = rw (walk-pass J m bs, walk-pass J m (bs ++ e)) (over-stable J.content m _ _ _ (listing-grows J.last bs e))

  -- an answer's field is all there
  pub walk-found : (m : M) (bs : List ℕ) (v : A) (p : ℕ) → walk J m bs ≡ found v p → p ≤ length bs
  walk-found m bs v p h =
      over-found J.content m (λ q. q ≤ length bs) (listing J.last bs) v p
      (all_map (λ g k. k.within) (listing-spans J.last bs).inside)
      (sym (walk-pass J m bs) ∙ h)

  -- an answer that comes only with bytes added is that of a field that ends among those
  pub walk-later : (m : M) (bs e : List ℕ) (v : A) (p : ℕ) → final (walk J m bs) ≡ false → walk J m (bs ++ e) ≡ found v p → length bs < p
  walk-later m bs e v p f h =
      over-later J.content m _ _ _ (listing-grows J.last bs e) v p
      (ap final (sym (walk-pass J m bs)) ∙ f)
      (sym (walk-pass J m (bs ++ e)) ∙ h)

  -- a refusal's place is one of the bytes
  pub walk_refused : (m : M) (bs : List ℕ) (n : Refusal) (p : ℕ) → walk J m bs ≡ refused n p → p < length bs
  walk_refused m bs n p h = over-refused J.content m _ _ n p (listing-spans J.last bs) (sym (walk-pass J m bs) ∙ h)

  -- a walk that waits keeps every field, and waits for their ending
  pub walk-waits : (m : M) (bs : List ℕ) → final (walk J m bs) ≡ false → settled (listing J.last bs).ending ≡ false
  walk-waits m bs h = (over-waits J.content m (listing J.last bs) (ap final (sym (walk-pass J m bs)) ∙ h)).2

  -- the first k bytes of a file that answers from a field ending at p: they wait exactly where k is before p
  pub record Exactly (m : M) (f : List ℕ) (p k : ℕ) : Type 0 where
    pub before : k < p → final (walk J m (take k f)) ≡ false
    pub from_then : p ≤ k → walk J m (take k f) ≡ walk J m f

  pub exactly : (m : M) (f : List ℕ) (v : A) (p k : ℕ) → walk J m f ≡ found v p → k ≤ length f → Exactly m f p k
  exactly m f v p k h l = go (final (walk J m (take k f))) refl
    where
      len : length (take k f) ≡ k
      len = length-take-le k f l

      all : walk J m (take k f ++ drop k f) ≡ found v p
      all = rw take-append-drop h

      go : (t : Bool) → final (walk J m (take k f)) ≡ t → Exactly m f p k
      go true e =
          let same : walk J m (take k f) ≡ found v p = sym (walk-stable m (take k f) (drop k f) e) ∙ all in
          let in-k : p ≤ k = omega (arith, len, walk-found m (take k f) v p same) in
          record { before = λ b. absurd (omega arith); from_then = λ b. rw (same, h) }
      go false e =
          let past : k < p = omega (arith, len, walk-later m (take k f) (drop k f) v p e all) in
          record { before = λ b. e; from_then = λ b. absurd (omega arith) }
