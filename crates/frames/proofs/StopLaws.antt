-- A job that stops at a field, with an answer or a refusal: the first bytes of the file wait exactly while that field isn't all there.
-- Assumes nothing.
use mathlib.Core.Path.{◌≡◌, refl, ap, sym, ◌∙◌}
use mathlib.Core.Bool.{Bool, true, false}
use mathlib.Core.List.{List, [], ◌∷◌, ◌++◌}
use Prim.Native.Nat.{ℕ, ◌≤◌, ◌<◌}
use native.Mathlib.Omega.{arith}
use lib.ListN.{length, take, drop, take-append-drop}
use lib.Seq.{length-take-le}
use Rattle.base.specs.Run.{stop, next}
use Rattle.base.proofs.Tests.{never, clash}
use Rattle.base.specs.All.{All}
use Rattle.base.proofs.AllLaws.{all_map, all_head, all_tail, all_right}
use Rattle.frames.specs.Frame.{Field}
use Rattle.frames.specs.Machine.{Out, ended, final, keep, Job, verdict, walk}
use Rattle.frames.specs.Fields.{Ending, refused_at, cut_at, end_at, Listing, listing, fields, pass, outcome, up_to}
use Rattle.frames.proofs.FieldLaws.{settled, Grows, listing-spans, listing-grows}
use Rattle.frames.proofs.PassLaws.{pass-append, pass-first, pass-head, pass-final, lockstep}
use Rattle.frames.proofs.WalkLaws.{walk-pass}
use Rattle.frames.proofs.GrowthLaws.{walk-stable, walk-waits, Exactly}
use Rattle.frames.proofs.PartLaws.{up_to-split, walk-ended}
use Rattle.frames.proofs.CapLaws.{listing-capped}
use Rattle.frames.proofs.ChainLaws.{Chain, chain-split, listing-chain}

same-cons : {x y : Field} {xs ys : List Field} → x ≡ y → xs ≡ ys → x ∷ xs ≡ y ∷ ys
same-cons e h = cc

-- one list of fields cut in two ways, at a place b and around the field g
module _ (b : ℕ) (g : Field) (hs : List Field) where
  -- what lies before b lies before g, which ends behind b
  ends-behind : (xs ys gs : List Field) → xs ++ ys ≡ gs ++ g ∷ hs → All (λ h. h.past ≤ b) xs → b < g.past
      → (us : List Field) × (gs ≡ xs ++ us) × (ys ≡ us ++ g ∷ hs)
  ends-behind [] ys gs e a l = (gs, refl, e)
  ends-behind (x ∷ xs) ys [] e a l =
      let i : x ≡ g = cc in
      absurd (omega (arith, rw i at (all_head a)))
  ends-behind (x ∷ xs) ys (y ∷ gs) e a l =
      let i : x ≡ y = cc in
      let t : xs ++ ys ≡ gs ++ g ∷ hs = cc in
      let r = ends-behind xs ys gs t (all_tail a) l in
      (r.0, same-cons (sym i) r.1, r.2)

  -- a field that ends before b is none of those that end behind it
  ends-before : (xs ys gs : List Field) → xs ++ ys ≡ gs ++ g ∷ hs → All (λ h. b < h.past) ys → g.past ≤ b
      → (vs : List Field) × (xs ≡ gs ++ g ∷ vs)
  ends-before [] ys gs e a l = absurd (omega (arith, all_head (all_right gs (g ∷ hs) (rw e at a))))
  ends-before (x ∷ xs) ys [] e a l = let i : x ≡ g = cc in (xs, rw i)
  ends-before (x ∷ xs) ys (y ∷ gs) e a l =
      let i : x ≡ y = cc in
      let t : xs ++ ys ≡ gs ++ g ∷ hs = cc in
      let r = ends-before xs ys gs t a l in
      (r.0, same-cons i r.1)

no-more : (us : List Field) (g : Field) (hs : List Field) {G : Type 0} → [] ≡ us ++ g ∷ hs → G
no-more [] g hs e = clash cc
no-more (u ∷ us) g hs e = clash cc

outcome-final : {M : Type 0} (A : Type 0) (x : Ending) (m : M) → final (outcome {A = A} x m) ≡ settled x
outcome-final A (refused_at n p) m = refl
outcome-final A (cut_at p) m = refl
outcome-final A (end_at p) m = refl

module _ {M A : Type 0} (J : Job M A) (m : M) (f : List ℕ) (p : ℕ) (whole : (listing 255 f).ending ≡ end_at p) where
  pub record StopsAt (g : Field) (o : Out M A) (k : ℕ) : Type 0 where
    pub given : walk J m f ≡ o
    pub exactly : Exactly J m f g.past k

  module _ (gs : List Field) (g : Field) (hs : List Field) (m' : M) (o : Out M A) (splits : fields f ≡ gs ++ g ∷ hs) (low : g.id ≤ J.last)
      (kept : pass J.content m gs ≡ next m') (stops : verdict g (J.content m' g) ≡ stop o) where
    -- over any fields that begin so
    stopped : (vs : List Field) → pass J.content m (gs ++ g ∷ vs) ≡ stop o
    unfolding pass
    stopped vs = pass-append J.content m gs (g ∷ vs) ∙ rw (kept, stops)

    capped : (listing J.last f).fields ≡ gs ++ g ∷ up_to J.last hs
    capped =
        let c : Chain f false 0 4 (gs ++ g ∷ hs) = rw splits at (listing-chain f 255) in
        (listing-capped J.last 255 f p whole).fewer
        ∙ rw splits (up_to-split J.last gs g hs (all_map (λ h d. omega (arith, d.rising)) (chain-split f false 0 4 gs g hs c)) low)

    pub walk-stops : walk J m f ≡ o
    walk-stops = walk-pass J m f ∙ rw (capped, stopped (up_to J.last hs))

    pub stops_at : (k : ℕ) → k ≤ length f → StopsAt g o k
    stops_at k l = record { given = walk-stops; exactly = record { before = before; from_then = from_then (final (walk J m (take k f))) refl } }
      where
        len : length (take k f) ≡ k
        len = length-take-le k f l

        part : List Field
        part = (listing J.last (take k f)).fields

        grows : Grows k (listing J.last (take k f)) (listing J.last f)
        grows = rw (len, take-append-drop) at (listing-grows J.last (take k f) (drop k f))

        joined : part ++ grows.more.fields ≡ gs ++ g ∷ up_to J.last hs
        joined = sym grows.joined ∙ capped

        inside : All (λ h. h.past ≤ k) part
        inside = all_map (λ h s. omega (arith, len, s.within)) (listing-spans J.last (take k f)).inside

        before : k < g.past → final (walk J m (take k f)) ≡ false
        before b =
            let w = ends-behind k g (up_to J.last hs) part grows.more.fields gs joined inside b in
            let q = pass-first J.content m m' part w.0 (rw w.1 at kept) in
            rw (walk-pass J m (take k f), q.1)
            (outcome-final A (listing J.last (take k f)).ending q.0 ∙ go (settled (listing J.last (take k f)).ending) refl w.0 w.2)
          where
            go : (t : Bool) → settled (listing J.last (take k f)).ending ≡ t → (us : List Field) → grows.more.fields ≡ us ++ g ∷ up_to J.last hs → t ≡ false
            go false e us i = refl
            go true e us i = no-more us g (up_to J.last hs) (sym (ap (λ (x : Listing). x.fields) (grows.same e)) ∙ i)

        from_then : (t : Bool) → final (walk J m (take k f)) ≡ t → g.past ≤ k → walk J m (take k f) ≡ walk J m f
        from_then true e b = sym (walk-stable J m (take k f) (drop k f) e) ∙ rw take-append-drop
        from_then false e b =
            let late = (grows.later (walk-waits J m (take k f) e)).past in
            let w = ends-before k g (up_to J.last hs) part grows.more.fields gs joined late b in
            let s : pass J.content m part ≡ stop o = rw w.1 (stopped w.0) in
            let i : walk J m (take k f) ≡ o = walk-pass J m (take k f) ∙ rw s in
            never (pass-final J.content m part o s) (ap final (sym i) ∙ e)

-- BESIDE A CHECK, as in PartLaws: where P is known of the fields before one at which J stops
module _ {C M A B : Type 0} (jc : Job C B) (J : Job M A) (R : C → M → Type 0) (P : Field → Type 0)
    (keeps : (x x' : C) (y : M) (g : Field) → P g → R x y → jc.content x g ≡ keep x' → (y' : M) × (J.content y g ≡ keep y') × R x' y')
    (every : jc.last ≡ 255) (c c' : C) (m : M) (f : List ℕ) (p : ℕ) (through : walk jc c f ≡ ended c' p) (r : R c m) where
  pub stop-beside : (gs : List Field) (g : Field) (hs : List Field) → fields f ≡ gs ++ g ∷ hs → All P gs → g.id ≤ J.last
      → ((x x' : C) (y : M) → R x y → jc.content x g ≡ keep x' → (o : Out M A) × (verdict g (J.content y g) ≡ stop o))
      → (k : ℕ) → k ≤ length f → (whole : (listing 255 f).ending ≡ end_at p) × (o : Out M A) × StopsAt J m f p whole g o k
  stop-beside gs g hs e a l stops k h =
      let t = walk-ended jc c c' f p through in
      let w : (listing 255 f).ending ≡ end_at p = rw every at t.whole in
      let q = pass-first jc.content c c' gs (g ∷ hs) (rw (every, e) at t.kept) in
      let u = lockstep R P jc.content J.content keeps gs c q.0 m a r q.1 in
      let d = pass-head jc.content q.0 c' g hs q.2 in
      let v = stops q.0 d.0 u.0 u.2 d.1 in
      (w, v.0, stops_at J m f p w gs g hs u.0 v.0 e l u.1 v.1 k h)
