-- Parts of a file of whole fields, for any job: where it answers from a field, and where it finds nothing. Assumes nothing.
use Rattle.base.specs.declared.Refusal.TheVariants.{NotFound}
use mathlib.Core.Path.{◌≡◌, refl, ap, sym, ◌∙◌}
use mathlib.Core.Bool.{Bool, true, false}
use mathlib.Core.List.{List, [], ◌∷◌, ◌++◌}
use mathlib.Core.Option.{Option, none, some}
use Prim.Native.Nat.{ℕ, ◌≤◌, ◌<◌}
use native.Mathlib.Omega.{arith}
use lib.ListN.{length, take, drop, take-append-drop}
use lib.Seq.{length-take-le}
use lib.Dec.{ltb}
use borrow.Author.Tests.{le-ltb}
use Rattle.base.specs.Pick.{pick}
use Rattle.base.specs.Run.{Step, stop, next, follow}
use Rattle.base.proofs.Tests.{never, clash}
use Rattle.frames.specs.Frame.{Field}
use Rattle.frames.specs.Machine.{Out, found, refused, ended, final, answer, keep, Job, walk}
use Rattle.frames.specs.Fields.{Ending, refused_at, cut_at, end_at, listing, fields, pass, outcome, up_to, first_above}
use Rattle.base.specs.All.{All}
use Rattle.base.proofs.AllLaws.{all_map, all_head, all_tail}
use Rattle.frames.proofs.FieldLaws.{StopsTo, LateTo, listing-spans, listing-grows}
use Rattle.frames.proofs.PassLaws.{pass-first, pass-head, pass-answer, pass-final, lockstep}
use Rattle.frames.proofs.WalkLaws.{walk-pass}
use Rattle.frames.proofs.GrowthLaws.{walk-stable, walk_refused, walk-waits}
use Rattle.frames.proofs.CapLaws.{stop_at, listing-capped}
use Rattle.frames.proofs.ChainLaws.{Chain, chain-split, listing-chain}

-- the fields up to an ID, around one that it reaches
pub up_to-split : (last : ℕ) (gs : List Field) (g : Field) (hs : List Field) → All (λ h. h.id ≤ last) gs → g.id ≤ last
    → up_to last (gs ++ g ∷ hs) ≡ gs ++ g ∷ up_to last hs
unfolding up_to
up_to-split last [] g hs a l = rw (le-ltb last g.id l)
up_to-split last (h ∷ gs) g hs a l =
    rw (le-ltb last h.id (all_head a)) (ap (λ (xs : List Field). h ∷ xs) (up_to-split last gs g hs (all_tail a) l))

module _ {M A : Type 0} (J : Job M A) where
  -- a walk that ends with the bytes keeps every field
  pub record Through (m m' : M) (bs : List ℕ) (p : ℕ) : Type 0 where
    pub kept : pass J.content m (listing J.last bs).fields ≡ next m'
    pub whole : (listing J.last bs).ending ≡ end_at p
    pub all : p ≡ length bs

  pub walk-ended : (m m' : M) (bs : List ℕ) (p : ℕ) → walk J m bs ≡ ended m' p → Through m m' bs p
  walk-ended m m' bs p h = go (pass J.content m (listing J.last bs).fields) refl (sym (walk-pass J m bs) ∙ h)
    where
      go : (s : Step M (Out M A)) → pass J.content m (listing J.last bs).fields ≡ s
          → follow s (outcome (listing J.last bs).ending) ≡ ended m' p → Through m m' bs p
      go (stop o) e k = never (pass-final J.content m _ o e) (ap final k)
      go (next m'') e k = at-end (listing J.last bs).ending refl (listing-spans J.last bs).stops k
        where
          at-end : (x : Ending) → (listing J.last bs).ending ≡ x → StopsTo 0 (length bs) x → outcome {A = A} x m'' ≡ ended m' p
              → Through m m' bs p
          at-end (refused_at n q) i s k = clash cc
          at-end (cut_at q) i s k = clash cc
          at-end (end_at q) i s k =
              let n : m'' ≡ m' = cc in
              let r : q ≡ p = cc in
              record { kept = rw n at e; whole = rw r at i; all = omega arith }

  module _ (m : M) (f : List ℕ) (p : ℕ) (whole : (listing 255 f).ending ≡ end_at p) where
    -- a job on a file of whole fields is its pass over those up to the last ID that it goes to
    pub walk-fields : walk J m f
        ≡ follow (pass J.content m (up_to J.last (fields f))) (outcome (stop_at (first_above J.last (fields f)) (end_at p)))
    walk-fields =
        let c = listing-capped J.last 255 f p whole in
        walk-pass J m f ∙ rw (c.fewer, c.ends, whole)

    -- THERE: a job that keeps the fields before one, and answers from that one
    pub walk-answer : (gs : List Field) (g : Field) (hs : List Field) (m' : M) (v : A) → fields f ≡ gs ++ g ∷ hs → g.id ≤ J.last
        → pass J.content m gs ≡ next m' → J.content m' g ≡ answer v → walk J m f ≡ found v g.past
    walk-answer gs g hs m' v e l k a =
        let c : Chain f false 0 4 (gs ++ g ∷ hs) = rw e at (listing-chain f 255) in
        let u = up_to-split J.last gs g hs (all_map (λ h d. omega (arith, d.rising)) (chain-split f false 0 4 gs g hs c)) l in
        walk-fields ∙ rw (e, u, pass-answer J.content m m' gs g (up_to J.last hs) v k a)

  -- ABSENT: the first k bytes of a file with no field that the job answers from or refuses: they wait exactly while no first byte of a
  -- field above the job's last ID is there, and then are refused with 12 at that byte's place
  pub record Absent (m : M) (f : List ℕ) (k : ℕ) : Type 0 where
    pub waits : ((q : ℕ) → first_above J.last (fields f) ≡ some q → k ≤ q) → final (walk J m (take k f)) ≡ false
    pub refuses : (q : ℕ) → first_above J.last (fields f) ≡ some q → q < k → walk J m (take k f) ≡ refused NotFound q

  pub absent : (m m' : M) (f : List ℕ) (p k : ℕ) → (listing 255 f).ending ≡ end_at p
      → pass J.content m (up_to J.last (fields f)) ≡ next m' → k ≤ length f → Absent m f k
  absent m m' f p k whole kept l =
      record { waits = waits (final (walk J m (take k f))) refl; refuses = refuses (final (walk J m (take k f))) refl }
    where
      len : length (take k f) ≡ k
      len = length-take-le k f l

      on-file : walk J m f ≡ outcome (stop_at (first_above J.last (fields f)) (end_at p)) m'
      on-file = walk-fields m f p whole ∙ rw kept

      stays : final (walk J m (take k f)) ≡ true → walk J m (take k f) ≡ walk J m f
      stays e = sym (walk-stable J m (take k f) (drop k f) e) ∙ rw take-append-drop

      waits : (t : Bool) → final (walk J m (take k f)) ≡ t → ((q : ℕ) → first_above J.last (fields f) ≡ some q → k ≤ q)
          → final (walk J m (take k f)) ≡ false
      waits false e h = e
      waits true e h = go (first_above J.last (fields f)) refl
        where
          go : (x : Option ℕ) → first_above J.last (fields f) ≡ x → final (walk J m (take k f)) ≡ false
          go none i = rw (stays e, on-file, i)
          go (some q) i =
              let r : walk J m (take k f) ≡ refused NotFound q = stays e ∙ on-file ∙ rw i in
              absurd (omega (arith, len, h q i, walk_refused J m (take k f) NotFound q r))

      refuses : (t : Bool) → final (walk J m (take k f)) ≡ t → (q : ℕ) → first_above J.last (fields f) ≡ some q → q < k
          → walk J m (take k f) ≡ refused NotFound q
      refuses true e q i b = stays e ∙ on-file ∙ rw i
      refuses false e q i b =
          let g = listing-grows J.last (take k f) (drop k f) in
          let x : (listing J.last (take k f ++ drop k f)).ending ≡ refused_at NotFound q
          = rw take-append-drop ((listing-capped J.last 255 f p whole).ends ∙ rw i) in
          let late : LateTo (length (take k f)) (refused_at NotFound q)
          = rw (sym g.ends ∙ x) at (g.later (walk-waits J m (take k f) e)).capped in
          absurd (omega (arith, len, late refl))

pub up_to-first : (last : ℕ) (gs : List Field) → (hs : List Field) × (gs ≡ up_to last gs ++ hs)
unfolding up_to
up_to-first last [] = ([], refl)
up_to-first last (g ∷ gs) = go (ltb last g.id) (up_to-first last gs)
  where
    go : (t : Bool) → (hs : List Field) × (gs ≡ up_to last gs ++ hs) → (hs : List Field) × (g ∷ gs ≡ pick t [] (g ∷ up_to last gs) ++ hs)
    go true s = (g ∷ gs, refl)
    go false s = (s.0, ap (λ (xs : List Field). g ∷ xs) s.1)

-- BESIDE A CHECK: jc goes through the file f with every ID, and J, whose memory stays related to that of jc, keeps each field that jc keeps,
-- as far as P is known of it
module _ {C M A B : Type 0} (jc : Job C B) (J : Job M A) (R : C → M → Type 0) (P : Field → Type 0)
    (keeps : (x x' : C) (y : M) (g : Field) → P g → R x y → jc.content x g ≡ keep x' → (y' : M) × (J.content y g ≡ keep y') × R x' y')
    (every : jc.last ≡ 255) (c c' : C) (m : M) (f : List ℕ) (p : ℕ) (through : walk jc c f ≡ ended c' p) (r : R c m) where
  checked : Through jc c c' f p
  checked = walk-ended jc c c' f p through

  whole : (listing 255 f).ending ≡ end_at p
  whole = rw every at checked.whole

  kept : pass jc.content c (fields f) ≡ next c'
  kept = rw every at checked.kept

  -- where P is known of every field that J goes to, J finds nothing in any first part of the file
  pub absent_beside : All P (up_to J.last (fields f)) → (k : ℕ) → k ≤ length f → Absent J m f k
  absent_beside a k l =
      let s = up_to-first J.last (fields f) in
      let q = pass-first jc.content c c' (up_to J.last (fields f)) s.0 (rw s.1 at kept) in
      let t = lockstep R P jc.content J.content keeps (up_to J.last (fields f)) c q.0 m a r q.1 in
      absent J m t.0 f p k whole t.1 l

  -- where P is known of the fields before one from which J answers, J answers from that one
  pub answer-beside : (gs : List Field) (g : Field) (hs : List Field) → fields f ≡ gs ++ g ∷ hs → All P gs → g.id ≤ J.last
      → ((x x' : C) (y : M) → R x y → jc.content x g ≡ keep x' → (v : A) × (J.content y g ≡ answer v))
      → (v : A) × (walk J m f ≡ found v g.past)
  answer-beside gs g hs e a l answers =
      let q = pass-first jc.content c c' gs (g ∷ hs) (rw e at kept) in
      let t = lockstep R P jc.content J.content keeps gs c q.0 m a r q.1 in
      let h = pass-head jc.content q.0 c' g hs q.2 in
      let v = answers q.0 h.0 t.0 t.2 h.1 in
      (v.0, walk-answer J m f p whole gs g hs t.0 v.0 e l t.1 v.1)
