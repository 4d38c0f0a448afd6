-- A job's pass over a list of fields: in two parts, where it stops, and beside another job's pass. Assumes nothing.
use Rattle.base.specs.declared.Refusal.{Refusal}
use mathlib.Core.Path.{◌≡◌, refl, ap, sym, ◌∙◌}
use mathlib.Core.Bool.{true}
use mathlib.Core.List.{List, [], ◌∷◌, ◌++◌}
use Prim.Native.Nat.{ℕ}
use native.Mathlib.Omega.{arith}
use Rattle.base.specs.Run.{Step, stop, next}
use Rattle.frames.specs.Frame.{Field}
use Rattle.frames.specs.Machine.{Out, found, refused, final, Content, bad, answer, keep, verdict, onward}
use Rattle.frames.specs.Fields.{pass}
use Rattle.base.specs.All.{All}
use Rattle.base.proofs.AllLaws.{all_head, all_tail, all_right}
use Rattle.base.proofs.Tests.{clash}

module _ {M A : Type 0} (g : Field) where
  verdict-found : (x : Content M A) (v : A) (p : ℕ) → verdict g x ≡ stop (found v p) → p ≡ g.past
  verdict-found (bad n) v p h = clash cc
  verdict-found (answer w) v p h = cc
  verdict-found (keep m) v p h = clash cc

  verdict-refused : (x : Content M A) (n : Refusal) (p : ℕ) → verdict g x ≡ stop (refused n p) → p ≡ g.place
  verdict-refused (bad k) n p h = cc
  verdict-refused (answer v) n p h = clash cc
  verdict-refused (keep m) n p h = clash cc

  verdict-final : (x : Content M A) (o : Out M A) → verdict g x ≡ stop o → final o ≡ true
  verdict-final (bad n) o h = let z : refused n g.place ≡ o = cc in rw (← z)
  verdict-final (answer v) o h = let z : found v g.past ≡ o = cc in rw (← z)
  verdict-final (keep m) o h = clash cc

module _ {M A : Type 0} (c : M → Field → Content M A) where
  pub pass-append : (m : M) (gs hs : List Field) → pass c m (gs ++ hs) ≡ onward (pass c m gs) (λ m'. pass c m' hs)
  unfolding pass
  pass-append m [] hs = refl
  pass-append m (g ∷ gs) hs = go (verdict g (c m g)) (λ m'. pass-append m' gs hs)
    where
      go : (x : Step M (Out M A)) → ((m' : M) → pass c m' (gs ++ hs) ≡ onward (pass c m' gs) (λ m''. pass c m'' hs))
          → onward x (λ m'. pass c m' (gs ++ hs)) ≡ onward (onward x (λ m'. pass c m' gs)) (λ m''. pass c m'' hs)
      go (stop o) rec = refl
      go (next m') rec = rec m'

  -- what went through all went through a first part
  pub pass-first : (m m'' : M) (gs hs : List Field) → pass c m (gs ++ hs) ≡ next m''
      → (m' : M) × (pass c m gs ≡ next m') × (pass c m' hs ≡ next m'')
  pass-first m m'' gs hs h = go (pass c m gs) refl
    where
      go : (x : Step M (Out M A)) → pass c m gs ≡ x → (m' : M) × (pass c m gs ≡ next m') × (pass c m' hs ≡ next m'')
      go (stop o) e =
          let z : stop o ≡ next m'' = sym (pass-append m gs hs ∙ rw e) ∙ h in
          let n : ◌≡◌ {A = ℕ} 0 1 = cc in
          absurd (omega arith)
      go (next m') e = (m', e, sym (pass-append m gs hs ∙ rw e) ∙ h)

  pub pass-head : (m m'' : M) (g : Field) (gs : List Field) → pass c m (g ∷ gs) ≡ next m'' → (m' : M) × (c m g ≡ keep m')
  unfolding pass
  pass-head m m'' g gs = go (c m g) refl
    where
      go : (x : Content M A) → c m g ≡ x → onward (verdict g x) (λ m'. pass c m' gs) ≡ next m'' → (m' : M) × (c m g ≡ keep m')
      go (bad n) e h = clash cc
      go (answer v) e h = clash cc
      go (keep m') e h = (m', e)

  -- where a pass stops: it keeps the fields before one, and stops with what that one says
  pub record Stopped (m : M) (gs : List Field) (o : Out M A) : Type 0 where
    pub prior : List Field
    pub at : Field
    pub after : List Field
    pub split : gs ≡ prior ++ at ∷ after
    pub mem : M
    pub kept : pass c m prior ≡ next mem
    pub stops : verdict at (c mem at) ≡ stop o

  pub pass-stopped : (m : M) (gs : List Field) (o : Out M A) → pass c m gs ≡ stop o → Stopped m gs o
  unfolding pass
  pass-stopped m [] o h = clash cc
  pass-stopped m (g ∷ gs) o h = go (verdict g (c m g)) refl h (λ m'. pass-stopped m' gs o)
    where
      go : (x : Step M (Out M A)) → verdict g (c m g) ≡ x → onward x (λ m'. pass c m' gs) ≡ stop o
          → ((m' : M) → pass c m' gs ≡ stop o → Stopped m' gs o) → Stopped m (g ∷ gs) o
      go (stop o') e k rec = record { prior = []; at = g; after = gs; split = refl; mem = m; kept = refl; stops = e ∙ k }
      go (next m') e k rec =
          let s = rec m' k in
          record {
            prior = g ∷ s.prior;
            at = s.at;
            after = s.after;
            split = ap (λ (hs : List Field). g ∷ hs) s.split;
            mem = s.mem;
            kept = rw e s.kept;
            stops = s.stops;
          }

  pub stopped-at : (P : Field → Type 0) (m : M) (gs : List Field) (o : Out M A) (s : Stopped m gs o) → All P gs → P s.at
  stopped-at P m gs o s a = all_head (all_right s.prior (s.at ∷ s.after) (rw s.split at a))

  -- so an answer's place is that just past a field, and a refusal's that of a field
  module _ (Q : ℕ → Type 0) (m : M) (gs : List Field) where
    pub pass-found : (v : A) (p : ℕ) → All (λ g. Q g.past) gs → pass c m gs ≡ stop (found v p) → Q p
    pass-found v p a h =
        let s = pass-stopped m gs (found v p) h in
        rw (verdict-found s.at (c s.mem s.at) v p s.stops) (stopped-at (λ g. Q g.past) m gs _ s a)

    pub pass-refused : (n : Refusal) (p : ℕ) → All (λ g. Q g.place) gs → pass c m gs ≡ stop (refused n p) → Q p
    pass-refused n p a h =
        let s = pass-stopped m gs (refused n p) h in
        rw (verdict-refused s.at (c s.mem s.at) n p s.stops) (stopped-at (λ g. Q g.place) m gs _ s a)

  pub pass-final : (m : M) (gs : List Field) (o : Out M A) → pass c m gs ≡ stop o → final o ≡ true
  pass-final m gs o h = let s = pass-stopped m gs o h in verdict-final s.at (c s.mem s.at) o s.stops

  -- a pass that keeps the fields before one that answers
  pub pass-answer : (m m' : M) (gs : List Field) (g : Field) (hs : List Field) (v : A) → pass c m gs ≡ next m' → c m' g ≡ answer v
      → pass c m (gs ++ g ∷ hs) ≡ stop (found v g.past)
  unfolding pass
  pass-answer m m' gs g hs v h k = pass-append m gs (g ∷ hs) ∙ rw (h, k)

-- LOCKSTEP. Two jobs over the same fields, with memories related by R: where the first keeps them all and the second keeps each that the
-- first keeps, as far as P is known of it, the second keeps them all.
module _ {C M A B : Type 0} (R : C → M → Type 0) (P : Field → Type 0) (c : C → Field → Content C A) (d : M → Field → Content M B)
    (keeps : (x x' : C) (y : M) (g : Field) → P g → R x y → c x g ≡ keep x' → (y' : M) × (d y g ≡ keep y') × R x' y') where
  pub lockstep : (gs : List Field) (x x' : C) (y : M) → All P gs → R x y → pass c x gs ≡ next x'
      → (y' : M) × (pass d y gs ≡ next y') × R x' y'
  unfolding pass
  lockstep [] x x' y a r h = let z : x ≡ x' = cc in (y, refl, rw z at r)
  lockstep (g ∷ gs) x x' y a r h = go (c x g) refl h (λ x'' y' r'. lockstep gs x'' x' y' (all_tail a) r')
    where
      go : (k : Content C A) → c x g ≡ k → onward (verdict g k) (λ m. pass c m gs) ≡ next x'
          → ((x'' : C) (y' : M) → R x'' y' → pass c x'' gs ≡ next x' → (y'' : M) × (pass d y' gs ≡ next y'') × R x' y'')
          → (y'' : M) × (onward (verdict g (d y g)) (λ m. pass d m gs) ≡ next y'') × R x' y''
      go (bad n) e k rec = clash cc
      go (answer v) e k rec = clash cc
      go (keep x'') e k rec =
          let s = keeps x x'' y g (all_head a) r e in
          let t = rec x'' s.0 s.2 k in
          (t.0, rw s.1 t.1, t.2)
