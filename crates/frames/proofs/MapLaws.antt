-- A job whose content is that of another with its answer mapped goes the same way. Assumes nothing.
use mathlib.Core.Path.{◌≡◌, refl, sym, ap, ◌∙◌}
use mathlib.Core.List.{List, [], ◌∷◌}
use Prim.Native.Nat.{ℕ}
use Rattle.base.specs.Run.{Step, stop, next, follow}
use Rattle.frames.specs.Frame.{Field}
use Rattle.frames.specs.Machine.{Out, Content, bad, answer, keep, Job, verdict, onward, walk}
use Rattle.frames.specs.Fields.{Ending, refused_at, cut_at, end_at, listing, pass, outcome}
use Rattle.frames.specs.Mapped.{map_content, map_out, map_step}
use Rattle.frames.proofs.WalkLaws.{walk-pass}

module _ {M A B : Type 0} (h : A → B) where
  outcome-mapped : (e : Ending) (m : M) → outcome {A = B} e m ≡ map_out h (outcome e m)
  outcome-mapped (refused_at n p) m = refl
  outcome-mapped (cut_at p) m = refl
  outcome-mapped (end_at p) m = refl

  follow-mapped : (s : Step M (Out M A)) (e : Ending) → follow (map_step h s) (outcome e) ≡ map_out h (follow s (outcome e))
  follow-mapped (stop o) e = refl
  follow-mapped (next m) e = outcome-mapped e m

  module _ (c : M → Field → Content M A) (d : M → Field → Content M B) (maps : (m : M) (g : Field) → d m g ≡ map_content h (c m g)) where
    pass-mapped : (m : M) (gs : List Field) → pass d m gs ≡ map_step h (pass c m gs)
    unfolding pass
    pass-mapped m [] = refl
    pass-mapped m (g ∷ gs) = rw (maps m g) (go (c m g) (λ m'. pass-mapped m' gs))
      where
        go : (x : Content M A) → ((m' : M) → pass d m' gs ≡ map_step h (pass c m' gs))
            → onward (verdict g (map_content h x)) (λ m'. pass d m' gs) ≡ map_step h (onward (verdict g x) (λ m'. pass c m' gs))
        go (bad n) rec = refl
        go (answer v) rec = refl
        go (keep m') rec = rec m'

  pub walk-mapped : (J : Job M A) (K : Job M B) → K.last ≡ J.last → ((m : M) (g : Field) → K.content m g ≡ map_content h (J.content m g))
      → (m : M) (bs : List ℕ) → walk K m bs ≡ map_out h (walk J m bs)
  walk-mapped J K l maps m bs =
      walk-pass K m bs
      ∙ ap (λ (n : ℕ). follow (pass K.content m (listing n bs).fields) (outcome (listing n bs).ending)) l
      ∙ ap (λ (s : Step M (Out M B)). follow s (outcome (listing J.last bs).ending)) (pass-mapped J.content K.content maps m (listing J.last bs).fields)
      ∙ follow-mapped (pass J.content m (listing J.last bs).fields) (listing J.last bs).ending
      ∙ ap (map_out h) (sym (walk-pass J m bs))
