-- The search for a field. Assumes nothing.
use Rattle.base.specs.declared.Refusal.{Refusal}
use Rattle.std.specs.declared.option.Option.{Option}
use Rattle.std.specs.declared.option.Option.TheVariants.{None, Some}
use mathlib.Core.Path.{◌≡◌, refl, sym, ap, ◌∙◌}
use mathlib.Core.Bool.{Bool, true, false}
use mathlib.Core.List.{List, [], ◌∷◌}
use Prim.Native.Nat.{ℕ, ◌+◌, ◌-◌, ◌≤◌, ◌<◌}
use native.Mathlib.Omega.{arith}
use lib.Dec.{ltb, eqb}
use lib.ListN.{length, take, drop}
use borrow.Author.Tests.{lt-ltb, eq-eqb, ne_eqb}
use Rattle.base.specs.Run.{follow}
use Rattle.frames.specs.Frame.{frame, Field}
use Rattle.frames.specs.Machine.{state_at, field_at, from, walk}
use Rattle.frames.specs.Fields.{Ending, refused_at, cut_at, end_at, fields, listing, pass, outcome}
use Rattle.frames.specs.declared.Frame.{Frame}
use Rattle.frames.specs.declared.Frame.TheVariants.{End, Cut, Refused, Version, Whole}
use Rattle.frames.proofs.WalkLaws.{walk-pass}
use Rattle.frames.proofs.AtLaws.{at-end, at_cut, at-refused, at-version, whole-inside, at-answer, at-keep, front-end, front_cut, front-refused, front-version}
use Rattle.field_search.specs.Search.{field_with, place_in, field_place, seeker, place_of, behind_version}

-- the job answers with the first field of the list
module _ (i : ℕ) where
  nowhere : (e : Ending) → place_of (outcome e tt) ≡ None
  nowhere (refused_at n p) = refl
  nowhere (cut_at p) = refl
  nowhere (end_at p) = refl

  pass-with : (gs : List Field) (e : Ending) → place_of (follow (pass (seeker i).content tt gs) (outcome e)) ≡ place_in (field_with i gs)
  unfolding pass field_with
  pass-with [] e = nowhere e
  pass-with (g ∷ gs) e = go (pass-with gs e) (eqb g.id i) refl
    where
      go : place_of (follow (pass (seeker i).content tt gs) (outcome e)) ≡ place_in (field_with i gs) → (t : Bool) → eqb g.id i ≡ t
          → place_of (follow (pass (seeker i).content tt (g ∷ gs)) (outcome e)) ≡ place_in (field_with i (g ∷ gs))
      go h true q = rw q
      go h false q = rw q h

  pub seek-fields : (f : List ℕ) → place_of (walk (seeker i) tt f) ≡ field_place i f
  seek-fields f = ap place_of (walk-pass (seeker i) tt f) ∙ pass-with (fields f) (listing 255 f).ending

-- the front of the file
module _ (i : ℕ) (s : List ℕ) where
  pub front-nowhere-end : End ≡ frame 255 0 false 0 s → None ≡ field_place i s
  front-nowhere-end e = sym (ap place_of (front-end (seeker i) tt s e)) ∙ seek-fields i s

  pub front-nowhere-cut : Cut ≡ frame 255 0 false 0 s → None ≡ field_place i s
  front-nowhere-cut e = sym (ap place_of (front_cut (seeker i) tt s e)) ∙ seek-fields i s

  pub front-nowhere-refused : (n : Refusal) → Refused n ≡ frame 255 0 false 0 s → None ≡ field_place i s
  front-nowhere-refused n e = sym (ap place_of (front-refused (seeker i) tt s n e)) ∙ seek-fields i s

  pub front-on : Version ≡ frame 255 0 false 0 s → (r : Option (ℕ × ℕ × ℕ)) → r ≡ behind_version i s → r ≡ field_place i s
  front-on e r h = h ∙ sym (ap place_of (front-version (seeker i) tt s e)) ∙ seek-fields i s

-- behind the version
module _ (i : ℕ) (s : List ℕ) where
  pub record Seeking (at prev : ℕ) : Type 0 where
    pub some : 4 ≤ at
    pub inside : at ≤ length s
    pub goes : behind_version i s ≡ place_of (from (seeker i) (state_at at (drop at s) (ltb 4 at) prev tt))

  pub seeking-start : 4 ≤ length s → Seeking 4 0
  seeking-start h = record { some = omega arith; inside = h; goes = refl }

  module _ (at prev : ℕ) (w : Seeking at prev) (f : Frame) (read : f ≡ frame 255 at (ltb 4 at) prev (take (length s - at) (drop at s))) where
    pub seeking-end : f ≡ End → None ≡ behind_version i s
    seeking-end e = sym (w.goes ∙ ap place_of (at-end (seeker i) s at (ltb 4 at) prev tt w.inside f read e))

    pub seeking-cut : f ≡ Cut → None ≡ behind_version i s
    seeking-cut e = sym (w.goes ∙ ap place_of (at_cut (seeker i) s at (ltb 4 at) prev tt w.inside f read e))

    pub seeking-refused : (n : Refusal) → f ≡ Refused n → None ≡ behind_version i s
    seeking-refused n e = sym (w.goes ∙ ap place_of (at-refused (seeker i) s at (ltb 4 at) prev tt w.inside f read n e))

    pub seeking-version : f ≡ Version → None ≡ behind_version i s
    seeking-version e = absurd (omega (arith, at-version (seeker i) s at (ltb 4 at) prev tt w.inside f read e, w.some))

    module _ (j h n : ℕ) (e : f ≡ Whole j h n) where
      pub seeking-fits : (0 < h) × (at + h + n ≤ length s) × (at + h + n ≤ 4194304)
      seeking-fits = whole-inside (seeker i) s at (ltb 4 at) prev tt w.inside f read j h n e

      pub seeking-found : j ≡ i → Some (at, at + h, at + h + n) ≡ behind_version i s
      seeking-found q =
          let z : at + (h + n) ≡ at + h + n = omega arith in
          sym (w.goes ∙ ap place_of (at-answer (seeker i) s at (ltb 4 at) prev tt w.inside f read j h n e (field_at at (drop at s) j h n) (rw (eq-eqb j i q))) ∙ rw z)

      pub seeking-next : (j ≡ i → ⊥) → Seeking (at + h + n) j
      seeking-next q =
          let l = seeking-fits in
          record {
            some = omega (arith, w.some);
            inside = l.1;
            goes =
                w.goes ∙ ap place_of (at-keep (seeker i) s at (ltb 4 at) prev tt w.inside f read j h n e tt (rw (ne_eqb j i q)))
                ∙ rw (lt-ltb 4 (at + h + n) (omega (arith, w.some, l.0)));
          }
