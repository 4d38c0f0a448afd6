-- Where the walk over heads ends, that it can go on from there with more bytes, and that its place is that of the first unfinished field.
-- Assumes nothing.
use Rattle.base.specs.declared.Refusal.{Refusal}
use mathlib.Core.Path.{◌≡◌, refl, sym, ap, ◌∙◌}
use mathlib.Core.Bool.{Bool, true, false}
use mathlib.Core.List.{List, ◌++◌}
use mathlib.Core.Logic.{◌⊎◌, inl, inr}
use Prim.Native.Nat.{ℕ, zero, suc, ◌+◌, ◌≤◌, ◌<◌}
use native.Mathlib.Omega.{arith}
use lib.ListN.{length, drop, length-drop, length-append}
use lib.Seq.{drop-drop, drop-append-le}
use lib.Dec.{ltb, eqb}
use native.Mathlib.Nat.{pos_of_ne-zero}
use borrow.Author.Tests.{lt-ltb, le-ltb, eq-eqb, ne_eqb, eqb-true, eqb-false}
use Rattle.base.specs.Pick.{pick}
use Rattle.frames.specs.Frame.{version, frame}
use Rattle.frames.specs.Fields.{refused_at, listed, scan, listing, place_of, unfinished}
use Rattle.frames.specs.declared.Frame.{Frame}
use Rattle.frames.specs.declared.Frame.TheVariants.{End, Cut, Refused, Version, Whole}
use Rattle.frames.proofs.FrameLaws.{Adds, frame-adds}
use Rattle.frames.proofs.HeadLaws.{whole-headed}
use Rattle.frames.proofs.FieldLaws.{listing-grows}
use Rattle.frames.proofs.StepLaws.{whole_room, version-room}
use Rattle.extents.specs.declared.Extent.{Extent}
use Rattle.extents.specs.Extent.{none, behind_frame, step_of, steps, extent_of}

-- a step stays, or goes on within the bytes
pub record Moved (s : List ℕ) (c : Extent) : Type 0 where
  pub farther : c.at < (step_of s c).at
  pub within : (step_of s c).at ≤ length s

module _ (s : List ℕ) (c : Extent) (l : c.at ≤ length s) where
  abbrev here : Frame
  here = frame 255 c.at (ltb 4 c.at) c.prev (drop c.at s)

  stepped : (x : Frame) → here ≡ x → step_of s c ≡ behind_frame c x
  unfolding step_of
  stepped x e = ap (behind_frame c) e

  pub step-moves : (step_of s c ≡ c) ⊎ Moved s c
  step-moves = go here refl
    where
      go : (x : Frame) → here ≡ x → (step_of s c ≡ c) ⊎ Moved s c
      go End e = inl (stepped End e)
      go Cut e = inl (stepped Cut e)
      go (Refused n) e = inl (stepped (Refused n) e)
      go Version e =
          let r = version-room 255 c.at (ltb 4 c.at) c.prev (drop c.at s) (sym e) in
          inr (record {
            farther = rw (stepped Version e) (omega arith);
            within = rw (stepped Version e) (omega (arith, r.1, length-drop c.at s));
          })
      go (Whole i h n) e =
          let r = whole_room 255 c.at (ltb 4 c.at) c.prev (drop c.at s) i h n (sym e) in
          inr (record {
            farther = rw (stepped (Whole i h n) e) (omega (arith, r.head));
            within = rw (stepped (Whole i h n) e) (omega (arith, r.within, length-drop c.at s));
          })

-- a step that stays is the last
pub steps-stay : (k : ℕ) (s : List ℕ) (c : Extent) → step_of s c ≡ c → steps k s c ≡ c
unfolding steps
steps-stay zero s c e = refl
steps-stay (suc k) s c e = ap (steps k s) e ∙ steps-stay k s c e

-- a step more than bytes are left changes nothing
pub steps-enough : (k : ℕ) (s : List ℕ) (c : Extent) → c.at ≤ length s → length s ≤ c.at + k → steps (suc k) s c ≡ steps k s c
unfolding steps
steps-enough zero s c l h = go (step-moves s c l)
  where
    go : (step_of s c ≡ c) ⊎ Moved s c → step_of s c ≡ c
    go (inl e) = e
    go (inr m) = absurd (omega (arith, m.farther, m.within))
steps-enough (suc k) s c l h = go (step-moves s c l) (steps-enough k s (step_of s c))
  where
    go : (step_of s c ≡ c) ⊎ Moved s c
        → ((step_of s c).at ≤ length s → length s ≤ (step_of s c).at + k → steps k s (step_of s (step_of s c)) ≡ steps k s (step_of s c))
        → steps k s (step_of s (step_of s c)) ≡ steps k s (step_of s c)
    go (inl e) rec = ap (λ (d : Extent). steps k s d) (ap (step_of s) e)
    go (inr m) rec = rec m.within (omega (arith, m.farther))

-- the walk goes on from behind a frame as from before it
pub extent-onward : (s : List ℕ) (c : Extent) → c.at ≤ length s → extent_of s (step_of s c) ≡ extent_of s c
unfolding steps
extent-onward s c l = steps-enough (length s) s c l (omega arith)

-- MORE BYTES: the walk goes on from where it stopped
module _ (s e : List ℕ) where
  all-length : length (s ++ e) ≡ length s + length e
  all-length = length-append s e

  -- a frame that is whole stays so
  step_same : (c : Extent) → c.at ≤ length s → (step_of s c ≡ c) ⊎ (step_of (s ++ e) c ≡ step_of s c)
  unfolding step_of
  step_same c l = go (frame 255 c.at (ltb 4 c.at) c.prev (drop c.at s)) refl
    where
      same : Adds (length (drop c.at s)) (length (drop c.at s) + length e) (frame 255 c.at (ltb 4 c.at) c.prev (drop c.at s)) (frame 255 c.at (ltb 4 c.at) c.prev (drop c.at s ++ e))
      same = frame-adds e 255 c.at (ltb 4 c.at) c.prev (drop c.at s)

      go : (x : Frame) → frame 255 c.at (ltb 4 c.at) c.prev (drop c.at s) ≡ x → (step_of s c ≡ c) ⊎ (step_of (s ++ e) c ≡ step_of s c)
      go End h = inl (ap (behind_frame c) h)
      go Cut h = inl (ap (behind_frame c) h)
      go (Refused n) h = inl (ap (behind_frame c) h)
      go Version h = inr (rw (drop-append-le c.at s e l) (ap (behind_frame c) (same.same (rw h))))
      go (Whole i u n) h = inr (rw (drop-append-le c.at s e l) (ap (behind_frame c) (same.same (rw h))))

  resume-from : (k : ℕ) (c : Extent) → c.at ≤ length s → extent_of (s ++ e) (steps k s c) ≡ extent_of (s ++ e) c
  unfolding steps
  resume-from zero c l = refl
  resume-from (suc k) c l = go (step-moves s c l) (step_same c l) (resume-from k (step_of s c))
    where
      l' : c.at ≤ length (s ++ e)
      l' = omega (arith, all-length)

      stays : step_of s c ≡ c → extent_of (s ++ e) (steps k s (step_of s c)) ≡ extent_of (s ++ e) c
      stays q = ap (extent_of (s ++ e)) (ap (steps k s) q ∙ steps-stay k s c q)

      go : (step_of s c ≡ c) ⊎ Moved s c → (step_of s c ≡ c) ⊎ (step_of (s ++ e) c ≡ step_of s c)
          → ((step_of s c).at ≤ length s → extent_of (s ++ e) (steps k s (step_of s c)) ≡ extent_of (s ++ e) (step_of s c))
          → extent_of (s ++ e) (steps k s (step_of s c)) ≡ extent_of (s ++ e) c
      go (inl q) x rec = stays q
      go (inr m) (inl q) rec = stays q
      go (inr m) (inr q) rec = rec m.within ∙ ap (extent_of (s ++ e)) (sym q) ∙ extent-onward (s ++ e) c l'

  pub extent-resumes : (c : Extent) → c.at ≤ length s → extent_of (s ++ e) (extent_of s c) ≡ extent_of (s ++ e) c
  extent-resumes c l = resume-from (length s) c l

  -- a refusal of version, ID or size stops it for good
  pub refused-stays : (n : Refusal) (p : ℕ) → (listing 255 s).ending ≡ refused_at n p → unfinished (s ++ e) ≡ unfinished s
  refused-stays n p h =
      let g = listing-grows 255 s e in
      ap place_of g.ends ∙ rw (g.same (rw h)) refl

-- THE PLACE is that of the first unfinished field
module _ (s : List ℕ) where
  place-scan : (k : ℕ) (c : Extent) → (0 < c.at → 4 ≤ c.at) → c.at ≤ length s → length s < c.at + k
      → (steps k s c).at ≡ place_of (scan k 255 c.at (ltb 4 c.at) c.prev (drop c.at s)).ending
  unfolding steps scan
  place-scan zero c g l f = absurd (omega arith)
  place-scan (suc k) c g l f = go (frame 255 c.at (ltb 4 c.at) c.prev (drop c.at s)) refl (place-scan k)
    where
      stays : step_of s c ≡ c → (steps k s (step_of s c)).at ≡ c.at
      stays q = ap (λ (d : Extent). d.at) (ap (steps k s) q ∙ steps-stay k s c q)

      go : (x : Frame) → frame 255 c.at (ltb 4 c.at) c.prev (drop c.at s) ≡ x
          → ((d : Extent) → (0 < d.at → 4 ≤ d.at) → d.at ≤ length s → length s < d.at + k
          → (steps k s d).at ≡ place_of (scan k 255 d.at (ltb 4 d.at) d.prev (drop d.at s)).ending)
          → (steps k s (step_of s c)).at ≡ place_of (listed c.at (drop c.at s) x (scan k 255)).ending
      go End h rec = stays (stepped s c l End h)
      go Cut h rec = stays (stepped s c l Cut h)
      go (Refused n) h rec = stays (stepped s c l (Refused n) h)
      go Version h rec =
          let r = version-room 255 c.at (ltb 4 c.at) c.prev (drop c.at s) (sym h) in
          let t : ltb 4 (c.at + 4) ≡ false = le-ltb 4 (c.at + 4) (omega (arith, r.0)) in
          let i = rec (record { at = c.at + 4; prev = 0 }) (λ z. omega arith) (omega (arith, r.1, length-drop c.at s)) (omega arith) in
          rw (stepped s c l Version h, drop-drop 4 c.at s, ← t) i
      go (Whole i u n) h rec =
          let r = whole_room 255 c.at (ltb 4 c.at) c.prev (drop c.at s) i u n (sym h) in
          let d = whole-headed 255 c.at (ltb 4 c.at) c.prev (drop c.at s) i u n h in
          let four : 4 ≤ c.at = g (pos_of_ne-zero d.place) in
          let t : ltb 4 (c.at + (u + n)) ≡ true = lt-ltb 4 (c.at + (u + n)) (omega (arith, r.head)) in
          let j = rec (record { at = c.at + (u + n); prev = i }) (λ z. omega (arith, r.head)) (omega (arith, r.within, length-drop c.at s)) (omega (arith, r.head)) in
          rw (stepped s c l (Whole i u n) h, drop-drop (u + n) c.at s, ← t) j

  pub extent-place : (extent_of s none).at ≡ unfinished s
  unfolding listing
  extent-place =
      ap (λ (d : Extent). d.at) (sym (steps-enough (length s) s none (omega arith) (omega arith)))
      ∙ place-scan (suc (length s)) none (λ z. absurd (omega arith)) (omega arith) (omega arith)

-- before the version
module _ (s : List ℕ) where
  version-frame : (a : ℕ) (seen : Bool) (prev : ℕ) → a ≡ 0 → frame 255 a seen prev (drop a s) ≡ version s
  unfolding frame
  version-frame a seen prev e = rw e

  -- a way out of the code: the version is x
  pub version-step : (c : Extent) → c.at ≡ 0 → (f x : Frame) → f ≡ version s → f ≡ x → behind_frame c x ≡ pick (eqb c.at 0) (step_of s c) c
  unfolding step_of
  version-step c z f x h e =
      rw (eq-eqb c.at 0 z) (ap (behind_frame c) (sym e ∙ h ∙ sym (version-frame c.at (ltb 4 c.at) c.prev z)))

  pub version-end : (c : Extent) → c.at ≡ 0 → record { at = 4; prev = 0 } ≡ behind_frame c Version
  version-end c z = ap (λ (a : ℕ). record { at = a; prev = 0 }) (omega arith)

  -- no field stands there
  pub version-field : (f : Frame) → f ≡ version s → (i h n : ℕ) → f ≡ Whole i h n → ⊥
  version-field f h i u n e = (whole-headed 255 0 false 0 s i u n (version-frame 0 false 0 refl ∙ sym h ∙ e)).place refl

  pub version-none : (c : Extent) → (c.at ≡ 0 → ⊥) → c ≡ pick (eqb c.at 0) (step_of s c) c
  version-none c z = rw (ne_eqb c.at 0 z)

-- the loop has come to c
pub record Coming (s : List ℕ) (from c : Extent) : Type 0 where
  pub within : c.at ≤ length s
  pub same : extent_of s c ≡ extent_of s from

-- behind the version, where that is there
module _ (s : List ℕ) (from c : Extent) (inside : from.at ≤ length s) (h : c ≡ pick (eqb from.at 0) (step_of s from) from) where
  by-version : (P : Type 0) → (from.at ≡ 0 → c ≡ step_of s from → P) → ((from.at ≡ 0 → ⊥) → c ≡ from → P) → P
  by-version P k j = go (eqb from.at 0) refl h
    where
      go : (t : Bool) → eqb from.at 0 ≡ t → c ≡ pick t (step_of s from) from → P
      go true e q = k (eqb-true from.at 0 e) q
      go false e q = j (eqb-false from.at 0 e) q

  pub coming-start : Coming s from c
  coming-start =
      by-version _
      (λ z q. record { within = rw q (step-within (step-moves s from inside)); same = rw q (extent-onward s from inside) })
      (λ z q. record { within = rw q inside; same = ap (extent_of s) q })
    where
      step-within : (step_of s from ≡ from) ⊎ Moved s from → (step_of s from).at ≤ length s
      step-within (inl q) = rw q inside
      step-within (inr m) = m.within

  -- no version
  pub coming-none : c.at ≡ 0 → c ≡ extent_of s from
  coming-none z =
      by-version _
      (λ y q. q ∙ stay (step-moves s from inside) (ap (λ (d : Extent). d.at) (sym q) ∙ z) y)
      (λ y q. absurd (y (ap (λ (d : Extent). d.at) (sym q) ∙ z)))
    where
      stay : (step_of s from ≡ from) ⊎ Moved s from → (step_of s from).at ≡ 0 → from.at ≡ 0 → step_of s from ≡ extent_of s from
      stay (inl q) e f = q ∙ sym (steps-stay (length s) s from q)
      stay (inr m) e f = absurd (omega (arith, m.farther))

module _ (s : List ℕ) (from c d : Extent) (w : Coming s from c) (h : d ≡ step_of s c) where
  pub coming-done : d.at ≡ c.at → c ≡ extent_of s from
  coming-done e = go (step-moves s c w.within)
    where
      go : (step_of s c ≡ c) ⊎ Moved s c → c ≡ extent_of s from
      go (inl q) = sym (steps-stay (length s) s c q) ∙ w.same
      go (inr m) = absurd (omega (arith, m.farther, ap (λ (x : Extent). x.at) h))

  pub coming-next : (d.at ≡ c.at → ⊥) → Coming s from d × (c.at < d.at)
  coming-next e = go (step-moves s c w.within)
    where
      go : (step_of s c ≡ c) ⊎ Moved s c → Coming s from d × (c.at < d.at)
      go (inl q) = absurd (e (ap (λ (x : Extent). x.at) (h ∙ q)))
      go (inr m) =
          (record { within = rw h m.within; same = rw h (extent-onward s c w.within ∙ w.same) }, rw h m.farther)
