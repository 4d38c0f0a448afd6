-- A frame that was read at a place of the bytes: what is known of it there, and how the walk of any job goes on from it. Assumes nothing.
use Rattle.base.specs.declared.Refusal.{Refusal}
use mathlib.Core.Path.{◌≡◌, refl, sym, ap, ◌∙◌}
use mathlib.Core.Bool.{Bool, true, false}
use mathlib.Core.List.{List, [], ◌∷◌}
use Prim.Native.Nat.{ℕ, ◌+◌, ◌-◌, ◌≤◌, ◌<◌}
use native.Mathlib.Omega.{arith}
use lib.ListN.{length, take, drop, length-drop}
use lib.Seq.{drop-drop}
use lib.Dec.{eqb}
use borrow.Author.Tests.{le-ltb, eqb-true}
use Rattle.base.specs.Pick.{pick}
use Rattle.base.proofs.Parts.{part-from}
use Rattle.frames.specs.Frame.{largest, order, version, field, frame}
use Rattle.frames.specs.Machine.{found, refused, cut, ended, bad, answer, keep, Job, State, state_at, field_at, from, walk}
use Rattle.frames.specs.declared.Frame.{Frame}
use Rattle.frames.specs.declared.Frame.TheVariants.{End, Cut, Refused, Version, Whole}
use Rattle.frames.proofs.HeadLaws.{whole-headed, order-follows, order-first}
use Rattle.frames.proofs.StepLaws.{whole_room, version-room, from-end, from_cut, from-refused, from-version, from-bad, from-answer, from-keep}

-- the data of the field at a place, as a part of all the bytes
pub body-part : (s : List ℕ) (at h n : ℕ) → take n (drop h (drop at s)) ≡ take (at + h + n - (at + h)) (drop (at + h) s)
body-part s at h n =
    let e : at + h + n - (at + h) ≡ n = omega arith in
    rw (drop-drop, e)

module _ {M A : Type 0} (J : Job M A) (s : List ℕ) (at : ℕ) (seen : Bool) (prev : ℕ) (m : M) (inside : at ≤ length s)
    (f : Frame) (read : f ≡ frame J.last at seen prev (take (length s - at) (drop at s))) where
  abbrev σ : State M
  σ = state_at at (drop at s) seen prev m

  lent : (x : Frame) → f ≡ x → x ≡ frame J.last at seen prev (drop at s)
  lent x e = sym e ∙ (rw (part-from at s) at read)

  pub at-end : f ≡ End → from J σ ≡ ended m at
  at-end e = from-end J at (drop at s) seen prev m (lent End e)

  pub at_cut : f ≡ Cut → from J σ ≡ cut at
  at_cut e = from_cut J at (drop at s) seen prev m (lent Cut e)

  pub at-refused : (n : Refusal) → f ≡ Refused n → from J σ ≡ refused n at
  at-refused n e = from-refused J at (drop at s) seen prev m n (lent (Refused n) e)

  pub at-version : f ≡ Version → at ≡ 0
  at-version e = (version-room J.last at seen prev (drop at s) (lent Version e)).0

  module _ (i h n : ℕ) (e : f ≡ Whole i h n) where
    here : Whole i h n ≡ frame J.last at seen prev (drop at s)
    here = lent (Whole i h n) e

    pub whole-inside : (0 < h) × (at + h + n ≤ length s) × (at + h + n ≤ largest)
    whole-inside =
        let r = whole_room J.last at seen prev (drop at s) i h n here in
        (r.head, omega (arith, r.within, length-drop at s), omega (arith, r.limit))

    pub whole-later : seen ≡ true → 0 < i
    whole-later k = (order-follows prev i (rw k at (whole-headed J.last at seen prev (drop at s) i h n (sym here)).ordered)).some

    pub whole-first : seen ≡ false → i ≡ 0
    whole-first k = order-first prev i (rw k at (whole-headed J.last at seen prev (drop at s) i h n (sym here)).ordered)

    -- by what the field says
    pub at-bad : (k : Refusal) → J.content m (field_at at (drop at s) i h n) ≡ bad k → from J σ ≡ refused k at
    at-bad k c = from-bad J at (drop at s) seen prev m i h n here k c

    pub at-answer : (v : A) → J.content m (field_at at (drop at s) i h n) ≡ answer v → from J σ ≡ found v (at + h + n)
    at-answer v c =
        let e₁ : at + (h + n) ≡ at + h + n = omega arith in
        from-answer J at (drop at s) seen prev m i h n here v c ∙ rw e₁

    pub at-keep : (m' : M) → J.content m (field_at at (drop at s) i h n) ≡ keep m'
        → from J σ ≡ from J (state_at (at + h + n) (drop (at + h + n) s) true i m')
    at-keep m' c =
        let e₁ : at + (h + n) ≡ at + h + n = omega arith in
        from-keep J at (drop at s) seen prev m i h n here m' c ∙ rw (drop-drop, e₁)

-- at the front of all the bytes
module _ {M A : Type 0} (J : Job M A) (m : M) (s : List ℕ) where
  pub front-end : End ≡ frame J.last 0 false 0 s → walk J m s ≡ ended m 0
  unfolding walk
  front-end e = from-end J 0 s false 0 m e

  pub front_cut : Cut ≡ frame J.last 0 false 0 s → walk J m s ≡ cut 0
  unfolding walk
  front_cut e = from_cut J 0 s false 0 m e

  pub front-refused : (n : Refusal) → Refused n ≡ frame J.last 0 false 0 s → walk J m s ≡ refused n 0
  unfolding walk
  front-refused n e = from-refused J 0 s false 0 m n e

  pub front-version : Version ≡ frame J.last 0 false 0 s → walk J m s ≡ from J (state_at 4 (drop 4 s) false 0 m)
  unfolding walk
  front-version e = from-version J 0 s false 0 m e

-- the first field has the ID 0 or is refused, so it is the same to a job that goes to any last ID
pub first_frame : (last k at prev : ℕ) (r : List ℕ) → frame last at false prev r ≡ frame k at false prev r
unfolding frame field order
first_frame last k at prev [] = refl
first_frame last k at prev (i ∷ r) = ap (pick (eqb at 0) (version (i ∷ r))) (go (eqb i 0) refl)
  where
    go : (t : Bool) → eqb i 0 ≡ t → field last at false prev (i ∷ r) ≡ field k at false prev (i ∷ r)
    go true e =
        let z : i ≡ 0 = eqb-true i 0 e in
        rw (e, le-ltb last i (omega arith), le-ltb k i (omega arith))
    go false e = rw e

pub version-inside : (last : ℕ) (s : List ℕ) → Version ≡ frame last 0 false 0 s → 4 ≤ length s
version-inside last s e = (version-room last 0 false 0 s e).1

pub no-field : {A : Type 0} (last : ℕ) (s : List ℕ) (i h n : ℕ) → Whole i h n ≡ frame last 0 false 0 s → A
no-field last s i h n e = absurd ((whole-headed last 0 false 0 s i h n (sym e)).place refl)
