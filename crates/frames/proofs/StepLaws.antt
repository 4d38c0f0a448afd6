-- For the code of a job: what it knows behind each frame that it reads, and how its walk goes on from there. Assumes nothing.
use Rattle.base.specs.declared.Refusal.{Refusal}
use mathlib.Core.Path.{◌≡◌, sym}
use mathlib.Core.Bool.{Bool, true, false}
use mathlib.Core.List.{List}
use Prim.Native.Nat.{ℕ, ◌+◌, ◌≤◌, ◌<◌}
use native.Mathlib.Omega.{arith}
use lib.ListN.{length, drop}
use Rattle.frames.specs.Frame.{largest, frame}
use Rattle.frames.specs.Machine.{found, refused, cut, ended, bad, answer, keep, Job, State, state_at, field_at, act, step, from}
use Rattle.frames.specs.declared.Frame.TheVariants.{End, Cut, Refused, Version, Whole}
use Rattle.frames.proofs.FrameLaws.{frame-long}
use Rattle.frames.proofs.HeadLaws.{whole-headed, version-place}
use Rattle.frames.proofs.WalkLaws.{from-stop, from_next}

-- a whole field's head and data are there, and end at a small place
pub record Room (at h n : ℕ) (r : List ℕ) : Type 0 where
  pub head : 0 < h
  pub within : h + n ≤ length r
  pub limit : at + (h + n) ≤ largest

module _ (last at : ℕ) (seen : Bool) (prev : ℕ) (r : List ℕ) where
  pub whole_room : (i h n : ℕ) → Whole i h n ≡ frame last at seen prev r → Room at h n r
  whole_room i h n e =
      let d = whole-headed last at seen prev r i h n (sym e) in
      record { head = omega (arith, d.head); within = d.whole; limit = d.limit }

  pub version-room : Version ≡ frame last at seen prev r → (at ≡ 0) × (4 ≤ length r)
  version-room e = (version-place last at seen prev r (sym e), (rw (sym e) at (frame-long last at seen prev r).by).1)

module _ {M A : Type 0} (J : Job M A) (at : ℕ) (r : List ℕ) (seen : Bool) (prev : ℕ) (m : M) where
  abbrev here : State M
  here = state_at at r seen prev m

  pub from-end : End ≡ frame J.last at seen prev r → from J here ≡ ended m at
  unfolding step act
  from-end e = from-stop J here _ (rw (sym e))

  pub from_cut : Cut ≡ frame J.last at seen prev r → from J here ≡ cut at
  unfolding step act
  from_cut e = from-stop J here _ (rw (sym e))

  pub from-refused : (n : Refusal) → Refused n ≡ frame J.last at seen prev r → from J here ≡ refused n at
  unfolding step act
  from-refused n e = from-stop J here _ (rw (sym e))

  pub from-version : Version ≡ frame J.last at seen prev r → from J here ≡ from J (state_at (at + 4) (drop 4 r) false 0 m)
  unfolding step act
  from-version e = from_next J here (state_at (at + 4) (drop 4 r) false 0 m) (rw (sym e))

  module _ (i h n : ℕ) (e : Whole i h n ≡ frame J.last at seen prev r) where
    pub from-bad : (k : Refusal) → J.content m (field_at at r i h n) ≡ bad k → from J here ≡ refused k at
    unfolding step act
    from-bad k c = from-stop J here _ (rw (sym e, c))

    pub from-answer : (v : A) → J.content m (field_at at r i h n) ≡ answer v → from J here ≡ found v (at + (h + n))
    unfolding step act
    from-answer v c = from-stop J here _ (rw (sym e, c))

    pub from-keep : (m' : M) → J.content m (field_at at r i h n) ≡ keep m'
        → from J here ≡ from J (state_at (at + (h + n)) (drop (h + n) r) true i m')
    unfolding step act
    from-keep m' c = from_next J here (state_at (at + (h + n)) (drop (h + n) r) true i m') (rw (sym e, c))
