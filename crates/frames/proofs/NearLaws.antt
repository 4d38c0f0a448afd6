-- The place at which a walk ends is at most 4,194,304, for any job. Assumes nothing.
use mathlib.Core.Path.{◌≡◌, refl}
use mathlib.Core.Bool.{true, false}
use mathlib.Core.List.{List}
use Prim.Native.Nat.{ℕ, ◌+◌, ◌≤◌}
use native.Mathlib.Omega.{arith}
use lib.ListN.{drop}
use Rattle.base.specs.Run.{Step, stop, next}
use Rattle.frames.specs.Frame.{frame}
use Rattle.frames.specs.Machine.{Out, found, refused, cut, ended, Content, bad, answer, keep, Job, State, state_at, field_at, verdict, onward, act, step, from, walk}
use Rattle.frames.specs.declared.Frame.{Frame}
use Rattle.frames.specs.declared.Frame.TheVariants.{End, Cut, Refused as Unframed, Version, Whole}
use Rattle.frames.proofs.StepLaws.{whole_room, version-room}
use Rattle.frames.proofs.WalkLaws.{from-ind, from-stop, from_next}

abbrev NearTo : {M A : Type 0} → Out M A → Type 0
NearTo (found v p) = Unit {0}
NearTo (refused n p) = p ≤ 4194304
NearTo (cut p) = p ≤ 4194304
NearTo (ended m p) = p ≤ 4194304

-- a walk that gives no answer ends at a small place
pub record Near {M A : Type 0} (o : Out M A) : Type 0 where
  pub to : NearTo o

module _ {M A : Type 0} (J : Job M A) where
  unfoldable StepNear : Step (State M) (Out M A) → Type 0
  StepNear (stop o) = Near o
  StepNear (next τ) = τ.at ≤ 4194304

  act-near : (σ : State M) (f : Frame) → f ≡ frame J.last σ.at σ.seen σ.prev σ.rest → σ.at ≤ 4194304
      → StepNear (act J σ.at σ.rest σ.mem f)
  unfolding act StepNear
  act-near σ End e l = record { to = l }
  act-near σ Cut e l = record { to = l }
  act-near σ (Unframed n) e l = record { to = l }
  act-near σ Version e l = omega (arith, (version-room J.last σ.at σ.seen σ.prev σ.rest e).0)
  act-near σ (Whole i h n) e l = go (J.content σ.mem (field_at σ.at σ.rest i h n))
    where
      go : (x : Content M A)
          → StepNear (onward (verdict (field_at σ.at σ.rest i h n) x)
          (λ m'. next (state_at (σ.at + (h + n)) (drop (h + n) σ.rest) true i m')))
      go (bad k) = record { to = l }
      go (answer v) = record { to = tt }
      go (keep m) = (whole_room J.last σ.at σ.seen σ.prev σ.rest i h n e).limit

  step-near : (σ : State M) → σ.at ≤ 4194304 → StepNear (step J σ)
  unfolding step
  step-near σ l = act-near σ _ refl l

  near_step : (σ : State M) → ((τ : State M) → step J σ ≡ next τ → τ.at ≤ 4194304 → Near (from J τ)) → σ.at ≤ 4194304 → Near (from J σ)
  unfolding StepNear
  near_step σ rec l = go (step J σ) refl (step-near σ l)
    where
      go : (x : Step (State M) (Out M A)) → step J σ ≡ x → StepNear x → Near (from J σ)
      go (stop o) e n = rw (from-stop J σ o e) n
      go (next τ) e n = rw (from_next J σ τ e) (rec τ e n)

  from-near : (σ : State M) → σ.at ≤ 4194304 → Near (from J σ)
  from-near σ = from-ind J (λ τ. τ.at ≤ 4194304 → Near (from J τ)) near_step σ

  pub walk-near : (m : M) (bs : List ℕ) → Near (walk J m bs)
  unfolding walk
  walk-near m bs = from-near (state_at 0 bs false 0 m) (omega arith)
