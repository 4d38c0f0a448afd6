-- The walk of any job, step by step, and as a pass over the list of the file's fields. Assumes nothing.
use mathlib.Core.Path.{◌≡◌, refl}
use mathlib.Core.Bool.{true}
use mathlib.Core.List.{List}
use Prim.Native.Nat.{ℕ, zero, suc, ◌+◌, ◌<◌}
use native.Mathlib.Omega.{arith}
use lib.ListN.{length, drop, length-drop}
use Rattle.base.specs.Run.{Step, stop, next, follow, iterate}
use Rattle.base.proofs.RunLaws.{run-stop, run-next, run-ind}
use Rattle.frames.specs.Frame.{frame}
use Rattle.frames.specs.Machine.{Out, cut, Content, bad, answer, keep, Job, State, state_at, field_at}
use Rattle.frames.specs.Machine.{verdict, onward, act, step, from, walk}
use Rattle.frames.specs.Fields.{listed, scan, listing, pass, outcome, over}
use Rattle.frames.specs.declared.Frame.{Frame}
use Rattle.frames.specs.declared.Frame.TheVariants.{End, Cut, Refused, Version, Whole}
use Rattle.frames.proofs.FrameLaws.{Long, frame-long}

-- a step forward over bytes that end at one place
pub record Moves {M : Type 0} (σ τ : State M) : Type 0 where
  pub forward : σ.at < τ.at
  pub same_end : τ.at + length τ.rest ≡ σ.at + length σ.rest

module _ {M A : Type 0} (J : Job M A) where
  unfoldable GoesTo : State M → Step (State M) (Out M A) → Type 0
  GoesTo σ (stop o) = Unit {0}
  GoesTo σ (next τ) = Moves σ τ

  act-goes : (σ : State M) (f : Frame) → Long 0 (length σ.rest) f → GoesTo σ (act J σ.at σ.rest σ.mem f)
  unfolding act GoesTo
  act-goes σ End l = tt
  act-goes σ Cut l = tt
  act-goes σ (Refused n) l = tt
  act-goes σ Version l = record { forward = omega arith; same_end = rw length-drop (omega (arith, l.by)) }
  act-goes σ (Whole i h n) l = go (J.content σ.mem (field_at σ.at σ.rest i h n))
    where
      go : (x : Content M A)
          → GoesTo σ (onward (verdict (field_at σ.at σ.rest i h n) x)
          (λ m'. next (state_at (σ.at + (h + n)) (drop (h + n) σ.rest) true i m')))
      go (bad k) = tt
      go (answer v) = tt
      go (keep m) = record { forward = omega (arith, l.by); same_end = rw length-drop (omega (arith, l.by)) }

  pub step-moves : (σ τ : State M) → step J σ ≡ next τ → Moves σ τ
  unfolding step GoesTo
  step-moves σ τ h = rw h at (act-goes σ _ (frame-long J.last σ.at σ.seen σ.prev σ.rest))

  step_falls : (σ τ : State M) → step J σ ≡ next τ → length τ.rest < length σ.rest
  step_falls σ τ h = omega (arith, step-moves σ τ h)

  pub from-stop : (σ : State M) (o : Out M A) → step J σ ≡ stop o → from J σ ≡ o
  from-stop σ o h = run-stop (step J) (cut 0) (λ τ. length τ.rest) σ o h

  pub from_next : (σ τ : State M) → step J σ ≡ next τ → from J σ ≡ from J τ
  from_next σ τ h = run-next (step J) (cut 0) (λ τ. length τ.rest) step_falls σ τ h

  -- what holds of a state if it holds of the one after it holds of all
  pub from-ind : (P : State M → Type 0) → ((σ : State M) → ((τ : State M) → step J σ ≡ next τ → P τ) → P σ) → (σ : State M) → P σ
  from-ind P h σ = run-ind (step J) (cut 0) (λ τ. length τ.rest) step_falls P h σ

  iterate-pass : (k : ℕ) (σ : State M)
      → iterate (step J) (cut 0) k σ ≡ over J.content σ.mem (scan k J.last σ.at σ.seen σ.prev σ.rest)
  unfolding iterate step act scan pass
  iterate-pass zero σ = refl
  iterate-pass (suc k) σ = go (frame J.last σ.at σ.seen σ.prev σ.rest) (iterate-pass k)
    where
      go : (f : Frame)
          → ((τ : State M) → iterate (step J) (cut 0) k τ ≡ over J.content τ.mem (scan k J.last τ.at τ.seen τ.prev τ.rest))
          → follow (act J σ.at σ.rest σ.mem f) (iterate (step J) (cut 0) k)
          ≡ over J.content σ.mem (listed σ.at σ.rest f (scan k J.last))
      go End rec = refl
      go Cut rec = refl
      go (Refused n) rec = refl
      go Version rec = rec _
      go (Whole i h n) rec = whole (J.content σ.mem (field_at σ.at σ.rest i h n))
        where
          whole : (x : Content M A)
              → follow (onward (verdict (field_at σ.at σ.rest i h n) x)
              (λ m'. next (state_at (σ.at + (h + n)) (drop (h + n) σ.rest) true i m')))
              (iterate (step J) (cut 0) k)
              ≡ follow (onward (verdict (field_at σ.at σ.rest i h n) x)
              (λ m'. pass J.content m' (scan k J.last (σ.at + (h + n)) true i (drop (h + n) σ.rest)).fields))
              (outcome (scan k J.last (σ.at + (h + n)) true i (drop (h + n) σ.rest)).ending)
          whole (bad n) = refl
          whole (answer v) = refl
          whole (keep m) = rec _

  -- THE WALK OF A JOB is its pass over the fields of the file, then their ending
  pub walk-pass : (m : M) (bs : List ℕ) → walk J m bs ≡ over J.content m (listing J.last bs)
  unfolding walk listing
  walk-pass m bs = iterate-pass (suc (length bs)) _
