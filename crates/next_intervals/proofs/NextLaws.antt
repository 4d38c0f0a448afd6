-- Whether an interval of five bytes stands at a place. Assumes nothing.
use mathlib.Core.Path.{◌≡◌, refl}
use mathlib.Core.List.{List}
use Prim.Native.Nat.{ℕ, ◌+◌, ◌≤◌}
use lib.ListN.{length}
use Rattle.base.specs.Moment.{Finite, last_instant}
use Rattle.base.proofs.Parts.{Bytes}
use Rattle.interval_runs.specs.Run.{step_of}
use Rattle.interval_runs.proofs.RunLaws.{step-means}
use Rattle.next_intervals.specs.Next.{NextAt}

pub next-none : (s : List ℕ) (pool place prev : ℕ) → NextAt s pool place prev 0
next-none s pool place prev = record { room = λ z. absurd (z refl); stands = λ z. absurd (z refl) }

pub next-step : (s : List ℕ) (pool place prev m : ℕ) → Bytes s → Finite prev → place + 5 ≤ length s → m ≡ step_of s pool place prev → m ≤ last_instant
    → NextAt s pool place prev m
next-step s pool place prev m h f w e l = record { room = λ z. w; stands = λ z. step-means s pool place prev m h f w e z l }
