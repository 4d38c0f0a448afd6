-- The transition code's laws in signed ticks, from those over moments. Assumes nothing.
use Rattle.std.specs.Prelude.{Ok}
use mathlib.Core.Path.{◌≡◌, ap, sym, ◌∙◌}
use mathlib.Core.List.{List, ◌++◌}
use Prim.Native.Nat.{ℕ, ◌≤◌}
use lib.IntN.{ℤ}
use lib.ListN.{length}
use mir.Syntax.{w64}
use mir.Val.{SFits}
use Rattle.base.proofs.Parts.{Bytes}
use Rattle.base.proofs.MomentLaws.{Moment}
use Rattle.signed.specs.Number.{number}
use Rattle.signed.specs.Instant.{instant_of, ticks_of, moment_of}
use Rattle.signed.proofs.NumberLaws.{number-of}
use Rattle.signed.proofs.IntegerLaws.{moment-ticks, ticks-moment}
use Rattle.transitions.specs.Transition.{read_moment, write_moment, read_transition}
use Rattle.transitions.proofs.MomentLaws.{MomentRead, moment-read, moment-written, never-longer}

-- a transition that was written is read back, whatever follows
pub transition-written : (y z : ℤ) (rest : List ℕ) → SFits w64 z → Moment (moment_of z)
    → read_transition y (write_moment (instant_of y) (moment_of z) ++ rest) ≡ Ok (z, length (write_moment (instant_of y) (moment_of z)))
transition-written y z rest f h =
    ap (number ticks_of) (moment-written (instant_of y) (moment_of z) rest h)
    ∙ ap (λ (x : ℤ). Ok (x, length (write_moment (instant_of y) (moment_of z)))) (ticks-moment z f h)

-- a tick z that s gives in n bytes
module _ (y : ℤ) (s : List ℕ) {z : ℤ} {n : ℕ} (e : Ok (z, n) ≡ read_transition y s) where
  read_as : MomentRead s (number-of ticks_of (read_moment (instant_of y) s) e).value n
  read_as = moment-read (instant_of y) s (number-of ticks_of (read_moment (instant_of y) s) e).read

  same-moment : (number-of ticks_of (read_moment (instant_of y) s) e).value ≡ moment_of z
  same-moment =
      let o = number-of ticks_of (read_moment (instant_of y) s) e in
      sym (ap moment_of o.is ∙ moment-ticks o.value read_as.is)

  pub transition-read : MomentRead s (moment_of z) n
  transition-read = rw same-moment at read_as

  -- its written form, at the same previous one, is never longer
  pub transition-never-longer : Bytes s → length (write_moment (instant_of y) (moment_of z)) ≤ n
  transition-never-longer h =
      rw same-moment at (never-longer (instant_of y) s h (number-of ticks_of (read_moment (instant_of y) s) e).read)
