use Rattle.std.proofs.lemmas.Result.{err_from_is_err_and}
use mathlib.Core.Path.{◌≡◌, ap, sym, ◌∙◌}
use Prim.Native.Nat.{ℕ}
use mir.Syntax.{w64}
use mir.Facts.{to_z-of_z}
use Rattle.signed.specs.Number.{number}
use Rattle.signed.specs.Instant.{instant_of, ticks_of}
use Rattle.transitions.specs.Transition.{read_moment}
use Rattle.transition_readers.proofs.read_transition.Goals as goal
use Rattle.transition_readers.proofs.read_transition.Goals.{After-read_moment}

-- what was read after the previous one's instant
read : (c : goal.After-read_moment) → c.read_moment.result ≡ read_moment (instant_of c.args.previous) c.args.s.now
read c =
    c.read_moment.ensures
    ∙ ap (λ (p : ℕ). read_moment p c.args.s.now) (rw (to_z-of_z c.ranges.previous) at c.instant.ensures)

pub returns : goal.returns
returns c = rw (to_z-of_z {w = w64} {z = c.ticks.result} (record { sfits = c.ticks.type_inv }), c.ticks.ensures)
    (ap (number ticks_of) (sym c.in_ok-m.was ∙ read (goal.at.returns c).After-read_moment))

pub returns-in_err-m : goal.returns-in_err-m
returns-in_err-m c = let p = err_from_is_err_and c.from_residual.result c.from_residual.ensures.1 in
    rw (p.1, p.2) (ap (number ticks_of) (sym c.in_err-m.was ∙ read (goal.at.returns-in_err-m c).After-read_moment))
