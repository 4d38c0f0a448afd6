use Rattle.std.proofs.lemmas.Result.{err_from_is_err_and}
use Rattle.std.specs.Prelude.{Ok}
use native.Mathlib.Omega.{arith}
use mathlib.Core.Path.{◌≡◌, ap, sym, ◌∙◌}
use Prim.Native.Nat.{◌+◌}
use Rattle.counts.specs.Fixed.{read_fixed}
use Rattle.counts.proofs.FixedLaws.{fixed-read}
use Rattle.transitions.specs.Transition.{from_ticks}
use Rattle.transitions.proofs.MomentLaws.{ticks-none, ticks-some}
use Rattle.transition_readers.proofs.from_ticks.Goals as goal
use Rattle.transition_readers.proofs.from_ticks.Goals.{In_ok-raw}

-- the number of the eight bytes
eight : (c : goal.In_ok-raw) → Ok (c.in_ok-raw.raw, c.in_ok-raw.m) ≡ read_fixed 8 0 c.args.s.now
eight c = sym c.in_ok-raw.was ∙ c.read_fixed.ensures

pub returns-then-t-eq0 : goal.returns-then-t-eq0
returns-then-t-eq0 c = ticks-none (c.args.n + c.in_ok-raw.m) c.in_ok-raw.raw _ c.from_raw-t.ensures c.if-t-eq0.true ∙ ap (from_ticks _) (eight (goal.at.returns-then-t-eq0 c).In_ok-raw)

pub overflow_add-result : goal.overflow_add-result
overflow_add-result c = omega (arith, (fixed-read 8 0 c.args.s.now (eight (goal.at.overflow_add-result c).In_ok-raw)).size)

pub returns-else-t-eq0 : goal.returns-else-t-eq0
returns-else-t-eq0 c = ticks-some _ c.in_ok-raw.raw _ c.from_raw-t.ensures c.if-t-eq0.false ∙ ap (from_ticks _) (eight (goal.at.returns-else-t-eq0 c).In_ok-raw)

pub returns-in_err-raw : goal.returns-in_err-raw
returns-in_err-raw c = let p = err_from_is_err_and c.from_residual.result c.from_residual.ensures.1 in
    rw (p.1, p.2) (ap (from_ticks _) (sym c.in_err-raw.was ∙ c.read_fixed.ensures))
