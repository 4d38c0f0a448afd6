use Rattle.std.proofs.lemmas.Result.{err_from_is_err_and}
use Prim.Native.Nat.{◌+◌, ◌≤◌}
use lib.ListN.{length}
use native.Mathlib.Omega.{arith}
use Rattle.places.proofs.PlaceLaws.{code-in, code_at, code-no}
use Rattle.transitions.specs.Transition.{read_moment}
use Rattle.transitions.proofs.MomentLaws.{moment-read}
use Rattle.places.proofs.moment_at.Goals as goal

pub overflow_add-result : goal.overflow_add-result
overflow_add-result c = let w : c.args.at + c.in_ok-v.n
    ≤ length c.args.s.now =
    code-in (read_moment c.args.prev)
    (λ s v n e. (moment-read _ s e).within) c.args.s.now _
    c.requires _ c.read_moment.ensures _ _
    c.in_ok-v.was in
    omega arith

pub returns : goal.returns
returns c = code_at (read_moment c.args.prev) (λ s v n e. (moment-read _ s e).within) _ _
    c.requires _ c.read_moment.ensures _ _
    c.in_ok-v.was

pub returns-in_err-v : goal.returns-in_err-v
returns-in_err-v c = let p = err_from_is_err_and c.from_residual.result c.from_residual.ensures.1 in
    rw (p.1, p.2) (code-no (read_moment c.args.prev) (λ s v n e. (moment-read _ s e).within) _ _
    c.requires _ c.read_moment.ensures _
    c.in_err-v.was)
