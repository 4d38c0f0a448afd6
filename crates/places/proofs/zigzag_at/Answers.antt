use Rattle.std.proofs.lemmas.Result.{err_from_is_err_and}
use Prim.Native.Nat.{◌+◌, ◌≤◌}
use lib.ListN.{length}
use native.Mathlib.Omega.{arith}
use Rattle.places.proofs.PlaceLaws.{code-in, code_at, code-no}
use Rattle.places.specs.Name.{read_zigzag}
use Rattle.counts.proofs.GroupLaws.{group}
use Rattle.places.proofs.zigzag_at.Goals as goal

pub overflow_add-result : goal.overflow_add-result
overflow_add-result c = let w : c.args.at + c.in_ok-v.n
    ≤ length c.args.s.now =
    code-in read_zigzag (λ s v n e. (group 4 15 s e).within)
    c.args.s.now _
    c.requires _ c.read_groups.ensures _ _
    c.in_ok-v.was in
    omega arith

pub returns : goal.returns
returns c = code_at read_zigzag (λ s v n e. (group 4 15 s e).within) _ _ c.requires _
    c.read_groups.ensures _ _ c.in_ok-v.was

pub returns-in_err-v : goal.returns-in_err-v
returns-in_err-v c = let p = err_from_is_err_and c.from_residual.result c.from_residual.ensures.1 in
    rw (p.1, p.2) (code-no read_zigzag (λ s v n e. (group 4 15 s e).within) _ _ c.requires _
    c.read_groups.ensures _ c.in_err-v.was)
