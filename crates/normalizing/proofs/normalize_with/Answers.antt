use Rattle.std.proofs.lemmas.Result.{err_from_is_err_and}
use mathlib.Core.Path.{sym, ◌∙◌}
use native.Mathlib.Omega.{arith}
use borrow.Author.Tests.{leb-true}
use Rattle.base.proofs.Parts.{Bytes}
use Rattle.rewrite.proofs.OutcomeLaws.{rewrite-refused, rewrite-short, rewrite-put}
use Rattle.preferred_walks.proofs.ReadyLaws.{checked-ready}
use Rattle.normalizing.proofs.normalize_with.Goals as goal
use Rattle.normalizing.proofs.normalize_with.Goals.{After-check_flags-arg-1}

bytes : (c : goal.After-check_flags-arg-1) → Bytes c.args.s.now
bytes c i = omega (arith, c.shared_slice_known-1.given i)

pub has_room-requires : goal.has_room-requires
has_room-requires c = checked-ready _ _ _ c.check_flags.ensures.0 c.check_flags.ensures.1 c.in_ok-check_flags.was (bytes (goal.at.has_room-requires c).After-check_flags-arg-1)

pub write_file-requires : goal.write_file-requires
write_file-requires c = (
  checked-ready _ _ _ c.check_flags.ensures.0 c.check_flags.ensures.1 c.in_ok-check_flags.was (bytes (goal.at.write_file-requires c).After-check_flags-arg-1),
  leb-true _ _ (sym c.has_room.ensures ∙ c.if-has_room.true),
)

pub returns-then-has_room : goal.returns-then-has_room
returns-then-has_room c = rewrite-put _ _ _ c.check_flags.ensures.0 c.in_ok-check_flags.was _ c.has_room.ensures _ _ c.if-has_room.true
    c.write_file.ensures

pub returns-in_err-check_flags : goal.returns-in_err-check_flags
returns-in_err-check_flags c = let p = err_from_is_err_and c.from_residual.result c.from_residual.ensures.1 in
    rw (p.1, p.2) (rewrite-refused _ _ _ c.check_flags.ensures.0 _ _ c.in_err-check_flags.was)

pub returns : goal.returns
returns c = rewrite-short _ _ _ c.check_flags.ensures.0 c.in_ok-check_flags.was _ c.has_room.ensures c.if-has_room.false
