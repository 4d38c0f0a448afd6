use mathlib.Core.List.{[], ◌∷◌}
use native.Mathlib.Omega.{arith}
use Rattle.pieces.proofs.PutLaws.{InTwo, front-room, front-within, rest-room, both-sum, both-put}
use Rattle.rewrite.specs.Preferred.{content, print_fields, preferred}
use Rattle.preferred_walks.proofs.ReadyLaws.{file-two}
use Rattle.preferred_walks.proofs.write_file.Goals as goal
use Rattle.preferred_walks.proofs.write_file.Goals.{After-write_version-arg-1}

two : (c : goal.After-write_version-arg-1) → InTwo (preferred c.args.s.now) (0 ∷ 0 ∷ 0 ∷ 0 ∷ []) (print_fields (content c.args.s.now)) c.args.out.now
two c = file-two _ _ c.requires.1

pub write_version-w-requires : goal.write_version-w-requires
write_version-w-requires c = front-room (two c)

pub slice_bounds-write_fields-count : goal.slice_bounds-write_fields-count
slice_bounds-write_fields-count c = front-within (two (goal.at.slice_bounds-write_fields-count c).After-write_version-arg-1) c.write_version-w.ensures

pub slice_bounds-write_fields-start : goal.slice_bounds-write_fields-start
slice_bounds-write_fields-start c = front-within (two (goal.at.slice_bounds-write_fields-start c).After-write_version-arg-1) c.write_version-w.ensures

pub write_fields-requires : goal.write_fields-requires
write_fields-requires c = (c.requires.0, rest-room (two (goal.at.write_fields-requires c).After-write_version-arg-1) c.write_version-w.ensures)

pub overflow_add-result : goal.overflow_add-result
overflow_add-result c = omega (arith, both-sum (two (goal.at.overflow_add-result c).After-write_version-arg-1) c.write_version-w.ensures c.write_fields.ensures, c.well_formed)

pub returns : goal.returns
returns c = both-put (two (goal.at.returns c).After-write_version-arg-1) c.write_version-w.ensures c.write_fields.ensures
