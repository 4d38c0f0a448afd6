use mathlib.Core.Path.{refl}
use mathlib.Core.List.{◌++◌}
use Prim.Native.Nat.{◌+◌, ◌-◌}
use native.Mathlib.Omega.{arith}
use Rattle.counts.specs.Count.{write_count}
use Rattle.pieces.proofs.PutLaws.{InTwo, copied, front-room, front-within, rest-room, both-sum, both-put}
use Rattle.renumbering.proofs.write_mention.Goals as goal
use Rattle.renumbering.proofs.write_mention.Goals.{After-copy-arg-1}

two : (c : goal.After-copy-arg-1) → InTwo (c.args.s.now ++ write_count c.args.v) c.args.s.now (write_count c.args.v) c.args.out.now
two c = record { all = refl; room = c.requires.1 }

pub copy-k-requires : goal.copy-k-requires
copy-k-requires c = front-room (two c)

pub slice_bounds-write_number-count : goal.slice_bounds-write_number-count
slice_bounds-write_number-count c = front-within (two (goal.at.slice_bounds-write_number-count c).After-copy-arg-1) (copied _ _ _ _ c.copy-k.ensures.value c.copy-k.ensures.dst_after)

pub slice_bounds-write_number-start : goal.slice_bounds-write_number-start
slice_bounds-write_number-start c = front-within (two (goal.at.slice_bounds-write_number-start c).After-copy-arg-1) (copied _ _ _ _ c.copy-k.ensures.value c.copy-k.ensures.dst_after)

pub write_number-requires : goal.write_number-requires
write_number-requires c = (c.requires.0, rest-room (two (goal.at.write_number-requires c).After-copy-arg-1) (copied _ _ _ _ c.copy-k.ensures.value c.copy-k.ensures.dst_after))

pub overflow_add-result : goal.overflow_add-result
overflow_add-result c = omega (arith, both-sum (two (goal.at.overflow_add-result c).After-copy-arg-1) (copied _ _ _ _ c.copy-k.ensures.value c.copy-k.ensures.dst_after) c.write_number.ensures, c.well_formed)

pub returns : goal.returns
returns c = both-put (two (goal.at.returns c).After-copy-arg-1) (copied _ _ _ _ c.copy-k.ensures.value c.copy-k.ensures.dst_after) c.write_number.ensures
