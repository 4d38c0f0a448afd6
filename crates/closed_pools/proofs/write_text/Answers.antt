use Prim.Native.Nat.{◌-◌}
use native.Mathlib.Omega.{arith}
use lib.ListN.{length}
use Rattle.counts.specs.Count.{write_count}
use Rattle.texts.specs.Text.{write_text}
use Rattle.pieces.proofs.PutLaws.{InTwo, copied, front-room, front-within, rest-room, both-sum, both-put}
use Rattle.closed_pools.proofs.TextsLaws.{text-two}
use Rattle.closed_pools.proofs.write_text.Goals as goal
use Rattle.closed_pools.proofs.write_text.Goals.{After-write_number-arg-1}

two : (c : goal.After-write_number-arg-1) → InTwo (write_text c.args.t.now) (write_count (length c.args.t.now)) c.args.t.now c.args.out.now
two c = text-two _ _ c.requires.1

pub write_number-w-requires : goal.write_number-w-requires
write_number-w-requires c = (omega (arith, c.requires.0), front-room (two c))

pub slice_bounds-copy-count : goal.slice_bounds-copy-count
slice_bounds-copy-count c = front-within (two (goal.at.slice_bounds-copy-count c).After-write_number-arg-1) c.write_number-w.ensures

pub slice_bounds-copy-start : goal.slice_bounds-copy-start
slice_bounds-copy-start c = front-within (two (goal.at.slice_bounds-copy-start c).After-write_number-arg-1) c.write_number-w.ensures

pub copy-requires : goal.copy-requires
copy-requires c = rest-room (two (goal.at.copy-requires c).After-write_number-arg-1) c.write_number-w.ensures

pub overflow_add-result : goal.overflow_add-result
overflow_add-result c = omega (arith, both-sum (two (goal.at.overflow_add-result c).After-write_number-arg-1) c.write_number-w.ensures (copied _ _ _ _ c.copy.ensures.value c.copy.ensures.dst_after), c.well_formed)

pub returns : goal.returns
returns c = both-put (two (goal.at.returns c).After-write_number-arg-1) c.write_number-w.ensures (copied _ _ _ _ c.copy.ensures.value c.copy.ensures.dst_after)
