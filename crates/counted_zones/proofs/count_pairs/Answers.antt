use Rattle.counted_zones.proofs.PairLaws.{pairs-room, pairs-room-2, pairs-going}
use Rattle.counted_zones.proofs.CountLaws.{list-rises}
use lib.ListN.{length}
use Prim.Native.Nat.{◌+◌, ◌*◌, ◌≤◌}
use native.Mathlib.Omega.{arith}
use Rattle.counted_zones.proofs.count_pairs.Goals as goal
use Rattle.counted_zones.proofs.count_pairs.Goals.{After-mention_times-arg-1}

few : (c : goal.After-mention_times-arg-1) → (2 * c.pairs-c.result ≤ c.args.left) × (c.args.at + 10 * c.pairs-c.result ≤ length c.args.s.now)
few c =
    let r = list-rises c.args.s.now c.args.at c.args.left in
    (omega (arith, c.pairs-c.ensures.1, c.fitting-n.ensures.0), omega (arith, c.pairs-c.ensures.1, c.fitting-n.ensures.1, c.requires.0))

pub overflow_sub-s : goal.overflow_sub-s
overflow_sub-s c = omega (arith, list-rises c.args.s.now c.args.at c.args.left, c.requires.0)

pub overflow_cast-k : goal.overflow_cast-k
overflow_cast-k c = omega (arith, c.shared_slice_known-2-1.given (c.args.at + 2))

pub overflow_cast-c : goal.overflow_cast-c
overflow_cast-c c = omega (arith, (few c).1, c.requires.1.room 0)

pub mention_times-requires : goal.mention_times-requires
mention_times-requires c = pairs-room _ _ _ _ c.requires.0 c.requires.1 _ _ _ c.pairs-c.ensures.0 (few c).0 (few c).1

pub overflow_cast-c-2 : goal.overflow_cast-c-2
overflow_cast-c-2 c = omega (arith, (few (goal.at.overflow_cast-c-2 c).After-mention_times-arg-1).1, c.requires.1.room 0)

pub mention_times-requires-2 : goal.mention_times-requires-2
mention_times-requires-2 c = pairs-room-2 _ _ _ _ c.requires.0 c.requires.1 _ _ _ c.pairs-c.ensures.0 (few (goal.at.mention_times-requires-2 c).After-mention_times-arg-1).0 (few (goal.at.mention_times-requires-2 c).After-mention_times-arg-1).1 _ c.mention_times.ensures

pub returns : goal.returns
returns c = (pairs-going _ _ _ _ c.requires.0 c.requires.1 _ _ _ c.pairs-c.ensures.0 (few (goal.at.returns c).After-mention_times-arg-1).0 (few (goal.at.returns c).After-mention_times-arg-1).1 _ _ c.mention_times.ensures c.mention_times-2.ensures, omega arith)
