use native.Mathlib.Omega.{arith}
use Prim.Native.Nat.{◌+◌, ◌/◌}
use lib.ListN.{length-set}
use mathlib.Core.List.{◌∷◌}
use Rattle.base.proofs.WriteLaws.{no_room, stored}
use Rattle.counts.specs.Fixed.{fixed_bytes}
use Rattle.offset_writers.proofs.write_seconds.Goals as goal

pub returns-then-out-lt3 : goal.returns-then-out-lt3
unfolding fixed_bytes
returns-then-out-lt3 c = no_room ((160 + c.args.v / 65536) ∷ fixed_bytes 2 c.args.v) _ (omega arith)

pub returns : goal.returns
unfolding fixed_bytes
returns c = stored ((160 + c.args.v / 65536) ∷ fixed_bytes 2 c.args.v) c.args.out.now (omega arith)

pub bounds-out-1 : goal.bounds-out-1
bounds-out-1 c = simp length-set (omega arith)

pub bounds-out-2 : goal.bounds-out-2
bounds-out-2 c = simp length-set (omega arith)

pub shape_of-out : goal.shape_of-out
shape_of-out c = simp length-set
