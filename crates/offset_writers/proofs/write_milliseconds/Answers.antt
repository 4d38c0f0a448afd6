use native.Mathlib.Omega.{arith}
use Prim.Native.Nat.{◌+◌, ◌/◌}
use lib.ListN.{length-set}
use mathlib.Core.List.{◌∷◌}
use Rattle.base.proofs.WriteLaws.{no_room, stored}
use Rattle.counts.specs.Fixed.{fixed_bytes}
use Rattle.offset_writers.proofs.write_milliseconds.Goals as goal

pub returns-then-out-lt4 : goal.returns-then-out-lt4
unfolding fixed_bytes
returns-then-out-lt4 c = no_room ((192 + c.args.v / 16777216) ∷ fixed_bytes 3 c.args.v) _ (omega arith)

pub returns : goal.returns
unfolding fixed_bytes
returns c = stored ((192 + c.args.v / 16777216) ∷ fixed_bytes 3 c.args.v) c.args.out.now (omega arith)

pub bounds-out-1 : goal.bounds-out-1
bounds-out-1 c = simp length-set (omega arith)

pub bounds-out-2 : goal.bounds-out-2
bounds-out-2 c = simp length-set (omega arith)

pub bounds-out-3 : goal.bounds-out-3
bounds-out-3 c = simp length-set (omega arith)

pub shape_of-out : goal.shape_of-out
shape_of-out c = simp length-set
