use native.Mathlib.Omega.{arith}
use Prim.Native.Nat.{◌+◌, ◌/◌}
use lib.ListN.{length-set}
use mathlib.Core.List.{◌∷◌}
use Rattle.base.proofs.WriteLaws.{no_room, stored}
use Rattle.counts.specs.Fixed.{fixed_bytes}
use Rattle.offset_writers.proofs.write_minutes.Goals as goal

pub returns-then-out-lt2 : goal.returns-then-out-lt2
unfolding fixed_bytes
returns-then-out-lt2 c = no_room ((128 + c.args.v / 256) ∷ fixed_bytes 1 c.args.v) _ (omega arith)

pub returns : goal.returns
unfolding fixed_bytes
returns c = stored ((128 + c.args.v / 256) ∷ fixed_bytes 1 c.args.v) c.args.out.now (omega arith)

pub bounds-out-1 : goal.bounds-out-1
bounds-out-1 c = simp length-set (omega arith)

pub shape_of-out : goal.shape_of-out
shape_of-out c = simp length-set
