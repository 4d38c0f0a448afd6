use native.Mathlib.Omega.{arith}
use mathlib.Core.List.{◌∷◌}
use lib.ListN.{length-set}
use Rattle.base.proofs.WriteLaws.{no_room, stored}
use Rattle.counts.specs.Fixed.{fixed_bytes}
use Rattle.transition_writers.proofs.write_ticks.Goals as goal

pub returns-then-out-lt9 : goal.returns-then-out-lt9
unfolding fixed_bytes
returns-then-out-lt9 c = no_room (2 ∷ fixed_bytes 8 c.args.raw) _ (omega arith)

pub returns : goal.returns
unfolding fixed_bytes
returns c = stored (2 ∷ fixed_bytes 8 c.args.raw) c.args.out.now (omega arith)

pub bounds-out-1 : goal.bounds-out-1
bounds-out-1 c = simp length-set (omega arith)

pub bounds-out-2 : goal.bounds-out-2
bounds-out-2 c = simp length-set (omega arith)

pub bounds-out-3 : goal.bounds-out-3
bounds-out-3 c = simp length-set (omega arith)

pub bounds-out-4 : goal.bounds-out-4
bounds-out-4 c = simp length-set (omega arith)

pub bounds-out-5 : goal.bounds-out-5
bounds-out-5 c = simp length-set (omega arith)

pub bounds-out-6 : goal.bounds-out-6
bounds-out-6 c = simp length-set (omega arith)

pub bounds-out-7 : goal.bounds-out-7
bounds-out-7 c = simp length-set (omega arith)

pub bounds-out-8 : goal.bounds-out-8
bounds-out-8 c = simp length-set (omega arith)

pub shape_of-out : goal.shape_of-out
shape_of-out c = simp length-set
