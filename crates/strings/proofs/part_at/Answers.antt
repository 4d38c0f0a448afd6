use native.Mathlib.Omega.{arith}
use Rattle.strings.proofs.HolderLaws.{part_out, part_in}
use Rattle.strings.proofs.part_at.Goals as goal

pub returns-then-s-a : goal.returns-then-s-a
returns-then-s-a c = part_out c.args.s.now c.args.a c.args.n (omega arith)

pub returns-then-s-a-2 : goal.returns-then-s-a-2
returns-then-s-a-2 c = part_out c.args.s.now c.args.a c.args.n (omega arith)

pub returns : goal.returns
returns c = part_in c.args.s.now c.args.a c.args.n (omega arith)
