use native.Mathlib.Omega.{arith}
use Rattle.location_lookup.proofs.LookupLaws.{lent-long, lent_back, lent-in}
use Rattle.location_lookup.proofs.lent.Goals as goal

pub returns-then-s-e : goal.returns-then-s-e
returns-then-s-e c = lent-long c.args.s.now c.args.a c.args.e (omega arith)

pub returns-then-e-a : goal.returns-then-e-a
returns-then-e-a c = lent_back c.args.s.now c.args.a c.args.e (omega arith) (omega arith)

pub returns : goal.returns
returns c = lent-in c.args.s.now c.args.a c.args.e (omega arith) (omega arith)
