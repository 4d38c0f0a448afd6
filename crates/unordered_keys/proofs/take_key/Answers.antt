use native.Mathlib.Omega.{arith}
use Rattle.unordered_keys.proofs.KeyLaws.{limit-fits, key-known, key-gap, key-new}
use Rattle.unordered_keys.proofs.take_key.Goals as goal

pub put-requires : goal.put-requires
put-requires c = (c.requires.0.sorted.roomy, (key-gap _ _ _ _ _ c.args.b c.args.c _ c.find_gap-g.ensures _ _ c.in-New.is).0, omega (arith, (limit-fits _ _ _ c.requires.1).0, c.requires.0.inside.room), omega (arith, (limit-fits _ _ _ c.requires.1).0, c.requires.0.wide))

pub overflow_cast-starts : goal.overflow_cast-starts
overflow_cast-starts c = omega (arith, (limit-fits _ _ _ c.requires.1).1)

pub bounds-starts-n : goal.bounds-starts-n
bounds-starts-n c = omega (arith, (limit-fits _ _ _ c.requires.1).0)

pub overflow_cast-ends : goal.overflow_cast-ends
overflow_cast-ends c = omega (arith, (limit-fits _ _ _ c.requires.1).1)

pub bounds-ends-n : goal.bounds-ends-n
bounds-ends-n c = omega (arith, (limit-fits _ _ _ c.requires.1).0, c.requires.0.inside.ends)

pub returns-in-Known : goal.returns-in-Known
returns-in-Known c = key-known _ _ _ _ _ c.args.b c.args.c _ c.find_gap-g.ensures _ c.in-Known.is

pub returns-in-New : goal.returns-in-New
returns-in-New c = key-new _ _ _ _ _ c.args.b c.args.c _ c.find_gap-g.ensures _ _ c.in-New.is _ c.put.ensures (limit-fits _ _ _ c.requires.1).0 c.requires.2 c.requires.3
