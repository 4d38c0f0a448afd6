use lib.ListN.{get_or}
use Prim.Native.Nat.{ℕ, ◌+◌, ◌<◌}
use native.Mathlib.Omega.{arith}
use Rattle.counted_zones.proofs.PairLaws.{no-five, some-five}
use Rattle.counted_zones.proofs.is_five.Goals as goal
use Rattle.counted_zones.proofs.is_five.Goals.{After-four-x}

byte : (c : goal.After-four-x) (i : ℕ) → get_or c.args.s.now i 0 < 256
byte c i = omega (arith, c.shared_slice_known-6-1.given i)

pub returns-then-s-at-lt128 : goal.returns-then-s-at-lt128
returns-then-s-at-lt128 c = no-five _ _ _

pub returns : goal.returns
returns c = some-five _ _ _ _ c.four-x.ensures (omega (arith, byte c (c.args.at + 1))) (omega (arith, byte c (c.args.at + 2))) (omega (arith, byte c (c.args.at + 3))) (omega (arith, byte c (c.args.at + 4))) c.requires.1 c.if-s-at-lt128.false
