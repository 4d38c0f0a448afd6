use native.Mathlib.Omega.{arith}
use Rattle.counted_zones.proofs.PairLaws.{times-some, times_none}
use Rattle.counted_zones.proofs.mention_times.Goals as goal

pub returns-then-k-uses : goal.returns-then-k-uses
returns-then-k-uses c = times-some _ _ _ (omega arith)

pub returns-else-k-uses : goal.returns-else-k-uses
returns-else-k-uses c = times_none _ _ _ c.if-k-uses.false
