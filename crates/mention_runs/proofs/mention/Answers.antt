use Prim.Native.Nat.{◌-◌}
use Rattle.mention_runs.proofs.RunLaws.{mention-some, mention-none}
use Rattle.mention_runs.proofs.mention.Goals as goal

pub returns-then-k-uses : goal.returns-then-k-uses
returns-then-k-uses c = mention-some _ _

pub returns-else-k-uses : goal.returns-else-k-uses
returns-else-k-uses c = mention-none _ _ c.if-k-uses.false
