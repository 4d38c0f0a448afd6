use native.Mathlib.Omega.{arith}
use Rattle.counts.proofs.CountLaws.{carried, above}
use Rattle.count_writers.proofs.write_count.Goals as goal

pub returns-then-v-le2147483647 : goal.returns-then-v-le2147483647
returns-then-v-le2147483647 c = carried _ _ _ _ (omega arith) c.write_groups.ensures

pub returns-else-v-le2147483647 : goal.returns-else-v-le2147483647
returns-else-v-le2147483647 c = above c.args.v _ (omega arith)
