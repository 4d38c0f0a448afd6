use native.Mathlib.Omega.{arith}
use Rattle.old_counts.proofs.OldCountLaws.{smallest, one_byte, two-bytes, three-bytes, four_bytes}
use Rattle.old_counts.proofs.OldCountWriteLaws.{too_large, as-level, as-largest}
use Rattle.old_count_writers.proofs.write_count.Goals as goal

pub returns-then-v-gt2147483647 : goal.returns-then-v-gt2147483647
returns-then-v-gt2147483647 c = too_large c.args.v _ c.if-v-gt2147483647.true

pub returns-then-v-lt15 : goal.returns-then-v-lt15
returns-then-v-lt15 c = as-level smallest c.args.v _ _ _ _ (omega arith) (omega arith) c.write_prefixed.ensures

pub returns-then-v-lt143 : goal.returns-then-v-lt143
returns-then-v-lt143 c = as-level one_byte c.args.v _ _ _ _ (omega arith) (omega arith) c.write_prefixed-then-v-lt143.ensures

pub returns-then-v-lt16527 : goal.returns-then-v-lt16527
returns-then-v-lt16527 c = as-level two-bytes c.args.v _ _ _ _ (omega arith) (omega arith) c.write_prefixed-then-v-lt16527.ensures

pub returns-then-v-lt2113679 : goal.returns-then-v-lt2113679
returns-then-v-lt2113679 c = as-level three-bytes c.args.v _ _ _ _ (omega arith) (omega arith) c.write_prefixed-then-v-lt2113679.ensures

pub returns-then-v-lt270549135 : goal.returns-then-v-lt270549135
returns-then-v-lt270549135 c = as-level four_bytes c.args.v _ _ _ _ (omega arith) (omega arith) c.write_prefixed-then-v-lt270549135.ensures

pub returns : goal.returns
returns c = as-largest c.args.v _ _ _ (omega arith) (omega arith) c.write_prefixed-2.ensures
