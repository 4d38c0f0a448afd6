use native.Mathlib.Omega.{arith}
use mathlib.Core.Path.{sym}
use Rattle.old_counts.proofs.OldCountLaws.{single-length, level-length, two-bytes, three-bytes, four_bytes, largest-length}
use Rattle.old_count_writers.proofs.count_size.Goals as goal

pub returns-then-v-lt143 : goal.returns-then-v-lt143
returns-then-v-lt143 c = sym (single-length c.args.v (omega arith))

pub returns-then-v-lt16527 : goal.returns-then-v-lt16527
returns-then-v-lt16527 c = sym (level-length two-bytes c.args.v (omega arith) (omega arith))

pub returns-then-v-lt2113679 : goal.returns-then-v-lt2113679
returns-then-v-lt2113679 c = sym (level-length three-bytes c.args.v (omega arith) (omega arith))

pub returns-then-v-lt270549135 : goal.returns-then-v-lt270549135
returns-then-v-lt270549135 c = sym (level-length four_bytes c.args.v (omega arith) (omega arith))

pub returns : goal.returns
returns c = sym (largest-length c.args.v (omega arith))
