use Rattle.trace_records.proofs.KeptLaws.{none-kept-as}
use Rattle.trace_records.proofs.kept_by.Goals as goal

pub returns-then-v-gt4294967295 : goal.returns-then-v-gt4294967295
returns-then-v-gt4294967295 c = none-kept-as _ _ _ _ c.none_kept.ensures

pub returns-then-v-gt4294967295-2 : goal.returns-then-v-gt4294967295-2
returns-then-v-gt4294967295-2 c = none-kept-as _ _ _ _ c.none_kept-then-v-gt4294967295-2.ensures

pub returns-then-v-gt4294967295-3 : goal.returns-then-v-gt4294967295-3
returns-then-v-gt4294967295-3 c = none-kept-as _ _ _ _ c.none_kept-then-v-gt4294967295-3.ensures

pub returns-then-v-gt4294967295-4 : goal.returns-then-v-gt4294967295-4
returns-then-v-gt4294967295-4 c = none-kept-as _ _ _ _ c.none_kept-then-v-gt4294967295-4.ensures
