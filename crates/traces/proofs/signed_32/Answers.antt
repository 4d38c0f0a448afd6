use Rattle.traces.proofs.NumberLaws.{small_is, less-small, large_is}
use Rattle.traces.proofs.signed_32.Goals as goal

pub returns-then-v-lt2147483648 : goal.returns-then-v-lt2147483648
returns-then-v-lt2147483648 c = small_is _ c.requires c.if-v-lt2147483648.true

pub overflow_sub-result : goal.overflow_sub-result
overflow_sub-result c = less-small c.args.v c.requires

pub returns : goal.returns
returns c = large_is c.args.v c.requires c.if-v-lt2147483648.false
