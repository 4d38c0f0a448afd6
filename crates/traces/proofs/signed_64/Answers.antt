use Rattle.traces.proofs.NumberLaws.{late-fits, late_is}
use Rattle.traces.proofs.signed_64.Goals as goal

pub overflow_sub-result-2 : goal.overflow_sub-result-2
overflow_sub-result-2 c = late-fits c.args.v c.ranges.v.fits c.if-v-lt9223372036854775808.false

pub returns : goal.returns
returns c = late_is c.args.v c.ranges.v.fits c.if-v-lt9223372036854775808.false
