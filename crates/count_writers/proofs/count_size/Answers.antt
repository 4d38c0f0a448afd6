use native.Mathlib.Omega.{arith}
use mathlib.Core.Path.{sym}
use Rattle.counts.proofs.CountLaws.{count-one, count-length, count-five}
use Rattle.count_writers.proofs.count_size.Goals as goal

pub returns-then-v-lt128 : goal.returns-then-v-lt128
returns-then-v-lt128 c = sym (count-one c.args.v (omega arith))

pub returns-then-v-lt16384 : goal.returns-then-v-lt16384
returns-then-v-lt16384 c = sym (count-length 1 c.args.v (omega arith) (omega arith) (omega arith))

pub returns-then-v-lt2097152 : goal.returns-then-v-lt2097152
returns-then-v-lt2097152 c = sym (count-length 2 c.args.v (omega arith) (omega arith) (omega arith))

pub returns-then-v-lt268435456 : goal.returns-then-v-lt268435456
returns-then-v-lt268435456 c = sym (count-length 3 c.args.v (omega arith) (omega arith) (omega arith))

pub returns : goal.returns
returns c = sym (count-five c.args.v (omega arith))
