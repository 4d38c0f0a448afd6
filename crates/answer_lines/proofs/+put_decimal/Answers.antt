use native.Mathlib.Omega.{arith}
use Prim.Native.Nat.{ℕ, ◌<◌}
use lib.ListN.{length, length-set}
use Rattle.answer_lines.proofs.ReplyLaws.{put_one, put-digit, length-one, length_more}
use Rattle.answer_lines.proofs.+put_decimal.Goals as goal
use Rattle.answer_lines.proofs.+put_decimal.Goals.{After-slice_known-2-1}

pub bounds-out-at : goal.bounds-out-at
bounds-out-at t c = omega (arith, length-one c.args.v (omega arith))

pub overflow_add-result : goal.overflow_add-result
overflow_add-result t c = omega (arith, length-one c.args.v (omega arith))

pub returns-then-v-lt10 : goal.returns-then-v-lt10
returns-then-v-lt10 t c = put_one _ _ _ c.if-v-lt10.true

pub put_decimal-n-requires : goal.put_decimal-n-requires
put_decimal-n-requires t c = omega (arith, length_more c.args.v (omega arith))

-- behind the digits of v / 10 there is room for one more
room : (t : ℕ) (c : goal.After-slice_known-2-1 t) → c.put_decimal-n.result < length c.put_decimal-n.new.out
room t c = omega (arith, length_more c.args.v (omega arith), c.put_decimal-n.ensures.0, c.put_decimal-n.auto.out)

pub bounds-out-n : goal.bounds-out-n
bounds-out-n t c = room t c

pub overflow_add-result-2 : goal.overflow_add-result-2
overflow_add-result-2 t c = omega (arith, room t c)

pub shape_of-out : goal.shape_of-out
shape_of-out t c = simp length-set c.put_decimal-n.auto.out

pub returns : goal.returns
returns t c = put-digit _ _ _ _ _ (omega arith) c.put_decimal-n.ensures
