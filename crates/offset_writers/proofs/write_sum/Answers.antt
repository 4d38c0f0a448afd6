use native.Mathlib.Omega.{arith}
use Rattle.offsets.proofs.OffsetWriteLaws.{too_small, too_large, as-half-hours, as-minutes, as-seconds, as-milliseconds}
use Rattle.offset_writers.proofs.write_sum.Goals as goal

pub returns-then-sum-lt1 : goal.returns-then-sum-lt1
returns-then-sum-lt1 c = too_small c.args.sum _ (omega arith)

pub returns-then-sum-gt172799999 : goal.returns-then-sum-gt172799999
returns-then-sum-gt172799999 c = too_large c.args.sum _ (omega arith) (omega arith)

pub returns-then-sum-eq0 : goal.returns-then-sum-eq0
returns-then-sum-eq0 c = as-half-hours c.args.sum (omega arith) (omega arith) _ _ _ (omega arith) c.write_half_hours.ensures

pub returns-then-sum-eq0-2 : goal.returns-then-sum-eq0-2
returns-then-sum-eq0-2 c = as-minutes c.args.sum (omega arith) (omega arith) _ _ _ c.if-sum-eq0.false (omega arith) c.write_minutes.ensures

pub returns-then-sum-eq0-3 : goal.returns-then-sum-eq0-3
returns-then-sum-eq0-3 c = as-seconds c.args.sum (omega arith) (omega arith) _ _ _ c.if-sum-eq0-2.false (omega arith) c.write_seconds.ensures

pub returns : goal.returns
returns c = as-milliseconds c.args.sum (omega arith) (omega arith) _ _ _ c.if-sum-eq0-3.false c.write_milliseconds.ensures
