use native.Mathlib.Omega.{arith}
use Rattle.unordered_keys.proofs.KeyLaws.{limit-none, limit-some}
use Rattle.unordered_keys.proofs.limit.Goals as goal

pub returns-then-s-gt4294967295 : goal.returns-then-s-gt4294967295
returns-then-s-gt4294967295 c = limit-none _ _ (omega arith)

pub returns : goal.returns
returns c = limit-some _ _ (omega arith)
