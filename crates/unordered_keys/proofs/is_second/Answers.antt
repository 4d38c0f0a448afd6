use native.Mathlib.Omega.{arith}
use Rattle.unordered_keys.proofs.StepLaws.{judged-taken, judged-past}
use Rattle.unordered_keys.proofs.is_second.Goals as goal

pub take_key-requires : goal.take_key-requires
take_key-requires c = (c.requires.3.most (omega arith), omega arith, c.requires.1, c.requires.2)

pub returns-then-n-limit : goal.returns-then-n-limit
returns-then-n-limit c = judged-taken _ _ _ _ _ _ _ _ _ _ _ (omega arith) c.take_key.ensures

pub returns : goal.returns
returns c = judged-past _ _ _ _ _ _ _ _ (omega arith) c.has_key.ensures
