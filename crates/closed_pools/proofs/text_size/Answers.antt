use Prim.Native.Nat.{◌-◌}
use native.Mathlib.Omega.{arith}
use Rattle.closed_pools.proofs.TextsLaws.{no_size, text-size-is, text-size-most}
use Rattle.closed_pools.proofs.text_size.Goals as goal

pub returns-then-n-k : goal.returns-then-n-k
returns-then-n-k c = no_size _ _ (omega (arith, c.requires.count, c.if-n-k.true))

pub text_by-t-requires : goal.text_by-t-requires
text_by-t-requires c = (c.requires.ready, omega (arith, c.requires.count, c.if-n-k.false))

pub overflow_add-result : goal.overflow_add-result
overflow_add-result c = omega (arith, text-size-most _ _ _ _ c.text_by-t.ensures c.count_size.ensures)

pub returns : goal.returns
returns c = text-size-is _ _ _ _ c.text_by-t.ensures c.count_size.ensures
