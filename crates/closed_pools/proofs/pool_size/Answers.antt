use Prim.Native.Nat.{ℕ, ◌-◌}
use native.Mathlib.Omega.{arith}
use lib.ListN.{length, length-replicate}
use Rattle.counts.proofs.CountLaws.{count-size}
use Rattle.pool.specs.Pool.{strings_of}
use Rattle.closed_pools.proofs.TextsLaws.{pool-length, texts-most}
use Rattle.closed_pools.proofs.pool_size.Goals as goal

pub index_pool-n-requires : goal.index_pool-n-requires
index_pool-n-requires c = (c.requires.1, omega (arith, length-replicate {A = ℕ} 8192 0))

pub texts_size-requires : goal.texts_size-requires
texts_size-requires c = (c.index_pool-n.ensures, c.requires.0)

pub overflow_add-result : goal.overflow_add-result
overflow_add-result c = omega (arith, texts-most c.args.d.now c.args.order.now, (count-size (length c.args.order.now)).most, c.count_size.ensures, c.texts_size.ensures, c.requires.0)

pub returns : goal.returns
returns c = omega (arith, pool-length (strings_of c.args.d.now) c.args.order.now, c.count_size.ensures, c.texts_size.ensures)
