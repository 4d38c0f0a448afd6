use Prim.Native.Nat.{ℕ, ◌-◌}
use native.Mathlib.Omega.{arith}
use lib.ListN.{length-replicate}
use Rattle.pieces.proofs.PutLaws.{front-room, front-within, rest-room, both-sum, both-put, both-length}
use Rattle.closed_pools.proofs.TextsLaws.{pool-two}
use Rattle.closed_pools.proofs.write_pool.Goals as goal

pub index_pool-n-requires : goal.index_pool-n-requires
index_pool-n-requires c = (c.requires.1, omega (arith, length-replicate {A = ℕ} 8192 0))

pub write_number-w-requires : goal.write_number-w-requires
write_number-w-requires c = (omega (arith, c.requires.0), front-room (pool-two _ _ c.args.out.now c.requires.2))

pub slice_bounds-write_texts-count : goal.slice_bounds-write_texts-count
slice_bounds-write_texts-count c = front-within (pool-two _ _ _ c.requires.2) c.write_number-w.ensures

pub slice_bounds-write_texts-start : goal.slice_bounds-write_texts-start
slice_bounds-write_texts-start c = front-within (pool-two _ _ _ c.requires.2) c.write_number-w.ensures

pub write_texts-requires : goal.write_texts-requires
write_texts-requires c = (c.index_pool-n.ensures, rest-room (pool-two _ _ _ c.requires.2) c.write_number-w.ensures)

pub overflow_add-result : goal.overflow_add-result
overflow_add-result c = omega (arith, both-sum (pool-two _ _ _ c.requires.2) c.write_number-w.ensures c.write_texts.ensures, c.well_formed)

pub shape_of-out : goal.shape_of-out
shape_of-out c = both-length (pool-two _ _ _ c.requires.2) c.write_number-w.ensures c.write_texts.ensures

pub returns : goal.returns
returns c = both-put (pool-two _ _ _ c.requires.2) c.write_number-w.ensures c.write_texts.ensures
