use Rattle.std.proofs.lemmas.Result.{err_from_is_err_and}
use mathlib.Core.Path.{sym, ◌∙◌}
use Prim.Native.Nat.{◌+◌}
use native.Mathlib.Omega.{arith}
use Rattle.base.proofs.Parts.{part-from}
use Rattle.pool.specs.Index.{Plain}
use Rattle.pool.proofs.FillLaws.{plain-front}
use Rattle.counts.proofs.CountLaws.{Counted, counted}
use Rattle.pool.proofs.CheckLaws.{room-counted, pool-unread, pool-large, pool-counted}
use Rattle.pool.proofs.check_pool.Goals as goal
use Rattle.pool.proofs.check_pool.Goals.{After-ascii_front-plain, Else-k-gt8192}

pub returns-then-k-gt8192 : goal.returns-then-k-gt8192
returns-then-k-gt8192 c = pool-large _ _ _ c.read_count-g.ensures _ _ c.in_ok-v.was c.if-k-gt8192.true

behind-count : (c : goal.Else-k-gt8192) → Counted c.args.d.now c.in_ok-v.v c.in_ok-v.a
behind-count c = counted _ (sym c.in_ok-v.was ∙ c.read_count-g.ensures)

-- what is known to be ASCII
plain : (c : goal.After-ascii_front-plain) → Plain c.args.d.now c.in_ok-v.a (c.in_ok-v.a + c.ascii_front-plain.result)
plain c = plain-front _ _ _ (behind-count (goal.at.overflow_add-a c).Else-k-gt8192).within (rw (part-from c.in_ok-v.a c.args.d.now) at c.ascii_front-plain.ensures)

pub fill-requires : goal.fill-requires
fill-requires c = let q = behind-count (goal.at.fill-requires c).Else-k-gt8192 in (
  q.within,
  q.size,
  omega arith,
  omega (arith, room-counted _ _ c.read_count-g.ensures _ _ c.in_ok-v.was c.if-k-gt8192.false, c.requires),
  plain (goal.at.fill-requires c).After-ascii_front-plain,
)

pub returns-in_err-v : goal.returns-in_err-v
returns-in_err-v c = let p = err_from_is_err_and c.from_residual.result c.from_residual.ensures.1 in
    rw (p.1, p.2) (pool-unread _ _ _ c.read_count-g.ensures _ c.in_err-v.was)

pub returns : goal.returns
returns c = pool-counted _ _ _ c.read_count-g.ensures _ _ c.in_ok-v.was _ _ c.if-k-gt8192.false c.fill.ensures

pub slice_bounds-ascii_front-count : goal.slice_bounds-ascii_front-count
slice_bounds-ascii_front-count c = (behind-count c).within

pub slice_bounds-ascii_front-start : goal.slice_bounds-ascii_front-start
slice_bounds-ascii_front-start c = (behind-count c).within

pub overflow_add-a : goal.overflow_add-a
overflow_add-a c = omega (arith, (plain c).0)
