use native.Mathlib.Omega.{arith}
use Rattle.counts.proofs.CountLaws.{count-size as size-of-count}
use lib.ListN.{length}
use Rattle.counts.specs.Count.{write_count}
use Rattle.texts.proofs.SizedLaws.{sized-full, sized-left}
use Rattle.texts.proofs.TextWriteLaws.{length-written}
use Rattle.texts.proofs.write_sized.Goals as goal

pub overflow_add-a : goal.overflow_add-a
overflow_add-a c = omega (arith, (size-of-count (length c.args.t.now)).most)

pub returns-then-out-a : goal.returns-then-out-a
returns-then-out-a c = sized-full (write_count (length c.args.t.now)) c.args.t.now c.args.out.now _ c.count_size-a.ensures c.if-out-a.true

pub returns : goal.returns
returns c = sized-left (write_count (length c.args.t.now)) c.args.t.now c.args.out.now _ c.count_size-a.ensures c.if-out-a.false _
    (length-written _ _ _ c.requires c.write_count.ensures.1) _ c.copy.ensures.dst_after
