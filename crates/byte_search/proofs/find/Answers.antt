use Rattle.std.proofs.Common.{◌≡◌, ◌∙◌, sym, arith}
use Rattle.byte_search.proofs.SearchLaws.{found_none, found_here, found_later}
use Rattle.byte_search.proofs.find.Goals as goal

pub returns-then-s-i-clause-value : goal.returns-then-s-i-clause-value
returns-then-s-i-clause-value c =
    sym (c.loop-i.invariant ∙ found_here c.args.s.now c.args.b c.loop-i.i c.args.to (omega arith) (omega arith) c.if-s-i.true)

pub loop-i-preserved : goal.loop-i-preserved
loop-i-preserved c =
    c.loop-i.invariant ∙ found_later c.args.s.now c.args.b c.loop-i.i c.args.to (omega arith) (omega arith) c.if-s-i.false

pub returns-clause-value : goal.returns-clause-value
returns-clause-value c =
    let at_end : c.args.to ≡ c.loop-i.i = omega arith in
    at_end ∙ sym (c.loop-i.invariant ∙ found_none c.args.s.now c.args.b c.loop-i.i c.args.to (omega arith))
