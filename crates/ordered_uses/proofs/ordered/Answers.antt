use mathlib.Core.Path.{sym, ◌∙◌}
use native.Mathlib.Omega.{arith}
use Rattle.use_order.proofs.FillLaws.{n-few, n-prefix, n_within, s-within, s-prefix, in_order, prefix-length}
use Rattle.ordered_uses.proofs.ordered.Goals as goal

pub slice_bounds-sort-end : goal.slice_bounds-sort-end
slice_bounds-sort-end c = n_within c.args.uses.now c.args.order.now c.filled-n.new.keys c.filled-n.result (omega arith) c.filled-n.ensures

pub slice_bounds-sort-end-2 : goal.slice_bounds-sort-end-2
slice_bounds-sort-end-2 c = n-prefix c.args.uses.now c.args.order.now c.filled-n.new.keys c.filled-n.result (omega arith) c.filled-n.ensures

pub slice_bounds-sort-end-3 : goal.slice_bounds-sort-end-3
slice_bounds-sort-end-3 c = omega (arith, n-few c.args.uses.now c.args.order.now c.filled-n.new.keys c.filled-n.result (omega arith) c.filled-n.ensures)

pub slice_bounds-sort-end-4 : goal.slice_bounds-sort-end-4
slice_bounds-sort-end-4 c = prefix-length _ _ (omega (arith, n-few c.args.uses.now c.args.order.now c.filled-n.new.keys c.filled-n.result (omega arith) c.filled-n.ensures))

pub sort-requires : goal.sort-requires
sort-requires c = sym (n-prefix c.args.uses.now c.args.order.now c.filled-n.new.keys c.filled-n.result (omega arith) c.filled-n.ensures) ∙ prefix-length _ _ (omega (arith, n-few c.args.uses.now c.args.order.now c.filled-n.new.keys c.filled-n.result (omega arith) c.filled-n.ensures))

pub slice_bounds-numbered-end : goal.slice_bounds-numbered-end
slice_bounds-numbered-end c = s-within c.args.uses.now c.args.order.now c.filled-n.new.keys c.filled-n.result (omega arith) c.filled-n.ensures c.sort.new.a c.sort.ensures

pub slice_bounds-numbered-end-2 : goal.slice_bounds-numbered-end-2
slice_bounds-numbered-end-2 c = s-prefix c.args.uses.now c.args.order.now c.filled-n.new.keys c.filled-n.result (omega arith) c.filled-n.ensures c.sort.new.a c.sort.ensures

pub returns : goal.returns
returns c = in_order c.args.uses.now c.args.order.now c.filled-n.new.keys c.filled-n.result (omega arith) c.filled-n.ensures c.sort.new.a c.sort.ensures c.numbered.new.keys c.numbered.ensures
