use mathlib.Core.Path.{refl, sym, ◌∙◌}
use mathlib.Core.Bool.{false}
use Prim.Native.Nat.{◌-◌}
use native.Mathlib.Omega.{arith}
use Rattle.pool.proofs.StringLaws.{below}
use Rattle.locate.specs.View.{part}
use Rattle.ids.proofs.MemoryLaws.{known_among, found-gap, new-room}
use Rattle.trace_records.proofs.PassedLaws.{passed-seen, passed-new, reached-new, not_yet, reached-none, read-nothing, read-zone, read-inside}
use Rattle.trace_records.proofs.walk_on.Goals as goal

pub loop-i-init : goal.loop-i-init
loop-i-init c = (c.requires.3, c.requires.4, refl)

pub read_next-requires : goal.read_next-requires
read_next-requires c = (c.loop-i.invariant.0.some, c.loop-i.invariant.0.inside)

pub returns-in-None : goal.returns-in-None
returns-in-None c = reached-none _ _ _ _ _ _ _ _ _ c.loop-i.invariant.0 (read-nothing _ _ _ _ _ c.read_next.ensures c.args.d c.args.e c.requires.2 c.in-None.is) _ c.loop-i.invariant.1 _ _ _ _

pub slice_bounds-find_gap-count : goal.slice_bounds-find_gap-count
slice_bounds-find_gap-count c = c.requires.0.order

pub slice_bounds-find_gap-start : goal.slice_bounds-find_gap-start
slice_bounds-find_gap-start c = c.requires.0.order

pub slice_bounds-find_gap-end : goal.slice_bounds-find_gap-end
slice_bounds-find_gap-end c = c.requires.0.inside

pub slice_bounds-text_by-count : goal.slice_bounds-text_by-count
slice_bounds-text_by-count c = c.requires.0.order

pub slice_bounds-text_by-start : goal.slice_bounds-text_by-start
slice_bounds-text_by-start c = c.requires.0.order

pub slice_bounds-text_by-end : goal.slice_bounds-text_by-end
slice_bounds-text_by-end c = c.requires.0.inside

pub text_by-requires : goal.text_by-requires
text_by-requires c = (c.requires.1, (read-zone _ _ _ _ _ c.read_next.ensures c.args.d c.args.e c.requires.2 _ _ _ _ c.in-Some.is).known)

pub find_gap-requires : goal.find_gap-requires
find_gap-requires c = (c.requires.1, c.loop-i.invariant.0.sorted)

pub loop-i-smaller-in-Known : goal.loop-i-smaller-in-Known
loop-i-smaller-in-Known c = omega (arith, read-inside _ _ _ _ _ c.read_next.ensures c.args.d c.args.e c.requires.2 _ _ _ _ c.in-Some.is)

pub loop-i-preserved-in-Known : goal.loop-i-preserved-in-Known
loop-i-preserved-in-Known c = (passed-seen _ _ _ _ _ _ _ _ _ c.loop-i.invariant.0 _ _ _ _ (read-zone _ _ _ _ _ c.read_next.ensures c.args.d c.args.e c.requires.2 _ _ _ _ c.in-Some.is) (omega (arith, read-inside _ _ _ _ _ c.read_next.ensures c.args.d c.args.e c.requires.2 _ _ _ _ c.in-Some.is)) (read-inside _ _ _ _ _ c.read_next.ensures c.args.d c.args.e c.requires.2 _ _ _ _ c.in-Some.is).2 (known_among _ _ _ _ _ c.text_by.ensures _ c.find_gap.ensures _ c.in-Known.is), c.loop-i.invariant.1, c.loop-i.invariant.2)

pub overflow_cast-k : goal.overflow_cast-k
overflow_cast-k c = omega (arith, below (part c.args.d c.args.e c.args.s.now) _ (read-zone _ _ _ _ _ c.read_next.ensures c.args.d c.args.e c.requires.2 _ _ _ _ c.in-Some.is).known)

pub put-requires : goal.put-requires
put-requires c = (c.loop-i.invariant.0.sorted.roomy, (found-gap _ _ _ _ _ c.text_by.ensures _ c.find_gap.ensures _ _ c.in-New.is).0, below (part c.args.d c.args.e c.args.s.now) _ (new-room _ _ _ _ _ c.text_by.ensures _ c.find_gap.ensures _ _ c.in-New.is c.loop-i.invariant.0.sorted (read-zone _ _ _ _ _ c.read_next.ensures c.args.d c.args.e c.requires.2 _ _ _ _ c.in-Some.is).known), omega (arith, new-room _ _ _ _ _ c.text_by.ensures _ c.find_gap.ensures _ _ c.in-New.is c.loop-i.invariant.0.sorted (read-zone _ _ _ _ _ c.read_next.ensures c.args.d c.args.e c.requires.2 _ _ _ _ c.in-Some.is).known, c.loop-i.invariant.0.sorted.room))

pub overflow_cast-froms : goal.overflow_cast-froms
overflow_cast-froms c = omega (arith, read-inside _ _ _ _ _ c.read_next.ensures c.args.d c.args.e c.requires.2 _ _ _ _ c.in-Some.is)

pub offset_bounds-froms-k : goal.offset_bounds-froms-k
offset_bounds-froms-k c = omega (arith, below (part c.args.d c.args.e c.args.s.now) _ (read-zone _ _ _ _ _ c.read_next.ensures c.args.d c.args.e c.requires.2 _ _ _ _ c.in-Some.is).known)

pub bounds-froms-k : goal.bounds-froms-k
bounds-froms-k c = below (part c.args.d c.args.e c.args.s.now) _ (read-zone _ _ _ _ _ c.read_next.ensures c.args.d c.args.e c.requires.2 _ _ _ _ c.in-Some.is).known

pub overflow_cast-tos : goal.overflow_cast-tos
overflow_cast-tos c = omega (arith, read-inside _ _ _ _ _ c.read_next.ensures c.args.d c.args.e c.requires.2 _ _ _ _ c.in-Some.is)

pub offset_bounds-tos-k : goal.offset_bounds-tos-k
offset_bounds-tos-k c = omega (arith, below (part c.args.d c.args.e c.args.s.now) _ (read-zone _ _ _ _ _ c.read_next.ensures c.args.d c.args.e c.requires.2 _ _ _ _ c.in-Some.is).known)

pub bounds-tos-k : goal.bounds-tos-k
bounds-tos-k c = below (part c.args.d c.args.e c.args.s.now) _ (read-zone _ _ _ _ _ c.read_next.ensures c.args.d c.args.e c.requires.2 _ _ _ _ c.in-Some.is).known

pub overflow_add-n : goal.overflow_add-n
overflow_add-n c = omega (arith, below (part c.args.d c.args.e c.args.s.now) _ (new-room _ _ _ _ _ c.text_by.ensures _ c.find_gap.ensures _ _ c.in-New.is c.loop-i.invariant.0.sorted (read-zone _ _ _ _ _ c.read_next.ensures c.args.d c.args.e c.requires.2 _ _ _ _ c.in-Some.is).known))

pub slice_bounds-has_id-count : goal.slice_bounds-has_id-count
slice_bounds-has_id-count c = c.requires.0.order

pub slice_bounds-has_id-start : goal.slice_bounds-has_id-start
slice_bounds-has_id-start c = c.requires.0.order

pub slice_bounds-has_id-end : goal.slice_bounds-has_id-end
slice_bounds-has_id-end c = c.requires.0.inside

pub has_id-requires : goal.has_id-requires
has_id-requires c = (c.requires.1, (read-zone _ _ _ _ _ c.read_next.ensures c.args.d c.args.e c.requires.2 _ _ _ _ c.in-Some.is).known)

pub returns-then-has_id : goal.returns-then-has_id
returns-then-has_id c = reached-new _ _ _ _ _ _ _ _ _ c.loop-i.invariant.0 _ _ _ _ (read-zone _ _ _ _ _ c.read_next.ensures c.args.d c.args.e c.requires.2 _ _ _ _ c.in-Some.is) (omega (arith, read-inside _ _ _ _ _ c.read_next.ensures c.args.d c.args.e c.requires.2 _ _ _ _ c.in-Some.is)) (read-inside _ _ _ _ _ c.read_next.ensures c.args.d c.args.e c.requires.2 _ _ _ _ c.in-Some.is).2 _ (found-gap _ _ _ _ _ c.text_by.ensures _ c.find_gap.ensures _ _ c.in-New.is).1 _ c.put.ensures (below (part c.args.d c.args.e c.args.s.now) _ (read-zone _ _ _ _ _ c.read_next.ensures c.args.d c.args.e c.requires.2 _ _ _ _ c.in-Some.is).known) _ (sym c.if-has_id.true ∙ c.has_id.ensures)

pub loop-i-smaller : goal.loop-i-smaller
loop-i-smaller c = omega (arith, read-inside _ _ _ _ _ c.read_next.ensures c.args.d c.args.e c.requires.2 _ _ _ _ c.in-Some.is)

pub loop-i-preserved : goal.loop-i-preserved
loop-i-preserved c = (passed-new _ _ _ _ _ _ _ _ _ c.loop-i.invariant.0 _ _ _ _ (read-zone _ _ _ _ _ c.read_next.ensures c.args.d c.args.e c.requires.2 _ _ _ _ c.in-Some.is) (omega (arith, read-inside _ _ _ _ _ c.read_next.ensures c.args.d c.args.e c.requires.2 _ _ _ _ c.in-Some.is)) (read-inside _ _ _ _ _ c.read_next.ensures c.args.d c.args.e c.requires.2 _ _ _ _ c.in-Some.is).2 _ (found-gap _ _ _ _ _ c.text_by.ensures _ c.find_gap.ensures _ _ c.in-New.is).1 _ c.put.ensures (below (part c.args.d c.args.e c.args.s.now) _ (read-zone _ _ _ _ _ c.read_next.ensures c.args.d c.args.e c.requires.2 _ _ _ _ c.in-Some.is).known), not_yet _ _ _ _ _ _ _ _ _ c.loop-i.invariant.0 _ _ _ _ (read-zone _ _ _ _ _ c.read_next.ensures c.args.d c.args.e c.requires.2 _ _ _ _ c.in-Some.is) (omega (arith, read-inside _ _ _ _ _ c.read_next.ensures c.args.d c.args.e c.requires.2 _ _ _ _ c.in-Some.is)) (read-inside _ _ _ _ _ c.read_next.ensures c.args.d c.args.e c.requires.2 _ _ _ _ c.in-Some.is).2 _ (found-gap _ _ _ _ _ c.text_by.ensures _ c.find_gap.ensures _ _ c.in-New.is).1 _ c.put.ensures (below (part c.args.d c.args.e c.args.s.now) _ (read-zone _ _ _ _ _ c.read_next.ensures c.args.d c.args.e c.requires.2 _ _ _ _ c.in-Some.is).known) _ c.loop-i.invariant.1 (sym c.if-has_id.false ∙ c.has_id.ensures), c.order-1.given ∙ c.loop-i.invariant.2)

pub shape_of-order-in-None : goal.shape_of-order-in-None
shape_of-order-in-None c = c.loop-i.invariant.2

pub shape_of-order-then-has_id : goal.shape_of-order-then-has_id
shape_of-order-then-has_id c = c.order-1.given ∙ c.loop-i.invariant.2
