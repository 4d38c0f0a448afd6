use Prim.Native.Nat.{◌-◌}
use native.Mathlib.Omega.{arith}
use Rattle.location_lookup.specs.Location.{lent_part}
use Rattle.cursors.specs.Cursors.{At}
use Rattle.later_answers.proofs.WalkLaws.{at_ok, at_name, listing_start, listing_full, listing-over, listing-room, listing-inside, listing-next}
use Rattle.later_answers.proofs.put_rows.Goals as goal
use Rattle.later_answers.proofs.put_rows.Goals.{After-u-1}

-- the cursor at the next interval
sought : (c : goal.After-u-1)
    → At c.args.count (lent_part c.args.file.now c.args.v.start c.args.v.end) c.args.ending c.loop-i.e c.seek-x.result
sought c = rw c.lent-zone.ensures at c.seek-x.ensures

pub loop-i-init : goal.loop-i-init
loop-i-init c = listing_start _ _ _ _ _ _ _ _ _ c.requires

pub shape_of-rows-then-e-ge-END : goal.shape_of-rows-then-e-ge-END
shape_of-rows-then-e-ge-END c = c.loop-i.invariant.size

pub returns-then-e-ge-END : goal.returns-then-e-ge-END
returns-then-e-ge-END c = listing-over _ _ _ _ _ _ _ _ _ _ c.loop-i.invariant c.if-e-ge-END.true

pub seek-x-requires : goal.seek-x-requires
seek-x-requires c = rw c.lent-zone.ensures (c.loop-i.invariant.points, c.loop-i.invariant.from, c.loop-i.invariant.finite c.if-e-ge-END.false)

pub name_in-name-requires : goal.name_in-name-requires
name_in-name-requires c = (c.requires.index, at_name _ c.args.v _ _ c.loop-i.invariant.counts _ (c.loop-i.invariant.finite c.if-e-ge-END.false) _ (sought c))

pub answer_of-y-requires : goal.answer_of-y-requires
answer_of-y-requires c = let k = at_ok _ c.args.v _ _ c.loop-i.invariant.counts _ (c.loop-i.invariant.finite c.if-e-ge-END.false) _ (sought (goal.at.answer_of-y-requires c).After-u-1) in
    (k.wall-high, k.savings-high, k.standard-low)

pub overflow_mul-i : goal.overflow_mul-i
overflow_mul-i c = record { fits = omega (arith, c.loop-i-test.true, c.well_formed.1.1.1.1.1.1.1.1.0.1) }

pub put_row-requires : goal.put_row-requires
put_row-requires c = let l = listing-inside _ _ _ _ _ _ _ _ _ _ c.loop-i.invariant c.loop-i-test.true c.if-e-ge-END.false _ (sought (goal.at.put_row-requires c).After-u-1) _ _ c.name_in-name.ensures c.answer_of-y.ensures in
    (omega (arith, l, c.well_formed.0.1), omega (arith, l, c.well_formed.0.1), listing-room _ _ _ _ _ _ _ _ _ _ c.loop-i.invariant c.loop-i-test.true)

pub overflow_add-i : goal.overflow_add-i
overflow_add-i c = record { fits = omega (arith, c.loop-i-test.true, c.well_formed.1.1.1.1.1.1.1.1.0.1) }

pub loop-i-smaller : goal.loop-i-smaller
loop-i-smaller c = omega (arith, c.loop-i-test.true)

pub loop-i-preserved : goal.loop-i-preserved
loop-i-preserved c = listing-next _ _ _ _ _ _ _ _ _ _ c.loop-i.invariant c.loop-i-test.true c.if-e-ge-END.false _ (sought (goal.at.loop-i-preserved c).After-u-1) _ _ c.name_in-name.ensures c.answer_of-y.ensures _
    c.put_row.ensures

pub shape_of-rows : goal.shape_of-rows
shape_of-rows c = c.loop-i.invariant.size

pub returns : goal.returns
returns c = listing_full _ _ _ _ _ _ _ _ _ _ c.loop-i.invariant c.loop-i-test.false
