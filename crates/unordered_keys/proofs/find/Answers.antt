use mathlib.Core.Path.{◌∙◌, ◌≡◌, sym, ap}
use mathlib.Core.List.{[]}
use lib.ListN.{get_or}
use Rattle.old_dictionaries.specs.View.{part}
use Rattle.unordered_keys.specs.Keys.{keys_in}
use Rattle.unordered_keys.proofs.KeyLaws.{keys_length, key-at}
use Prim.Native.Nat.{◌<◌, ◌-◌}
use native.Mathlib.Omega.{arith}
use Rattle.string_order.specs.Order.{ordering}
use Rattle.ids.proofs.FindLaws.{halving-start, halving-done, Middle, middle, halving-seen, halving-up, halving-down}
use Rattle.unordered_keys.proofs.find.Goals as goal
use Rattle.unordered_keys.proofs.find.Goals.{In-loop-lo}

pub loop-lo-init : goal.loop-lo-init
loop-lo-init c = halving-start _ _ _ _ _ c.requires.1.order

-- the place to look at, seen from within the loop's body
mid : (c : goal.In-loop-lo) → Middle c.args.from c.args.to c.loop-lo.lo c.loop-lo.hi c.loop-lo.back
mid c = middle _ _ _ _ _ _ _ _ c.loop-lo.invariant c.loop-lo-test.true

mid-room : (c : goal.In-loop-lo) → c.loop-lo.hi - c.loop-lo.back < 8449
mid-room c = omega (arith, (mid (c)).inside, c.requires.1.inside)

-- the number there, and its key
number : (c : goal.In-loop-lo) → get_or c.args.order.now (c.loop-lo.hi - c.loop-lo.back) 0 < c.args.n
number c = omega (arith, keys_length c.args.s.now c.args.starts.now c.args.ends.now c.args.n, c.requires.1.known _ (mid (c)).from (mid (c)).inside)

key-is : (c : goal.In-loop-lo) → get_or (keys_in c.args.s.now c.args.starts.now c.args.ends.now c.args.n) (get_or c.args.order.now (c.loop-lo.hi - c.loop-lo.back) 0) [] ≡ part (get_or c.args.starts.now (get_or c.args.order.now (c.loop-lo.hi - c.loop-lo.back) 0) 0) (get_or c.args.ends.now (get_or c.args.order.now (c.loop-lo.hi - c.loop-lo.back) 0) 0) c.args.s.now
key-is c = key-at _ _ _ _ _ (number (c))

pub overflow_sub-mid : goal.overflow_sub-mid
overflow_sub-mid c = (mid (c)).back-room

pub offset_bounds-order-mid : goal.offset_bounds-order-mid
offset_bounds-order-mid c = omega (arith, mid-room (c))

pub bounds-order-mid : goal.bounds-order-mid
bounds-order-mid c = omega (arith, (mid (goal.at.bounds-order-mid c).In-loop-lo).inside, c.requires.1.room)

pub overflow_cast-j : goal.overflow_cast-j
overflow_cast-j c = omega (arith, number (goal.at.overflow_cast-j c).In-loop-lo, c.requires.0.few, c.requires.0.room)

pub key_by-requires : goal.key_by-requires
key_by-requires c = (omega (arith, number (goal.at.key_by-requires c).In-loop-lo, c.requires.0.few), omega (arith, number (goal.at.key_by-requires c).In-loop-lo, c.requires.0.few, c.requires.0.ends), c.requires.0.order _ (number (goal.at.key_by-requires c).In-loop-lo), c.requires.0.inside _ (number (goal.at.key_by-requires c).In-loop-lo))

pub returns-in-Equal : goal.returns-in-Equal
returns-in-Equal c = halving-seen _ _ _ _ _ _ _ _ c.loop-lo.invariant c.loop-lo-test.true _ (c.compare-o.ensures ∙ ap (λ t. ordering t c.args.x.now) (c.key_by.ensures ∙ sym (key-is (goal.at.returns-in-Equal c).In-loop-lo))) c.in-Equal.is

pub overflow_add-lo : goal.overflow_add-lo
overflow_add-lo c = omega (arith, mid-room (goal.at.overflow_add-lo c).In-loop-lo)

pub overflow_sub-back : goal.overflow_sub-back
overflow_sub-back c = omega (arith, (mid (goal.at.overflow_sub-back c).In-loop-lo).to_high)

pub loop-lo-smaller-in-Less : goal.loop-lo-smaller-in-Less
loop-lo-smaller-in-Less c = omega (arith, (mid (goal.at.loop-lo-smaller-in-Less c).In-loop-lo).from_low, (mid (goal.at.loop-lo-smaller-in-Less c).In-loop-lo).to_high)

pub loop-lo-preserved-in-Less : goal.loop-lo-preserved-in-Less
loop-lo-preserved-in-Less c = halving-up _ _ _ _ _ _ _ _ c.loop-lo.invariant c.loop-lo-test.true _ (c.compare-o.ensures ∙ ap (λ t. ordering t c.args.x.now) (c.key_by.ensures ∙ sym (key-is (goal.at.loop-lo-preserved-in-Less c).In-loop-lo))) c.requires.1 c.in-Less.is

pub overflow_sub-back-in-Greater : goal.overflow_sub-back-in-Greater
overflow_sub-back-in-Greater c = (mid (goal.at.overflow_sub-back-in-Greater c).In-loop-lo).from_low

pub overflow_add-back-in-Greater : goal.overflow_add-back-in-Greater
overflow_add-back-in-Greater c = omega (arith, mid-room (goal.at.overflow_add-back-in-Greater c).In-loop-lo)

pub loop-lo-smaller : goal.loop-lo-smaller
loop-lo-smaller c = omega (arith, (mid (goal.at.loop-lo-smaller c).In-loop-lo).from_low, (mid (goal.at.loop-lo-smaller c).In-loop-lo).to_high)

pub loop-lo-preserved : goal.loop-lo-preserved
loop-lo-preserved c = halving-down _ _ _ _ _ _ _ _ c.loop-lo.invariant c.loop-lo-test.true _ (c.compare-o.ensures ∙ ap (λ t. ordering t c.args.x.now) (c.key_by.ensures ∙ sym (key-is (goal.at.loop-lo-preserved c).In-loop-lo))) c.requires.1 c.in-Greater.is

pub returns : goal.returns
returns c = halving-done _ _ _ _ _ _ _ _ c.loop-lo.invariant c.loop-lo-test.false
