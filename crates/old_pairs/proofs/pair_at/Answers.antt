use native.Mathlib.Omega.{arith}
use mathlib.Core.List.{[]}
use Prim.Native.Nat.{◌+◌, ◌≤◌}
use lib.ListN.{length}
use Rattle.old_dictionaries.proofs.PlaceLaws.{text-bad, text-in, text-got}
use Rattle.old_dictionaries.proofs.PairLaws.{key-bad, pair-bad, pair-got}
use Rattle.old_pairs.proofs.pair_at.Goals as goal
use Rattle.old_pairs.proofs.pair_at.Goals.{In-Ok, In-Ok-read_text}

-- where the key and the value end
key-end : (c : goal.In-Ok) → c.args.at + c.in-Ok.a + c.in-Ok.m ≤ length c.args.s.now
key-end c = text-in c.args.s.now c.args.at c.requires _ c.read_text.ensures _ _ c.in-Ok.is

value-end : (c : goal.In-Ok-read_text) → c.args.at + c.in-Ok.a + c.in-Ok.m + c.in-Ok-read_text.v + c.in-Ok-read_text.n ≤ length c.args.s.now
value-end c = text-in c.args.s.now _ (key-end (goal.at.overflow_add-result c).In-Ok) _ c.read_text-in-Ok.ensures _ _ c.in-Ok-read_text.is

pub overflow_add-b : goal.overflow_add-b
overflow_add-b c = omega (arith, key-end c)

pub overflow_add-c : goal.overflow_add-c
overflow_add-c c = omega (arith, key-end c)

pub slice_bounds-read_text-count-in-Ok : goal.slice_bounds-read_text-count-in-Ok
slice_bounds-read_text-count-in-Ok c = omega (arith, key-end c)

pub slice_bounds-read_text-start-in-Ok : goal.slice_bounds-read_text-start-in-Ok
slice_bounds-read_text-start-in-Ok c = omega (arith, key-end c)

pub overflow_add-result : goal.overflow_add-result
overflow_add-result c = omega (arith, value-end c)

pub overflow_add-result-in-Ok-read_text : goal.overflow_add-result-in-Ok-read_text
overflow_add-result-in-Ok-read_text c = omega (arith, value-end c)

pub overflow_add-result-in-Ok-read_text-2 : goal.overflow_add-result-in-Ok-read_text-2
overflow_add-result-in-Ok-read_text-2 c = omega (arith, value-end c)

pub returns-in-Err : goal.returns-in-Err
returns-in-Err c = record { means = (_, key-bad _ _ (text-bad c.args.s.now c.args.at c.requires _ c.read_text.ensures _ c.in-Err.is)) }

pub returns-in-Err-read_text : goal.returns-in-Err-read_text
returns-in-Err-read_text c = record {
  means = (_, pair-bad _ _ [] _ (text-got c.args.s.now c.args.at c.requires _ c.read_text.ensures _ _ c.in-Ok.is) _ (text-bad c.args.s.now _ (key-end (goal.at.returns-in-Err-read_text c).In-Ok) _ c.read_text-in-Ok.ensures _ c.in-Err-read_text.is));
}

pub returns-in-Ok-read_text : goal.returns-in-Ok-read_text
returns-in-Ok-read_text c = record {
  means = (
    omega arith,
    omega arith,
    omega arith,
    value-end c,
    pair-got _ _ _ _ (text-got c.args.s.now c.args.at c.requires _ c.read_text.ensures _ _ c.in-Ok.is) _ (text-got c.args.s.now _ (key-end (goal.at.returns-in-Ok-read_text c).In-Ok) _ c.read_text-in-Ok.ensures _ _ c.in-Ok-read_text.is),
  );
}
