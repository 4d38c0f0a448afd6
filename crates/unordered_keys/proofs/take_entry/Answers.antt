use native.Mathlib.Omega.{arith}
use Prim.Native.Nat.{◌+◌, ◌≤◌}
use lib.ListN.{length}
use Rattle.old_dictionaries.proofs.PlaceLaws.{text-bad, text-in, text-got}
use Rattle.unordered_keys.proofs.StepLaws.{step-unread, step-second, step-valueless, step-next}
use Rattle.unordered_keys.proofs.take_entry.Goals as goal
use Rattle.unordered_keys.proofs.take_entry.Goals.{In-Ok, In-Ok-read_text}

-- where the key ends
key-end : (c : goal.In-Ok) → c.args.at + c.in-Ok.a + c.in-Ok.m ≤ length c.args.s.now
key-end c = text-in c.args.s.now c.args.at c.requires.1 _ c.read_text.ensures _ _ c.in-Ok.is

pub overflow_add-b : goal.overflow_add-b
overflow_add-b c = omega (arith, key-end c)

pub overflow_add-c : goal.overflow_add-c
overflow_add-c c = omega (arith, key-end c)

pub is_second-requires : goal.is_second-requires
is_second-requires c = (c.requires.0, omega arith, key-end (goal.at.is_second-requires c).In-Ok, c.requires.2)

pub returns-then-is_second : goal.returns-then-is_second
returns-then-is_second c = step-second _ _ _ _ _ _ _ (c.args.at + c.in-Ok.a) (c.args.at + c.in-Ok.a + c.in-Ok.m) (text-got c.args.s.now c.args.at c.requires.1 _ c.read_text.ensures _ _ c.in-Ok.is) _ _ _ _ c.is_second.ensures c.if-is_second.true

pub slice_bounds-read_text-count-in-Ok : goal.slice_bounds-read_text-count-in-Ok
slice_bounds-read_text-count-in-Ok c = key-end (goal.at.slice_bounds-read_text-count-in-Ok c).In-Ok

pub slice_bounds-read_text-start-in-Ok : goal.slice_bounds-read_text-start-in-Ok
slice_bounds-read_text-start-in-Ok c = key-end (goal.at.slice_bounds-read_text-start-in-Ok c).In-Ok

-- where the value ends
value-end : (c : goal.In-Ok-read_text) → (c.args.at + c.in-Ok.a + c.in-Ok.m) + c.in-Ok-read_text.v + c.in-Ok-read_text.l ≤ length c.args.s.now
value-end c = text-in c.args.s.now (c.args.at + c.in-Ok.a + c.in-Ok.m) (key-end (goal.at.overflow_add-result c).In-Ok) _ c.read_text-in-Ok.ensures _ _ c.in-Ok-read_text.is

pub overflow_add-result : goal.overflow_add-result
overflow_add-result c = omega (arith, value-end c)

pub overflow_add-result-in-Ok-read_text : goal.overflow_add-result-in-Ok-read_text
overflow_add-result-in-Ok-read_text c = omega (arith, value-end c)

pub returns-in-Err : goal.returns-in-Err
returns-in-Err c = step-unread _ _ _ _ _ _ _ _ (text-bad c.args.s.now c.args.at c.requires.1 _ c.read_text.ensures _ c.in-Err.is)

pub returns-in-Err-read_text : goal.returns-in-Err-read_text
returns-in-Err-read_text c = step-valueless _ _ _ _ _ _ _ (c.args.at + c.in-Ok.a) (c.args.at + c.in-Ok.a + c.in-Ok.m) (text-got c.args.s.now c.args.at c.requires.1 _ c.read_text.ensures _ _ c.in-Ok.is) _ _ _ _ c.is_second.ensures c.if-is_second.false _ (text-bad c.args.s.now (c.args.at + c.in-Ok.a + c.in-Ok.m) (key-end (goal.at.returns-in-Err-read_text c).In-Ok) _ c.read_text-in-Ok.ensures _ c.in-Err-read_text.is)

pub returns-in-Ok-read_text : goal.returns-in-Ok-read_text
returns-in-Ok-read_text c = step-next _ _ _ _ _ _ _ (c.args.at + c.in-Ok.a) (c.args.at + c.in-Ok.a + c.in-Ok.m) (text-got c.args.s.now c.args.at c.requires.1 _ c.read_text.ensures _ _ c.in-Ok.is) _ _ _ _ c.is_second.ensures c.if-is_second.false ((c.args.at + c.in-Ok.a + c.in-Ok.m) + c.in-Ok-read_text.v) _ (value-end c) (text-got c.args.s.now (c.args.at + c.in-Ok.a + c.in-Ok.m) (key-end (goal.at.returns-in-Ok-read_text c).In-Ok) _ c.read_text-in-Ok.ensures _ _ c.in-Ok-read_text.is)
