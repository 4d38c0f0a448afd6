use native.Mathlib.Omega.{arith}
use Prim.Native.Nat.{◌+◌, ◌≤◌}
use lib.ListN.{length}
use Rattle.old_dictionaries.proofs.PlaceLaws.{text-bad, text-in, text-got}
use Rattle.old_dictionaries.proofs.EntryLaws.{value-bad, value-next}
use Rattle.old_entries.proofs.take_value.Goals as goal
use Rattle.old_entries.proofs.take_value.Goals.{In-Ok}

-- where the value ends
value-end : (c : goal.In-Ok) → c.args.at + c.in-Ok.v + c.in-Ok.l ≤ length c.args.s.now
value-end c = text-in c.args.s.now c.args.at c.requires _ c.read_text.ensures _ _ c.in-Ok.is

pub overflow_add-result : goal.overflow_add-result
overflow_add-result c = omega (arith, value-end c)

pub overflow_add-result-in-Ok : goal.overflow_add-result-in-Ok
overflow_add-result-in-Ok c = omega (arith, value-end c)

pub returns-in-Err : goal.returns-in-Err
returns-in-Err c = value-bad _ _ _ _ _ (text-bad c.args.s.now c.args.at c.requires _ c.read_text.ensures _ c.in-Err.is)

pub returns-in-Ok : goal.returns-in-Ok
returns-in-Ok c = value-next _ _ _ _ _ _ (value-end c) (text-got c.args.s.now c.args.at c.requires _ c.read_text.ensures _ _ c.in-Ok.is)
