use native.Mathlib.Omega.{arith}
use Prim.Native.Nat.{◌+◌, ◌≤◌}
use lib.ListN.{length}
use Rattle.old_dictionaries.proofs.PlaceLaws.{text-bad, text-in, text-got}
use Rattle.old_dictionaries.proofs.EntryLaws.{entry-unread, entry-keyed}
use Rattle.old_entries.proofs.take_entry.Goals as goal
use Rattle.old_entries.proofs.take_entry.Goals.{In-Ok}

-- where the key ends
key-end : (c : goal.In-Ok) → c.args.at + c.in-Ok.a + c.in-Ok.m ≤ length c.args.s.now
key-end c = text-in c.args.s.now c.args.at c.requires.2 _ c.read_text.ensures _ _ c.in-Ok.is

pub overflow_add-b : goal.overflow_add-b
overflow_add-b c = omega (arith, key-end c)

pub overflow_add-b-in-Ok : goal.overflow_add-b-in-Ok
overflow_add-b-in-Ok c = omega (arith, key-end c)

pub take_key-requires : goal.take_key-requires
take_key-requires c = (c.requires.0, c.requires.1, omega arith, key-end c)

pub returns-in-Err : goal.returns-in-Err
returns-in-Err c = entry-unread _ _ _ _ _ (text-bad c.args.s.now c.args.at c.requires.2 _ c.read_text.ensures _ c.in-Err.is)

pub returns-in-Ok : goal.returns-in-Ok
returns-in-Ok c = entry-keyed _ _ _ _ _ _ (text-got c.args.s.now c.args.at c.requires.2 _ c.read_text.ensures _ _ c.in-Ok.is) _ c.take_key.ensures
