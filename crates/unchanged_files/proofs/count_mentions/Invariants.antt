use Rattle.unchanged_files.proofs.PlainLaws.{PlainSo}
use Rattle.unchanged_files.proofs.CountLaws.{Counting}
use Rattle.unchanged_files.proofs.UnreadLaws.{Seeking}
use lib.ListN.{length}
use Prim.Native.Nat.{◌-◌}
use Rattle.unchanged_files.proofs.count_mentions.Given as goal

abbrev pub invariant-loop-at : goal.invariant-loop-at
invariant-loop-at l = Seeking l.s l.at × Counting l.s l.initial.uses l.uses l.at × PlainSo l.s l.strings l.plain l.at

abbrev pub decreases-loop-at : goal.decreases-loop-at
decreases-loop-at l = length l.s - l.at
