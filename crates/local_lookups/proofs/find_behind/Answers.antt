use native.Mathlib.Omega.{arith}
use Rattle.zones.proofs.ReadLaws.{end_is}
use Rattle.local_times.proofs.FindLaws.{end_refused, end-untailed, end-tail-ok, end-tailed, with-last-most}
use Rattle.local_lookups.proofs.find_behind.Goals as goal

pub with_tail-requires : goal.with_tail-requires
with_tail-requires c = (omega (arith, with-last-most _ _ _ _ c.with_last-a.ensures, c.requires.few), end-tail-ok _ _ _ _ _ c.requires _ (end_is c.read_end.ensures c.in-Tailed.is))

pub returns-in-Refused : goal.returns-in-Refused
returns-in-Refused c = end_refused _ _ _ _ _ c.requires _ (end_is c.read_end.ensures c.in-Refused.is)

pub returns-in-Untailed : goal.returns-in-Untailed
returns-in-Untailed c = end-untailed _ _ _ _ _ c.requires (end_is c.read_end.ensures c.in-Untailed.is) _ c.with_last.ensures

pub returns-in-Tailed : goal.returns-in-Tailed
returns-in-Tailed c = end-tailed _ _ _ _ _ c.requires _ (end_is c.read_end.ensures c.in-Tailed.is) _ _ c.with_last-a.ensures c.with_tail.ensures
