use native.Mathlib.Omega.{arith}
use Rattle.base.proofs.Parts.{part-from}
use Rattle.zones.proofs.ReadLaws.{refused-front, fixed-front}
use Rattle.local_times.proofs.FindLaws.{find-bad, fixed-high, find-fixed, intervals-at}
use Rattle.local_lookups.proofs.find.Goals as goal

pub candidate-t-requires : goal.candidate-t-requires
candidate-t-requires c = omega (arith, fixed-high _ 0 _ _ _ _ (fixed-front _ _ _ _ _ (rw (part-from 0 c.args.s.now) at c.read_front.ensures) _ _ _ c.in-Fixed.is))

pub find_listed-requires : goal.find_listed-requires
find_listed-requires c = intervals-at _ 0 _ _ _ (rw (part-from 0 c.args.s.now) at c.read_front.ensures) _ _ _ c.in-Listed.is

pub returns-in-Refused : goal.returns-in-Refused
returns-in-Refused c = find-bad _ _ _ _ (refused-front _ _ _ _ _ (rw (part-from 0 c.args.s.now) at c.read_front.ensures) _ c.in-Refused.is)

pub returns-in-Fixed : goal.returns-in-Fixed
returns-in-Fixed c = find-fixed _ _ _ _ _ _ (fixed-front _ _ _ _ _ (rw (part-from 0 c.args.s.now) at c.read_front.ensures) _ _ _ c.in-Fixed.is) _ _ c.candidate-t.ensures c.counted.ensures
