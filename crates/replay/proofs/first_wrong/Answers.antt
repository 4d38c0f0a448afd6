use native.Mathlib.Omega.{arith}
use Rattle.answers.specs.Answers.{no_pool}
use Rattle.locate.specs.Asked.{holder}
use Rattle.locate.proofs.WalkingLaws.{first-pool, first-fault, first_short, first-over}
use Rattle.replay.proofs.OpenLaws.{refused-agrees, cut-agrees, ended-agrees, first-is-wrong, no-records}
use Rattle.replay.proofs.first_wrong.Goals as goal

pub returns-then-n-eq0 : goal.returns-then-n-eq0
returns-then-n-eq0 c = no-records _ _ _ _ _ c.if-n-eq0.true

pub indexed-requires : goal.indexed-requires
indexed-requires c = (omega (arith, c.if-n-eq0.false), c.requires, first-pool c.read_first.ensures _ _ c.in-Pool.is)

pub returns-in-Refused : goal.returns-in-Refused
returns-in-Refused c = first-is-wrong _ _ _ _ (refused-agrees _ _ _ _ _ _ (first-fault c.read_first.ensures (holder _) no_pool _ _ c.in-Refused.is)) _ (omega (arith, c.if-n-eq0.false))

pub returns-in-Cut : goal.returns-in-Cut
returns-in-Cut c = first-is-wrong _ _ _ _ (cut-agrees _ _ _ _ _ (first_short c.read_first.ensures (holder _) no_pool _ c.in-Cut.is)) _ (omega (arith, c.if-n-eq0.false))

pub returns-in-End : goal.returns-in-End
returns-in-End c = first-is-wrong _ _ _ _ (ended-agrees _ _ _ _ _ _ (first-over c.read_first.ensures (holder _) no_pool _ c.in-End.is)) _ (omega (arith, c.if-n-eq0.false))
