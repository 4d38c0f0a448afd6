use native.Mathlib.Omega.{arith}
use Rattle.preferred_walks.proofs.ReadyLaws.{empty-not, empty-so}
use Rattle.preferred_walks.proofs.is_empty.Goals as goal

pub returns-then-s-at-lt2 : goal.returns-then-s-at-lt2
returns-then-s-at-lt2 c = empty-not _ _

pub returns-then-s-at-eq1 : goal.returns-then-s-at-eq1
returns-then-s-at-eq1 c = empty-not _ _

pub returns : goal.returns
returns c = empty-so _ _ (omega (arith, c.requires)) c.if-s-at-eq1.false
