use native.Mathlib.Omega.{arith}
use Rattle.zone_ends.proofs.UntailedLaws.{untailed-at, not-untailed}
use Rattle.zone_ends.proofs.is_untailed.Goals as goal

pub returns-then-s-at-ne2 : goal.returns-then-s-at-ne2
returns-then-s-at-ne2 c = not-untailed _ _

pub returns-then-s-at-ne1 : goal.returns-then-s-at-ne1
returns-then-s-at-ne1 c = not-untailed _ _

pub returns-then-s-at-ne0 : goal.returns-then-s-at-ne0
returns-then-s-at-ne0 c = not-untailed _ _

pub returns : goal.returns
returns c = untailed-at _ _ (omega arith) c.if-s-at-ne1.false c.if-s-at-ne0.false
