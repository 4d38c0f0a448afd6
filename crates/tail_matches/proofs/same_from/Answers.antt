use Rattle.same_tails.proofs.SameLaws.{none_left, bad-left, none_right, bad-right, both-tailed}
use Rattle.tail_matches.proofs.same_from.Goals as goal

pub tails_from-requires : goal.tails_from-requires
tails_from-requires c = (c.requires.0, c.requires.1, c.requires.2 _ c.in-Tailed.is, c.requires.3 _ c.in-Tailed-f.is)

pub returns-in-Untailed : goal.returns-in-Untailed
returns-in-Untailed c = none_left _ _ _ _ c.in-Untailed.is

pub returns-in-Refused : goal.returns-in-Refused
returns-in-Refused c = bad-left _ _ _ _ _ c.in-Refused.is

pub returns-in-Untailed-f : goal.returns-in-Untailed-f
returns-in-Untailed-f c = none_right _ _ _ _ _ c.in-Tailed.is c.in-Untailed-f.is

pub returns-in-Refused-f : goal.returns-in-Refused-f
returns-in-Refused-f c = bad-right _ _ _ _ _ c.in-Tailed.is _ c.in-Refused-f.is

pub returns-in-Tailed-f : goal.returns-in-Tailed-f
returns-in-Tailed-f c = both-tailed _ _ _ _ _ c.in-Tailed.is _ c.in-Tailed-f.is _ c.tails_from.ensures
