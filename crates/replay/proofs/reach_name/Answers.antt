use Rattle.replay.proofs.OpenLaws.{reached-named}
use Rattle.replay.proofs.reach_name.Goals as goal

pub returns : goal.returns
returns c = reached-named _ _ _ _ _ _ _ _ _ c.args.at _ _ c.four_at-start.ensures.0 c.four_at-len.ensures.0 c.reach.ensures
