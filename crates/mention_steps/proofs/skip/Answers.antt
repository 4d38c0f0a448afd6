use mathlib.Core.Path.{refl}
use Rattle.places.proofs.PlaceLaws.{here}
use Rattle.mentions.specs.Walk.{ahead_of}
use Rattle.mentions.proofs.WalkLaws.{none_here, ahead-is}
use Rattle.mention_steps.proofs.skip.Goals as goal

pub returns-in-Zone : goal.returns-in-Zone
unfolding ahead_of
returns-in-Zone c = ahead-is _ c.args.at _ _ _ c.in-Zone.is (here _ _ _ _ refl c.requires)

pub returns-in-Flag : goal.returns-in-Flag
unfolding ahead_of
returns-in-Flag c = ahead-is _ c.args.at _ _ _ c.in-Flag.is c.behind_id.ensures

pub returns-in-Interval : goal.returns-in-Interval
unfolding ahead_of
returns-in-Interval c = ahead-is _ c.args.at _ _ _ c.in-Interval.is c.behind_details.ensures

pub returns-in-Rule : goal.returns-in-Rule
unfolding ahead_of
returns-in-Rule c = ahead-is _ c.args.at _ _ _ c.in-Rule.is c.behind_rule.ensures

pub returns-in-Aliases : goal.returns-in-Aliases
unfolding ahead_of
returns-in-Aliases c = ahead-is _ c.args.at _ _ _ c.in-Aliases.is c.before_pairs.ensures

pub returns-in-Locations : goal.returns-in-Locations
unfolding ahead_of
returns-in-Locations c = ahead-is _ c.args.at _ _ _ c.in-Locations.is c.before_locations.ensures

pub returns-in-Names : goal.returns-in-Names
unfolding ahead_of
returns-in-Names c = ahead-is _ c.args.at _ _ _ c.in-Names.is c.before_names.ensures

pub returns-in-Rest : goal.returns-in-Rest
unfolding ahead_of
returns-in-Rest c = ahead-is _ c.args.at _ _ _ c.in-Rest.is (none_here _)
