use mir.Facts.{to_z-of_z}
use Rattle.differences.specs.Difference.{Gives}
use Rattle.capi.proofs.ToolLaws.{listing-small, lists-difference}
use Rattle.capi.proofs.nzd_difference.Goals as goal
use Rattle.capi.proofs.nzd_difference.Goals.{After-give_count-arg-1}

given : (c : goal.After-give_count-arg-1)
    → Gives c.args.file.now c.args.other.now c.args.id.now c.args.first c.args.last c.args.out.now c.difference-x.result c.difference-x.new.out
given c = rw (to_z-of_z c.ranges.first, to_z-of_z c.ranges.last) at c.difference-x.ensures

pub give_count-requires : goal.give_count-requires
give_count-requires c = listing-small _ _ _ _ _ _ _ (given c).result

pub returns : goal.returns
returns c = lists-difference _ _ _ _ _ _ _ _ _ _ _ (given (goal.at.returns c).After-give_count-arg-1) c.give_count.ensures
