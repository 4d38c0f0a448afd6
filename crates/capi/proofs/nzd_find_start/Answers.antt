use mathlib.Core.Path.{◌≡◌, ap}
use native.Mathlib.Omega.{arith}
use mir.Facts.{to_z-of_z}
use Rattle.halving.specs.Halving.{find_start}
use Rattle.tool_replies.specs.Functions.{search_reply}
use Rattle.replies.proofs.ReplyLaws.{gives_as}
use Rattle.capi.proofs.ToolLaws.{search-small}
use Rattle.capi.proofs.nzd_find_start.Goals as goal
use Rattle.capi.proofs.nzd_find_start.Goals.{After-give_pair-arg-1}

found : (c : goal.After-give_pair-arg-1) → c.find_start-x.result ≡ find_start c.args.table.now c.args.instant
found c = rw (to_z-of_z c.ranges.instant) at c.find_start-x.ensures

pub give_pair-requires : goal.give_pair-requires
give_pair-requires c = search-small _ _ (omega (arith, c.well_formed.0.1)) _ (found c)

pub returns : goal.returns
returns c = gives_as _ _ _ _ _ (ap search_reply (found (goal.at.returns c).After-give_pair-arg-1)) c.give_pair.ensures
