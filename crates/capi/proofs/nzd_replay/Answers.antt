use mathlib.Core.Path.{ap}
use native.Mathlib.Omega.{arith}
use Rattle.tool_replies.specs.Functions.{report_reply}
use Rattle.replies.proofs.ReplyLaws.{gives_as}
use Rattle.capi.proofs.ToolLaws.{report-small}
use Rattle.capi.proofs.nzd_replay.Goals as goal

pub give_report-requires : goal.give_report-requires
give_report-requires c = report-small _ _ (omega (arith, c.well_formed.1.0.1)) _ c.replay-x.ensures

pub returns : goal.returns
returns c = gives_as _ _ _ _ _ (ap report_reply c.replay-x.ensures) c.give_report.ensures
