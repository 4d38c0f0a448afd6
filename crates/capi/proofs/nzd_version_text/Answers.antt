use mathlib.Core.Path.{ap}
use native.Mathlib.Omega.{arith}
use Rattle.file_replies.specs.Functions.{version_reply}
use Rattle.replies.proofs.ReplyLaws.{gives_as}
use Rattle.capi.proofs.SmallLaws.{version-small}
use Rattle.capi.proofs.nzd_version_text.Goals as goal

pub give_pair-requires : goal.give_pair-requires
give_pair-requires c = version-small _ (omega (arith, c.well_formed.0.1)) _ c.version_text-t.ensures

pub returns : goal.returns
returns c = gives_as _ _ _ _ _ (ap version_reply c.version_text-t.ensures) c.give_pair.ensures
