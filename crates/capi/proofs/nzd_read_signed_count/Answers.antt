use mathlib.Core.Path.{ap}
use Rattle.replies.specs.Functions.{number_reply}
use Rattle.replies.proofs.ReplyLaws.{gives_as}
use Rattle.capi.proofs.SmallLaws.{signed-count-small}
use Rattle.capi.proofs.nzd_read_signed_count.Goals as goal

pub give_number-requires : goal.give_number-requires
give_number-requires c = signed-count-small _ _ c.read_signed_count-c.ensures

pub returns : goal.returns
returns c = gives_as _ _ _ _ _ (ap number_reply c.read_signed_count-c.ensures) c.give_number.ensures
