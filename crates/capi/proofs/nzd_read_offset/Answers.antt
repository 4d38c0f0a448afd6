use mathlib.Core.Path.{ap}
use Rattle.replies.specs.Functions.{number_reply}
use Rattle.replies.proofs.ReplyLaws.{gives_as}
use Rattle.capi.proofs.SmallLaws.{offset-small}
use Rattle.capi.proofs.nzd_read_offset.Goals as goal

pub give_number-requires : goal.give_number-requires
give_number-requires c = offset-small _ _ c.read_offset-c.ensures

pub returns : goal.returns
returns c = gives_as _ _ _ _ _ (ap number_reply c.read_offset-c.ensures) c.give_number.ensures
