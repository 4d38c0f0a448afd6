use mathlib.Core.Path.{ap}
use Rattle.replies.specs.Functions.{read_reply}
use Rattle.replies.proofs.ReplyLaws.{gives_as}
use Rattle.capi.proofs.SmallLaws.{count_small}
use Rattle.capi.proofs.nzd_read_count.Goals as goal

pub give_read-requires : goal.give_read-requires
give_read-requires c = count_small _ _ c.read_count-c.ensures

pub returns : goal.returns
returns c = gives_as _ _ _ _ _ (ap read_reply c.read_count-c.ensures) c.give_read.ensures
