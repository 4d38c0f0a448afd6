use mathlib.Core.Path.{ap}
use Rattle.replies.specs.Functions.{text_reply}
use Rattle.replies.proofs.ReplyLaws.{gives_as}
use Rattle.capi.proofs.SmallLaws.{text-small}
use Rattle.capi.proofs.nzd_read_text.Goals as goal

pub give_text-requires : goal.give_text-requires
give_text-requires c = text-small _ _ c.read_text-t.ensures

pub returns : goal.returns
returns c = gives_as _ _ _ _ _ (ap text_reply c.read_text-t.ensures) c.give_text.ensures
