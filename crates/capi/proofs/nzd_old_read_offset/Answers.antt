use native.Mathlib.Omega.{arith}
use mathlib.Core.Path.{ap}
use Rattle.replies.specs.Functions.{number_reply}
use Rattle.replies.proofs.ReplyLaws.{gives_as}
use Rattle.capi.proofs.OldLaws.{old-offset-small}
use Rattle.capi.proofs.nzd_old_read_offset.Goals as goal

pub give_number-requires : goal.give_number-requires
give_number-requires c = old-offset-small _ (λ i. omega (arith, c.shared_slice_known-1.given i)) _ c.read_offset-c.ensures

pub returns : goal.returns
returns c = gives_as _ _ _ _ _ (ap number_reply c.read_offset-c.ensures) c.give_number.ensures
