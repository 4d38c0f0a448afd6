use native.Mathlib.Omega.{arith}
use mathlib.Core.Path.{ap}
use Rattle.replies.specs.Functions.{read_reply}
use Rattle.replies.proofs.ReplyLaws.{gives_as}
use Rattle.capi.proofs.OldLaws.{old-count-small}
use Rattle.capi.proofs.nzd_old_read_count.Goals as goal

pub give_read-requires : goal.give_read-requires
give_read-requires c = old-count-small _ (λ i. omega (arith, c.shared_slice_known-1.given i)) _ c.read_count-c.ensures

pub returns : goal.returns
returns c = gives_as _ _ _ _ _ (ap read_reply c.read_count-c.ensures) c.give_read.ensures
