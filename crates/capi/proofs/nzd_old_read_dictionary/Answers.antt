use native.Mathlib.Omega.{arith}
use mathlib.Core.Path.{ap}
use Rattle.old_replies.specs.Functions.{dictionary_reply}
use Rattle.replies.proofs.ReplyLaws.{gives_as}
use Rattle.capi.proofs.OldLaws.{old-dictionary-small}
use Rattle.capi.proofs.nzd_old_read_dictionary.Goals as goal

pub give_read-requires : goal.give_read-requires
give_read-requires c = old-dictionary-small _ (λ i. omega (arith, c.shared_slice_known-1.given i)) (omega (arith, c.well_formed.0.1)) _ c.read_dictionary-f.ensures

pub returns : goal.returns
returns c = gives_as _ _ _ _ _ (ap dictionary_reply c.read_dictionary-f.ensures) c.give_read.ensures
