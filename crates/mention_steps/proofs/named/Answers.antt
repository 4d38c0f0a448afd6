use mathlib.Core.Path.{ap}
use Rattle.places.specs.Placed.{of_read}
use Rattle.places.proofs.PlaceLaws.{stands-is}
use Rattle.mentions.proofs.ContentLaws.{none_number, mention-here}
use Rattle.mention_steps.proofs.named.Goals as goal

pub returns-in-Err : goal.returns-in-Err
returns-in-Err c = record { next = λ place σ h a. record { means = none_number _ place σ _ _ a _ (stands-is c.count_at.ensures (ap of_read c.in-Err.is)) } }

pub returns-in-Ok : goal.returns-in-Ok
returns-in-Ok c = record { next = λ place σ h a. record { means = mention-here _ place σ _ _ a h _ _ (stands-is c.count_at.ensures (ap of_read c.in-Ok.is)) } }
