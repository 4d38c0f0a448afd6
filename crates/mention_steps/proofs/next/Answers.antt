use mathlib.Core.Path.{ap}
use Rattle.places.proofs.PlaceLaws.{then-in, stands-is}
use Rattle.mentions.specs.View.{of_skipped}
use Rattle.mentions.proofs.ContentLaws.{none_ahead}
use Rattle.mention_steps.proofs.next.Goals as goal

pub returns-in-Err : goal.returns-in-Err
returns-in-Err c = record { means = none_ahead _ c.args.at _ _ (stands-is c.skip.ensures (ap of_skipped c.in-Err.is)) }

pub named-requires : goal.named-requires
named-requires c = then-in c.skip.ensures _ _ (ap of_skipped c.in-Ok.is)

pub returns-in-Ok : goal.returns-in-Ok
returns-in-Ok c = c.named.ensures.next _ _ c.requires (stands-is c.skip.ensures (ap of_skipped c.in-Ok.is))
