use mathlib.Core.Path.{refl, ap}
use Rattle.places.specs.Placed.{of_read}
use Rattle.places.proofs.PlaceLaws.{then-in, stands-is}
use Rattle.zone_mentions.proofs.ShortLaws.{no_start, start-behind}
use Rattle.zone_mentions.proofs.any_start.Goals as goal

pub sum_at-requires-in-Ok : goal.sum_at-requires-in-Ok
sum_at-requires-in-Ok c = then-in c.sum_at.ensures _ _ (ap of_read c.in-Ok.is)

pub moment_at-requires : goal.moment_at-requires
moment_at-requires c = then-in c.sum_at-in-Ok.ensures _ _ (ap of_read c.in-Ok-sum_at.is)

pub returns-in-Err : goal.returns-in-Err
returns-in-Err c = no_start _ _ _ _ refl

pub returns-in-Err-sum_at : goal.returns-in-Err-sum_at
returns-in-Err-sum_at c = no_start _ _ _ _ refl

pub returns-in-Err-moment_at : goal.returns-in-Err-moment_at
returns-in-Err-moment_at c = no_start _ _ _ _ refl

pub returns-in-Ok-moment_at : goal.returns-in-Ok-moment_at
returns-in-Ok-moment_at c = start-behind _ _ _ _ _ _ _ _ _ (stands-is c.sum_at.ensures (ap of_read c.in-Ok.is)) (stands-is c.sum_at-in-Ok.ensures (ap of_read c.in-Ok-sum_at.is)) (stands-is c.moment_at.ensures (ap of_read c.in-Ok-moment_at.is))
