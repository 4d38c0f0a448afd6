use mathlib.Core.Path.{ap, ◌∙◌}
use Rattle.places.specs.Placed.{of_read}
use Rattle.places.proofs.PlaceLaws.{then-in, then-got, then-bad}
use Rattle.zones.specs.Parse.{after_end}
use Rattle.zones.proofs.ReadLaws.{end-bad, end_on, after_last}
use Rattle.zone_ends.proofs.read_end.Goals as goal

pub byte_at-requires : goal.byte_at-requires
byte_at-requires c = then-in c.moment_at.ensures _ _ (ap of_read c.in-Ok.is)

pub read_ending-requires : goal.read_ending-requires
read_ending-requires c = then-in c.byte_at.ensures _ _ (ap of_read c.in-Ok-byte_at.is)

pub returns-in-Err : goal.returns-in-Err
returns-in-Err c = end-bad _ _ _
    (λ id is l. after_last _ _ is _ _ l ∙
    then-bad c.moment_at.ensures _ _ (ap of_read c.in-Err.is))

pub returns-in-Err-byte_at : goal.returns-in-Err-byte_at
unfolding after_end
returns-in-Err-byte_at c = end-bad _ _ _
    (λ id is l. after_last _ _ is _ _ l ∙
    then-got c.moment_at.ensures _ _ _
    (ap of_read c.in-Ok.is) ∙
    then-bad c.byte_at.ensures _ _ (ap of_read c.in-Err-byte_at.is))

pub returns-in-Ok-byte_at : goal.returns-in-Ok-byte_at
unfolding after_end
returns-in-Ok-byte_at c = end_on _ _ _ _
    (λ id is l. after_last _ _ is _ _ l ∙
    then-got c.moment_at.ensures _ _ _
    (ap of_read c.in-Ok.is) ∙
    then-got c.byte_at.ensures _ _ _ (ap of_read c.in-Ok-byte_at.is))
    c.read_ending.ensures
