use Rattle.std.specs.Prelude.{Ok, Result}
use Rattle.std.specs.declared.option.Option.{Option}
use Rattle.base.specs.declared.Refusal.{Refusal}
use mathlib.Core.Path.{◌≡◌, ap, ◌∙◌}
use Rattle.locations.specs.declared.Spot.{Spot}
use Rattle.location_lookup.proofs.LookupLaws.{field-sound, field-here, field-beyond, field-bad}
use Rattle.location_fields.proofs.in_field.Goals as goal

-- what was found, told by two patterns
told : {r : Result (Option Spot) Refusal} {o p : Option Spot} → r ≡ Ok o → o ≡ p → r ≡ Ok p
told h q = h ∙ ap Ok q

pub locate-requires : goal.locate-requires
locate-requires c = field-sound _ _ _ 0 _ _ _ _ _ _ _ _ c.lent-2.ensures c.lent.ensures c.room-count.ensures c.find-found.ensures _ (told c.in-Ok-Some.is (rw c.in-Ok-Some.is at c.in-Ok-Some.field-0-is))

pub returns-in-Ok-Some : goal.returns-in-Ok-Some
returns-in-Ok-Some c = field-here _ _ _ _ _ _ _ _ _ _ _ _ c.lent-2.ensures c.lent.ensures c.room-count.ensures c.find-found.ensures _ _ (told c.in-Ok-Some.is (rw c.in-Ok-Some.is at c.in-Ok-Some.field-0-is)) c.locate.ensures

pub returns-in-Ok-None : goal.returns-in-Ok-None
returns-in-Ok-None c = field-beyond _ _ _ _ _ _ _ _ _ _ _ _ c.lent-2.ensures c.lent.ensures c.room-count.ensures c.find-found.ensures (told c.in-Ok-None.is (rw c.in-Ok-None.is at c.in-Ok-None.field-0-is))

pub returns-in-Err : goal.returns-in-Err
returns-in-Err c = field-bad _ _ _ _ _ _ _ _ _ _ _ _ c.lent-2.ensures c.lent.ensures c.room-count.ensures c.find-found.ensures _ c.in-Err.is
