use Rattle.location_lookup.proofs.LookupLaws.{located-is}
use Rattle.location_fields.proofs.locate.Goals as goal

pub returns : goal.returns
returns c = located-is _ _ _ _ _ _ _ _ _ c.pin_at-pin.ensures c.text_in-zone.ensures c.text_in-comment.ensures
