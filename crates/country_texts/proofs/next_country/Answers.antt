use Rattle.location_lookup.proofs.LookupLaws.{next-none, next-given}
use Rattle.country_texts.proofs.next_country.Goals as goal

pub returns-in-None : goal.returns-in-None
returns-in-None c = next-none _ _ _ _ _ _ _ c.lent.ensures c.next_in-x.ensures c.in-None.is

pub returns-in-Some : goal.returns-in-Some
returns-in-Some c = next-given _ _ _ _ _ _ _ c.lent.ensures c.next_in-x.ensures _ _ _ c.in-Some.is c.texts_of.ensures
