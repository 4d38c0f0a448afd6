-- A zone as an edition of Noda Time shows it. To be believed.
use Rattle.zones.specs.Content.{absent, Body, fixed, listed, Zone}
use Rattle.zones.specs.declared.Edition.{Edition}
use Rattle.zones.specs.declared.Edition.TheVariants.{One, Two}

-- "1.x .. ignores a fixed zone's name": one that follows is as one that is absent. "A fixed zone" is one of flag 1.
unfoldable pub nameless : Body → Body
nameless (fixed offset n) = fixed offset absent
nameless (listed is end e) = listed is end e

-- "Under 1 a fixed zone's name is its ID whatever follows; under 2 it is as today." It is so of what is read, so "the bytes accepted .. are the
-- same under both".
unfoldable pub under : Edition → Zone → Zone
under One z = record { id = z.id; body = nameless z.body }
under Two z = z
