use native.Mathlib.Omega.{arith}
use Rattle.location_lookup.proofs.LookupLaws.{text-room, text-is}
use Rattle.found_zones.proofs.AskLaws.{in-denied, in-ok, in-found}
use Rattle.found_zones.proofs.answer_in.Goals as goal

pub overflow_add-v : goal.overflow_add-v
overflow_add-v c = omega (arith, text-room _ _ _ _ _ _ c.lent-pool.ensures c.find_string-name.ensures 18446744073709551615 (omega arith) (omega arith))

pub answer_of-requires : goal.answer_of-requires
answer_of-requires c = let k = in-ok _ c.args.v _ _ _ _ _ _ c.lent-pool.ensures c.room-count.ensures c.lent-zone.ensures c.find.ensures _ c.in-Ok.is c.requires in
    (k.wall-high, k.savings-high, k.standard-low)

pub returns-in-Err : goal.returns-in-Err
returns-in-Err c = in-denied _ c.args.v _ _ _ _ _ _ c.lent-pool.ensures c.room-count.ensures c.lent-zone.ensures c.find.ensures _ _ c.in-Err.is c.place_in.ensures

pub returns-in-Ok : goal.returns-in-Ok
returns-in-Ok c = in-found _ c.args.v _ _ _ _ _ _ c.lent-pool.ensures c.room-count.ensures c.lent-zone.ensures c.find.ensures _ c.in-Ok.is _ _
    (text-is _ _ _ _ _ _ c.lent-pool.ensures c.find_string-name.ensures) c.answer_of.ensures
