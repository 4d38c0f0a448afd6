use native.Mathlib.Omega.{arith}
use Rattle.location_lookup.proofs.LookupLaws.{text-room, text-is}
use Rattle.location_lookup.proofs.text_in.Goals as goal

pub overflow_add-result : goal.overflow_add-result
overflow_add-result c = omega (arith, text-room _ _ _ _ _ _ c.lent-d.ensures c.find_string-x.ensures 18446744073709551615 (omega arith) (omega arith))

pub returns : goal.returns
returns c = text-is _ _ _ _ _ _ c.lent-d.ensures c.find_string-x.ensures
