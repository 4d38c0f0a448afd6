use Prim.Native.Nat.{◌-◌}
use lib.ListN.{length}
use native.Mathlib.Omega.{arith}
use Rattle.counted_zones.proofs.StepLaws.{number-rises}
use Rattle.counted_zones.proofs.CountLaws.{room-one, name-counted}
use Rattle.counted_zones.proofs.count_name.Goals as goal

pub mention-requires : goal.mention-requires
mention-requires c = room-one _ (length c.args.s.now - c.args.at) _ c.requires.1 (omega (arith, number-rises c.args.s.now c.args.at, c.requires.0))

pub returns : goal.returns
returns c = name-counted _ _ _ _ _ _ c.number_at-k.ensures c.mention.ensures c.number_end.ensures
