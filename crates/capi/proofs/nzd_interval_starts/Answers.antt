use native.Mathlib.Omega.{arith}
use Rattle.capi.proofs.ToolLaws.{filling-small, fills-starts}
use Rattle.capi.proofs.nzd_interval_starts.Goals as goal

pub give_count-requires : goal.give_count-requires
give_count-requires c = filling-small _ _ _ (omega (arith, c.well_formed.1.1.0.1)) _
    c.fill_starts-x.ensures.0

pub returns : goal.returns
returns c = fills-starts _ _ _ _ _ _ _ _ c.fill_starts-x.ensures c.give_count.ensures
