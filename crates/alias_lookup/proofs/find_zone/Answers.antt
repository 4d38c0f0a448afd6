use mathlib.Core.Path.{refl, ◌∙◌}
use Prim.Native.Nat.{◌<◌, ◌-◌}
use native.Mathlib.Omega.{arith}
use lib.ListN.{length}
use Rattle.pool.specs.Pool.{strings_of}
use Rattle.alias_lookup.proofs.FlagLaws.{unflagged-on, flag-on}
use Rattle.alias_lookup.proofs.FindLaws.{zone-found, zone-none}
use Rattle.alias_lookup.proofs.find_zone.Goals as goal
use Rattle.alias_lookup.proofs.find_zone.Goals.{then-zones-j-ne0+else-has_id, else-zones-j-ne0}

pub loop-j-init : goal.loop-j-init
loop-j-init c = (omega arith, refl)

pub bounds-zones-j : goal.bounds-zones-j
bounds-zones-j c = omega (arith, c.requires.2)

pub has_id-requires : goal.has_id-requires
has_id-requires c = (c.requires.0, omega arith)

pub returns-then-has_id : goal.returns-then-has_id
returns-then-has_id c = zone-found _ _ _ _ (omega arith) c.if-zones-j-ne0.true _ c.has_id.ensures c.if-has_id.true c.loop-j.invariant.1

pub loop-j-preserved : goal.loop-j-preserved
loop-j-preserved c =
    let l : c.loop-j.j < length (strings_of c.args.pool.now) = omega arith in (
      omega arith,
      elim c.if-zones-j-ne0.branch [
        | then-zones-j-ne0+else-has_id w ↦ flag-on _ _ _ _ l w.if-zones-j-ne0.true _ w.has_id.ensures w.if-has_id.false ∙ c.loop-j.invariant.1
        | else-zones-j-ne0 w ↦ unflagged-on _ _ _ _ l w.if-zones-j-ne0.false ∙ c.loop-j.invariant.1
      ],
    )

pub returns : goal.returns
returns c = zone-none _ _ _ _ (omega arith) c.loop-j.invariant.1
