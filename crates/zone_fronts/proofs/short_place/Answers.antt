use native.Mathlib.Omega.{arith}
use Rattle.zone_fronts.proofs.ShortLaws.{place_is, no_place}
use Rattle.zone_fronts.proofs.short_place.Goals as goal

pub returns-then-s-lt4 : goal.returns-then-s-lt4
returns-then-s-lt4 c = no_place _ _

pub returns-then-k-eq0 : goal.returns-then-k-eq0
returns-then-k-eq0 c = no_place _ _

pub returns-then-pool-short_id : goal.returns-then-pool-short_id
returns-then-pool-short_id c = no_place _ _

pub returns-then-s-k-ne2 : goal.returns-then-s-k-ne2
returns-then-s-k-ne2 c = no_place _ _

pub returns-then-s-k-eq0 : goal.returns-then-s-k-eq0
returns-then-s-k-eq0 c = no_place _ _

pub returns-then-s-k-gt127 : goal.returns-then-s-k-gt127
returns-then-s-k-gt127 c = no_place _ _

pub returns : goal.returns
returns c = place_is _ _ _ c.id_size-k.ensures c.if-k-eq0.false (rw c.short_id.ensures at c.if-pool-short_id.false) c.if-s-lt4.false c.if-s-k-ne2.false c.if-s-k-eq0.false (omega (arith, c.if-s-k-gt127.false))
