use Rattle.std.proofs.lemmas.Result.{err_from_is_err_and}
use mathlib.Core.Path.{ap}
use borrow.Author.Tests.{eq-eqb, ne_eqb}
use Rattle.places.specs.Placed.{of_read}
use Rattle.places.proofs.PlaceLaws.{then-in, on, off, stands-if, stands-else}
use Rattle.mentions.specs.Walk.{behind_id}
use Rattle.mentions.proofs.WalkLaws.{none_here}
use Rattle.zone_mentions.proofs.behind_id.Goals as goal

pub behind_offset-requires : goal.behind_offset-requires
behind_offset-requires c = then-in c.byte_at.ensures _ _ (ap of_read c.in_ok-b.was)

pub returns-then-b-eq1 : goal.returns-then-b-eq1
unfolding behind_id
returns-then-b-eq1 c = on c.byte_at.ensures _ _ _ _ (ap of_read c.in_ok-b.was) (stands-if _ _ _ _ _ (eq-eqb _ _ c.if-b-eq1.true) c.behind_offset.ensures)

pub behind_interval_count-requires : goal.behind_interval_count-requires
behind_interval_count-requires c = then-in c.byte_at.ensures _ _ (ap of_read c.in_ok-b.was)

pub returns-then-b-eq2 : goal.returns-then-b-eq2
unfolding behind_id
returns-then-b-eq2 c = on c.byte_at.ensures _ _ _ _ (ap of_read c.in_ok-b.was) (stands-else _ _ _ _ _ (ne_eqb _ _ c.if-b-eq1.false)
    (stands-if _ _ _ _ _ (eq-eqb _ _ c.if-b-eq2.true) c.behind_interval_count.ensures))

pub returns-in_err-b : goal.returns-in_err-b
unfolding behind_id
returns-in_err-b c = let p = err_from_is_err_and c.from_residual.result c.from_residual.ensures.1 in
    rw (p.1, p.2) (off c.byte_at.ensures _ _ (ap of_read c.in_err-b.was))

pub returns : goal.returns
unfolding behind_id
returns c = on c.byte_at.ensures _ _ _ _ (ap of_read c.in_ok-b.was) (stands-else _ _ _ _ _ (ne_eqb _ _ c.if-b-eq1.false)
    (stands-else _ _ _ _ _ (ne_eqb _ _ c.if-b-eq2.false) (none_here _)))
