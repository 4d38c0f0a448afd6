use Rattle.std.proofs.lemmas.Result.{err_from_is_err_and}
use mathlib.Core.Path.{refl, ap}
use borrow.Author.Tests.{eq-eqb, ne_eqb}
use Rattle.places.specs.Placed.{of_read}
use Rattle.places.proofs.PlaceLaws.{then-in, on, off, here, stands-if, stands-else}
use Rattle.mentions.specs.Walk.{behind_start}
use Rattle.zone_mentions.proofs.behind_start.Goals as goal

pub behind_end-requires : goal.behind_end-requires
behind_end-requires c = then-in c.moment_at.ensures _ _ (ap of_read c.in_ok-m.was)

pub returns-then-left-eq0 : goal.returns-then-left-eq0
unfolding behind_start
returns-then-left-eq0 c = on c.moment_at.ensures _ _ _ _ (ap of_read c.in_ok-m.was) (stands-if _ _ _ _ _ (eq-eqb _ _ c.if-left-eq0.true) c.behind_end.ensures)

pub returns-in_err-m : goal.returns-in_err-m
unfolding behind_start
returns-in_err-m c = let p = err_from_is_err_and c.from_residual.result c.from_residual.ensures.1 in
    rw (p.1, p.2) (off c.moment_at.ensures _ _ (ap of_read c.in_err-m.was))

pub returns : goal.returns
unfolding behind_start
returns c = on c.moment_at.ensures _ _ _ _ (ap of_read c.in_ok-m.was) (stands-else _ _ _ _ _ (ne_eqb _ _ c.if-left-eq0.false)
    (here _ _ _ _ refl (then-in c.moment_at.ensures _ _ (ap of_read c.in_ok-m.was))))
