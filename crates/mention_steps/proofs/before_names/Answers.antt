use Rattle.std.proofs.lemmas.Result.{err_from_is_err_and}
use mathlib.Core.Path.{refl, ap}
use Rattle.places.specs.Placed.{of_read}
use Rattle.places.proofs.PlaceLaws.{then-in, on, off, here}
use Rattle.mentions.proofs.WalkLaws.{names_more, names-none, names-next}
use Rattle.mention_steps.proofs.before_names.Goals as goal

pub returns-then-n-gt0 : goal.returns-then-n-gt0
returns-then-n-gt0 c = names_more _ c.args.at _ _ _ c.if-n-gt0.true c.requires

pub returns-then-locations-eq0 : goal.returns-then-locations-eq0
returns-then-locations-eq0 c = names-none _ c.args.at _ _ _ c.if-n-gt0.false c.if-locations-eq0.true

pub returns-in_err-m : goal.returns-in_err-m
returns-in_err-m c = let p = err_from_is_err_and c.from_residual.result c.from_residual.ensures.1 in
    rw (p.1, p.2) (names-next _ c.args.at _ _ _ _ c.if-n-gt0.false c.if-locations-eq0.false (off c.location_names.ensures _ _ (ap of_read c.in_err-m.was)))

pub returns : goal.returns
returns c = names-next _ c.args.at _ _ _ _ c.if-n-gt0.false c.if-locations-eq0.false (on c.location_names.ensures _ _ _ _ (ap of_read c.in_ok-m.was)
    (here _ _ _ _ refl (then-in c.location_names.ensures _ _ (ap of_read c.in_ok-m.was))))
