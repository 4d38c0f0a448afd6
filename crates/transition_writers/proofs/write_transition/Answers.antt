use mathlib.Core.Path.{◌≡◌}
use mir.Facts.{to_z-of_z}
use Rattle.signed.specs.Instant.{instant_of, moment_of}
use Rattle.transitions.proofs.MomentWriteLaws.{as-transition}
use Rattle.transition_writers.proofs.write_transition.Goals as goal
use Rattle.transition_writers.proofs.write_transition.Goals.{After-instant, After-moment}

previous-of : (c : goal.After-instant) → c.instant.result ≡ instant_of c.args.previous
previous-of c = rw (to_z-of_z c.ranges.previous) at c.instant.ensures

moment-of : (c : goal.After-moment) → c.moment.result ≡ moment_of c.args.t
moment-of c = rw (to_z-of_z c.ranges.t) at c.moment.ensures

pub returns : goal.returns
returns c = as-transition _ _ _ _ _ _ _ (previous-of (goal.at.returns c).After-instant) (moment-of (goal.at.returns c).After-moment) c.write_moment.ensures
