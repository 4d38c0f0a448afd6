use mathlib.Core.Path.{◌≡◌, ap}
use mir.Facts.{to_z-of_z}
use Rattle.transitions.specs.Transition.{read_moment}
use Rattle.replies.specs.Functions.{previous_of, moment_reply}
use Rattle.replies.proofs.ReplyLaws.{gives_as}
use Rattle.capi.proofs.SmallLaws.{moment-small}
use Rattle.capi.proofs.nzd_read_transition.Goals as goal
use Rattle.capi.proofs.nzd_read_transition.Goals.{After-give_moment-arg-1, After-previous_of-p}

previous : (c : goal.After-previous_of-p) → c.previous_of-p.result ≡ previous_of c.args.finite c.args.previous
previous c = rw (to_z-of_z c.ranges.previous) at c.previous_of-p.ensures

read : (c : goal.After-give_moment-arg-1) → c.read_moment-c.result ≡ read_moment (previous_of c.args.finite c.args.previous) c.args.s.now
read c = rw (previous (goal.at.give_moment-requires c).After-previous_of-p) at c.read_moment-c.ensures

pub give_moment-requires : goal.give_moment-requires
give_moment-requires c = moment-small _ _ _ c.read_moment-c.ensures

pub returns : goal.returns
returns c = gives_as _ _ _ _ _ (ap moment_reply (read (goal.at.returns c).After-give_moment-arg-1)) c.give_moment.ensures
