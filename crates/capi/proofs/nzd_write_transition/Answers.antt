use mathlib.Core.Path.{◌≡◌}
use mir.Facts.{to_z-of_z}
use Rattle.base.specs.Writing.{Writes}
use Rattle.replies.specs.Functions.{previous_of, moment_of}
use Rattle.capi_contracts.specs.Functions.{kind_form}
use Rattle.capi.proofs.FormLaws.{moment-form}
use Rattle.capi.proofs.PutLaws.{puts, result-small}
use Rattle.capi.proofs.nzd_write_transition.Goals as goal
use Rattle.capi.proofs.nzd_write_transition.Goals.{After-previous_of-p, After-slice_known-2-1, After-write_moment-arg-1}

previous : (c : goal.After-previous_of-p) → c.previous_of-p.result ≡ previous_of c.args.finite c.args.previous
previous c = rw (to_z-of_z c.ranges.previous) at c.previous_of-p.ensures

moment : (c : goal.After-write_moment-arg-1) → c.moment_of-m.result ≡ moment_of c.args.kind c.args.ticks
moment c = rw (to_z-of_z c.ranges.ticks) at c.moment_of-m.ensures

wrote_it : (c : goal.After-slice_known-2-1)
    → Writes (kind_form c.args.finite c.args.previous c.args.kind c.args.ticks) c.args.out.now
    c.write_moment-w.result c.write_moment-w.new.out
wrote_it c = rw (previous (goal.at.written-requires c).After-previous_of-p, moment (goal.at.written-requires c).After-write_moment-arg-1) at c.write_moment-w.ensures

pub written-requires : goal.written-requires
written-requires c = result-small _ _ _ _ (wrote_it c) (moment-form (previous_of c.args.finite c.args.previous) (moment_of c.args.kind c.args.ticks))

pub returns : goal.returns
returns c = puts _ _ _ _ _ (wrote_it (goal.at.returns c).After-slice_known-2-1) c.written.ensures
