use Prim.Native.Nat.{◌≤◌}
use Rattle.places.proofs.PlaceLaws.{stands-is}
use native.Mathlib.Omega.{arith}
use Rattle.base.specs.Moment.{last_instant}
use Rattle.base.proofs.Parts.{Bytes}
use mathlib.Core.Path.{ap}
use Rattle.intervals.specs.Scan.{of_interval}
use Rattle.intervals.proofs.ScanLaws.{scanning-start, scanning-in, scanning-bad, scanning-next, scanning-done}
use Rattle.intervals.proofs.FormLaws.{forming-start, forming-next, forming-done}
use Rattle.interval_runs.proofs.RunLaws.{Ran, run_ran, stop-high, stop-open}
use Rattle.interval_scans.proofs.StartFormLaws.{start-stands}
use Rattle.interval_scans.proofs.read_intervals.Goals as goal
use Rattle.interval_scans.proofs.read_intervals.Goals.{After-read_run-r, After-shared_slice_known-1, After-stop_at-stop}

bytes : (c : goal.After-shared_slice_known-1) → Bytes c.args.s.now
bytes c i = omega (arith, c.shared_slice_known-1.given i)

high : (c : goal.After-stop_at-stop) → c.stop_at-stop.result ≤ last_instant
high c = rw c.stop_at-stop.ensures (stop-high _ _)

-- what the run leaves
ran : (c : goal.After-read_run-r) (b : Bytes c.args.s.now) (h : c.stop_at-stop.result ≤ last_instant)
    → Ran c.args.pool c.args.t c.args.s.now
    c.args.at c.args.n c.args.preferred
    c.loop-left.form b c.stop_at-stop.result h c.loop-left.left
    c.loop-left.place c.loop-left.c.last c.loop-left.c c.read_run-r.result
ran c b h =
    run_ran _ _ _ _ _ _ _ _ _ _ _ _ _ _ (λ e. rw c.stop_at-stop.ensures (stop-open _ _ e)) c.loop-left.invariant.0 c.loop-left.invariant.1
    c.read_run-r.ensures

pub loop-left-init : goal.loop-left-init
loop-left-init c = (scanning-start _ _ _ _ _ c.requires, forming-start _ _ _ _ _ _)

pub read_run-r-requires : goal.read_run-r-requires
read_run-r-requires c = (scanning-in _ _ _ _ _ _ _ _ c.loop-left.invariant.0, high c)

pub overflow_sub-e : goal.overflow_sub-e
overflow_sub-e c = omega (arith, (ran (goal.at.overflow_sub-e c).After-read_run-r (bytes (goal.at.overflow_sub-e c).After-shared_slice_known-1) (high (goal.at.overflow_sub-e c).After-stop_at-stop)).room c.if-place-e.true)

pub short_interval-i-requires : goal.short_interval-i-requires
short_interval-i-requires c = omega (arith, (ran (goal.at.short_interval-i-requires c).After-read_run-r (bytes (goal.at.short_interval-i-requires c).After-shared_slice_known-1) (high (goal.at.short_interval-i-requires c).After-stop_at-stop)).room c.if-place-e.true, scanning-in _ _ _ _ _ _ _ _ ((ran (goal.at.short_interval-i-requires c).After-read_run-r (bytes (goal.at.short_interval-i-requires c).After-shared_slice_known-1) (high (goal.at.short_interval-i-requires c).After-stop_at-stop)).scans c.if-place-e.true))

pub loop-left-smaller-then-place-e : goal.loop-left-smaller-then-place-e
loop-left-smaller-then-place-e c = (ran (goal.at.loop-left-smaller-then-place-e c).After-read_run-r (bytes (goal.at.loop-left-smaller-then-place-e c).After-shared_slice_known-1) (high (goal.at.loop-left-smaller-then-place-e c).After-stop_at-stop)).fewer c.if-place-e.true

pub loop-left-preserved-then-place-e : goal.loop-left-preserved-then-place-e
loop-left-preserved-then-place-e c = rw (c.advance-c.ensures, c.short_interval-i.ensures)
    ((ran (goal.at.loop-left-preserved-then-place-e c).After-read_run-r (bytes (goal.at.loop-left-preserved-then-place-e c).After-shared_slice_known-1) (high (goal.at.loop-left-preserved-then-place-e c).After-stop_at-stop)).scans c.if-place-e.true, (ran (goal.at.loop-left-preserved-then-place-e c).After-read_run-r (bytes (goal.at.loop-left-preserved-then-place-e c).After-shared_slice_known-1) (high (goal.at.loop-left-preserved-then-place-e c).After-stop_at-stop)).forms c.if-place-e.true)

pub read_usual_interval-item-requires : goal.read_usual_interval-item-requires
read_usual_interval-item-requires c = scanning-in _ _ _ _ _ _ _ _ c.loop-left.invariant.0

pub returns-in-Err : goal.returns-in-Err
returns-in-Err c = (
  scanning-bad _ _ _ _ _ _ _ _ c.loop-left.invariant.0 (omega arith) _
      (stands-is c.read_usual_interval-item.ensures (ap of_interval c.in-Err.is)),
  record { means = tt },
)

pub start_preferred-form-requires : goal.start_preferred-form-requires
start_preferred-form-requires c = start-stands _ _ _ _ _ _ (scanning-in _ _ _ _ _ _ _ _ c.loop-left.invariant.0)
    (stands-is c.read_usual_interval-item.ensures (ap of_interval c.in-Ok.is))

pub loop-left-preserved : goal.loop-left-preserved
loop-left-preserved c = let i = stands-is c.read_usual_interval-item.ensures (ap of_interval c.in-Ok.is) in
    rw c.advance-c-in-Ok.ensures (
      scanning-next _ _ _ _ _ _ _ _ c.loop-left.invariant.0 (omega arith) _ _ i,
      forming-next _ _ _ _ _ _ _ _ _ _ c.loop-left.invariant.1 _ _ _ (omega arith) i c.start_preferred-form.ensures,
    )

pub returns : goal.returns
returns c = (scanning-done _ _ _ _ _ _ _ _ c.loop-left.invariant.0 (omega arith), forming-done _ _ _ _ _ _ _ _ _ _ c.loop-left.invariant.1 (omega arith))
