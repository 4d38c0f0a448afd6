use mathlib.Core.Path.{ap}
use Rattle.places.proofs.PlaceLaws.{then-in, stands-is}
use Rattle.intervals.specs.Scan.{of_scan}
use Rattle.zones.specs.Parse.{after_intervals}
use Rattle.zones.proofs.ReadLaws.{end_is}
use Rattle.lookups.proofs.WalkLaws.{read-bad, scan-bad, scan-got, ended-bad, ended-untailed, ended-tailed, end-form}
use Rattle.zone_reads.proofs.read_listed.Goals as goal

pub code_preferred-form-requires : goal.code_preferred-form-requires
code_preferred-form-requires c = then-in c.read_intervals.ensures.0 _ _ (ap of_scan c.in-Ok.is)

pub is_untailed-requires : goal.is_untailed-requires
is_untailed-requires c = then-in c.read_intervals.ensures.0 _ _ (ap of_scan c.in-Ok.is)

pub returns-then-is_untailed : goal.returns-then-is_untailed
returns-then-is_untailed c = let x = scan-got _ _ _ (after_intervals c.args.pool c.args.id) _ _ (stands-is c.read_intervals.ensures.0 (ap of_scan c.in-Ok.is)) in
    ended-untailed _ _ _ _ _ _ x.list x.scans x.goes (c.is_untailed.ensures.to c.if-is_untailed.true _ _) _
    (end-form _ _ _ _ _ _ _ _ _ c.read_intervals.ensures.1 c.in-Ok.is c.code_preferred-form.ensures)

pub read_end-requires : goal.read_end-requires
read_end-requires c = then-in c.read_intervals.ensures.0 _ _ (ap of_scan c.in-Ok.is)

pub returns-in-Err : goal.returns-in-Err
returns-in-Err c = read-bad _ _ _ _ (scan-bad _ _ _ _ _ (stands-is c.read_intervals.ensures.0 (ap of_scan c.in-Err.is)))

pub returns-in-Refused : goal.returns-in-Refused
returns-in-Refused c = let x = scan-got _ _ _ (after_intervals c.args.pool c.args.id) _ _ (stands-is c.read_intervals.ensures.0 (ap of_scan c.in-Ok.is)) in
    ended-bad _ _ _ _ _ _ x.list x.scans x.goes _ (end_is c.read_end.ensures c.in-Refused.is)

pub returns-in-Untailed : goal.returns-in-Untailed
returns-in-Untailed c = let x = scan-got _ _ _ (after_intervals c.args.pool c.args.id) _ _ (stands-is c.read_intervals.ensures.0 (ap of_scan c.in-Ok.is)) in
    ended-untailed _ _ _ _ _ _ x.list x.scans x.goes (end_is c.read_end.ensures c.in-Untailed.is) _
    (end-form _ _ _ _ _ _ _ _ _ c.read_intervals.ensures.1 c.in-Ok.is c.code_preferred-form.ensures)

pub returns-in-Tailed : goal.returns-in-Tailed
returns-in-Tailed c = let x = scan-got _ _ _ (after_intervals c.args.pool c.args.id) _ _ (stands-is c.read_intervals.ensures.0 (ap of_scan c.in-Ok.is)) in
    ended-tailed _ _ _ _ _ _ x.list x.scans x.goes _ (end_is c.read_end.ensures c.in-Tailed.is) _
    (end-form _ _ _ _ _ _ _ _ _ c.read_intervals.ensures.1 c.in-Ok.is c.code_preferred-form.ensures)
