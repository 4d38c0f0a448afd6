use Rattle.counted_zones.proofs.BodyLaws.{interval-moment, interval-name, interval-wall, interval-savings, interval-end}
use Rattle.counted_zones.proofs.count_interval.Goals as goal

pub moment_end-m-requires : goal.moment_end-m-requires
moment_end-m-requires c = interval-moment _ _ c.requires.0

pub count_name-p-requires : goal.count_name-p-requires
count_name-p-requires c = interval-name _ _ c.requires.0 _ c.moment_end-m.ensures _ c.requires.1

pub sum_end-q-requires : goal.sum_end-q-requires
sum_end-q-requires c = interval-wall _ _ c.requires.0 _ c.moment_end-m.ensures _ _ _ c.count_name-p.ensures

pub sum_end-requires : goal.sum_end-requires
sum_end-requires c = interval-savings _ _ c.requires.0 _ c.moment_end-m.ensures _ _ _ c.count_name-p.ensures _ c.sum_end-q.ensures

pub returns : goal.returns
returns c = interval-end _ _ c.requires.0 _ c.moment_end-m.ensures _ _ _ c.count_name-p.ensures _ c.sum_end-q.ensures _ c.sum_end.ensures
