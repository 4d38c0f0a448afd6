use mathlib.Core.Path.{◌≡◌}
use native.Mathlib.Omega.{arith}
use Rattle.pool.specs.Index.{room_of}
use Rattle.location_lookup.specs.Location.{lent_part}
use Rattle.cursors.specs.Cursors.{Points}
use Rattle.later_answers.proofs.WalkLaws.{no_rows}
use Rattle.later_answers.proofs.list_with.Goals as goal
use Rattle.later_answers.proofs.list_with.Goals.{After-room-count, In-Ok}

counted : (c : goal.After-room-count) → c.room-count.result ≡ room_of (lent_part c.args.file.now c.args.v.pool c.args.v.past)
counted c = rw c.lent-pool.ensures at c.room-count.ensures

opens : (c : goal.In-Ok)
    → Points c.room-count.result (lent_part c.args.file.now c.args.v.start c.args.v.end) c.in-Ok.ending c.in-Ok.c × (c.in-Ok.c.held.start ≡ 0)
opens c = rw c.lent-zone.ensures at (rw c.in-Ok.is at c.first.ensures.to)

pub index-indexed-requires : goal.index-indexed-requires
index-indexed-requires c = rw c.lent-pool.ensures c.requires.2

pub put_rows-requires : goal.put_rows-requires
put_rows-requires c = record {
  counts = counted (goal.at.put_rows-requires c).After-room-count;
  points = (opens (goal.at.put_rows-requires c).In-Ok).0;
  from = omega (arith, (opens (goal.at.put_rows-requires c).In-Ok).1);
  finite = c.requires.0;
  index = rw c.lent-pool.ensures at c.index-indexed.ensures.is;
  some = c.requires.1;
}

pub returns-in-Err : goal.returns-in-Err
returns-in-Err c = no_rows _ _ _ _ _ _ (counted (goal.at.returns-in-Err c).After-room-count) (rw c.lent-zone.ensures at (rw c.in-Err.is at c.first.ensures.to))
