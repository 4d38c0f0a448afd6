use native.Mathlib.Omega.{arith}
use mir.Facts.{to_z-of_z}
use Rattle.table_questions.proofs.RowLaws.{seeking-start, looked-near}
use Rattle.table_questions.proofs.find_row.Goals as goal

pub loop-m-init : goal.loop-m-init
loop-m-init c = (seeking-start c.args.rows.now _ _ c.requires.0 c.requires.1, record { from = omega arith; to = omega arith })

pub look-b-requires : goal.look-b-requires
look-b-requires c = (c.loop-m.invariant.0, omega (arith, c.loop-m-test.true, c.loop-m.invariant.1.from))

pub loop-m-smaller : goal.loop-m-smaller
loop-m-smaller c = omega (arith, c.loop-m-test.true)

pub loop-m-preserved : goal.loop-m-preserved
loop-m-preserved c = (c.look-b.ensures.seeks, looked-near _ _ _ _ _ c.look-b.ensures c.loop-m.invariant.1)

pub look_many-many-requires : goal.look_many-many-requires
look_many-many-requires c = (c.loop-m.invariant.0, (c.loop-m.invariant.1, omega (arith, c.loop-m-test.false)))

pub look_few-few-requires : goal.look_few-few-requires
look_few-few-requires c = c.look_many-many.ensures

pub look_last-requires : goal.look_last-requires
look_last-requires c = c.look_few-few.ensures

pub returns : goal.returns
returns c = rw (to_z-of_z c.ranges.ticks) at c.look_last.ensures
