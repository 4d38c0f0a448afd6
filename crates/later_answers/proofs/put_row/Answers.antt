use native.Mathlib.Omega.{arith}
use lib.ListN.{length-set}
use mir.Syntax.{w64}
use mir.Facts.{to_z-of_z, to_z_pos}
use Rattle.later_answers.proofs.WalkLaws.{row_put}
use Rattle.later_answers.proofs.put_row.Goals as goal

pub bounds-rows-at-2 : goal.bounds-rows-at-2
bounds-rows-at-2 c = simp length-set (omega (arith, c.requires.2))

pub bounds-rows-at-3 : goal.bounds-rows-at-3
bounds-rows-at-3 c = simp length-set (omega (arith, c.requires.2))

pub bounds-rows-at-4 : goal.bounds-rows-at-4
bounds-rows-at-4 c = simp length-set (omega (arith, c.requires.2))

pub bounds-rows-at-5 : goal.bounds-rows-at-5
bounds-rows-at-5 c = simp length-set (omega (arith, c.requires.2))

pub bounds-rows-at-6 : goal.bounds-rows-at-6
bounds-rows-at-6 c = simp length-set (omega (arith, c.requires.2))

pub bounds-rows-at-7 : goal.bounds-rows-at-7
bounds-rows-at-7 c = simp length-set (omega (arith, c.requires.2))

pub shape_of-rows : goal.shape_of-rows
shape_of-rows c = simp length-set

pub returns : goal.returns
returns c = rw (
  to_z-of_z {w = w64} {z = c.args.x.wall} (record { sfits = c.struct_told-1.given.0.1 }),
  to_z-of_z {w = w64} {z = c.args.x.savings} (record { sfits = c.struct_told-1.given.1.0.1 }),
  to_z-of_z {w = w64} {z = c.args.x.standard} (record { sfits = c.struct_told-1.given.1.1.0.1 }),
  to_z-of_z {w = w64} {z = c.args.x.start} (record { sfits = c.struct_told-1.given.1.1.1.1.1.0.1 }),
  to_z-of_z {w = w64} {z = c.args.x.end} (record { sfits = c.struct_told-1.given.1.1.1.1.1.1.0.1 }),
) (row_put c.args.rows.now c.args.at c.args.x _ _ (to_z_pos w64 c.requires.0) (to_z_pos w64 c.requires.1))
