use Prim.Native.Nat.{◌-◌}
use Rattle.pieces.proofs.PutLaws.{put-length}
use Rattle.pieces.proofs.FormLaws.{form-put, form-refused, count-form}
use Rattle.renumbering.proofs.write_number.Goals as goal

pub shape_of-out-in-Err : goal.shape_of-out-in-Err
shape_of-out-in-Err c = absurd (form-refused _ _ _ _ _ (count-form _ c.requires.0) c.requires.1 c.write_count.ensures _ c.in-Err.is)

pub returns-in-Err : goal.returns-in-Err
returns-in-Err c = absurd (form-refused _ _ _ _ _ (count-form _ c.requires.0) c.requires.1 c.write_count.ensures _ c.in-Err.is)

pub shape_of-out-in-Ok : goal.shape_of-out-in-Ok
shape_of-out-in-Ok c = put-length (form-put _ _ _ _ _ (count-form _ c.requires.0) c.requires.1 c.write_count.ensures _ c.in-Ok.is) c.requires.1

pub returns-in-Ok : goal.returns-in-Ok
returns-in-Ok c = form-put _ _ _ _ _ (count-form _ c.requires.0) c.requires.1 c.write_count.ensures _ c.in-Ok.is
