use native.Mathlib.Omega.{arith}
use mathlib.Core.List.{[], ◌∷◌}
use Rattle.base.proofs.WriteLaws.{no_room, stored}
use Rattle.offset_writers.proofs.write_half_hours.Goals as goal

pub returns-then-out-lt1 : goal.returns-then-out-lt1
returns-then-out-lt1 c = no_room (c.args.v ∷ []) _ (omega arith)

pub returns : goal.returns
returns c = stored (c.args.v ∷ []) c.args.out.now (omega arith)
