use mathlib.Core.Path.{ap}
use native.Mathlib.Omega.{arith}
use Rattle.places.specs.Placed.{of_read, at, Stands}
use Rattle.places.proofs.PlaceLaws.{stands-is}
use Rattle.pieces.specs.Content.{parse_head}
use Rattle.pieces.proofs.HeadLaws.{head-good, head-pieces, size_is, size-most}
use Rattle.contents.proofs.zone_size.Goals as goal
use Rattle.contents.proofs.zone_size.Goals.{In-Ok}

-- what was read of the head
head : (c : goal.In-Ok) → Stands c.args.s.now (parse_head c.args.s.now) (at c.in-Ok.n c.in-Ok.a)
head c = stands-is c.read_head.ensures (ap of_read c.in-Ok.is)

pub pieces_size-requires : goal.pieces_size-requires
pieces_size-requires c = head-pieces _ c.requires _ _ (head c)

pub overflow_add-result : goal.overflow_add-result
overflow_add-result c = omega (arith, size-most _ c.requires _ _ (head (goal.at.overflow_add-result c).In-Ok) _ c.pieces_size.ensures, c.well_formed)

pub returns-in-Err : goal.returns-in-Err
returns-in-Err c = absurd (head-good _ c.requires _ (stands-is c.read_head.ensures (ap of_read c.in-Err.is)))

pub returns-in-Ok : goal.returns-in-Ok
returns-in-Ok c = size_is _ c.requires _ _ (head (goal.at.returns-in-Ok c).In-Ok) _ c.pieces_size.ensures
