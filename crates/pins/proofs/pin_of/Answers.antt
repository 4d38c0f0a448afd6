use mathlib.Core.Path.{ap, ◌∙◌}
use mir.Syntax.{w32}
use mir.ValLaws.{to_z-of_z}
use Rattle.pins.specs.Degrees.{degrees_of}
use Rattle.pins.proofs.DegreesLaws.{pair}
use Rattle.pins.proofs.pin_of.Goals as goal

pub returns : goal.returns
returns c = pair _ _ _ _
    (c.degrees.ensures.nearest ∙ ap degrees_of (to_z-of_z w32 c.args.latitude c.ranges.latitude))
    (c.degrees-2.ensures.nearest ∙ ap degrees_of (to_z-of_z w32 c.args.longitude c.ranges.longitude))
