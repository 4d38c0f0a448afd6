use mathlib.Core.Path.{◌≡◌}
use mathlib.Core.Bool.{not}
use lib.Dec.{T}
use lib.IntN.{ℤ}
use lib.Ieee.{is_nan}
use mir.Syntax.{w32}
use mir.Val.{to_z, of_z, SFits}
use mir.Facts.{to_z-of_z}
use Rattle.pins.specs.declared.Pin.{Pin}
use Rattle.pins.specs.Degrees.{pin_of}
use Rattle.pins.proofs.NearestLaws.{not-nan}
use Rattle.part_cases.proofs.pin_cases.pin_patterns.Goals as goal

numbers : (p : Pin) (x y : ℤ) → SFits w32 x → SFits w32 y → p ≡ pin_of (to_z w32 (of_z w32 x)) (to_z w32 (of_z w32 y))
    → T (not (is_nan p.latitude)) × T (not (is_nan p.longitude))
numbers p x y f g e = rw (e, to_z-of_z f, to_z-of_z g) (not-nan x f.sfits, not-nan y g.sfits)

pub pattern-requires : goal.pattern-requires
pattern-requires c = (numbers _ _ _ c.ranges.latitude c.ranges.longitude c.pin_of-p.ensures).0

pub pattern-requires-2 : goal.pattern-requires-2
pattern-requires-2 c = (numbers _ _ _ c.ranges.latitude c.ranges.longitude c.pin_of-p.ensures).1
