use mathlib.Core.Path.{ap, ◌∙◌, subst}
use lib.Ieee.{binary64, mul, of_bits}
use lib.IntN.{ℤ}
use mir.Syntax.{w32}
use mir.Val.{to_z, of_z}
use mir.ValLaws.{to_z-of_z}
use Rattle.pins.specs.Degrees.{sixteen, Sixteenfold}
use Rattle.pins.proofs.DegreesLaws.{Whole, whole}
use Rattle.pins.proofs.sixteenths.Goals as goal
use Rattle.pins.proofs.sixteenths.Goals.{After-row_known-1}

product : (c : goal.After-row_known-1) → Whole c.args.seconds (mul binary64 c.degrees.result sixteen)
product c =
    let z = c.args.seconds in
    let f = c.ranges.seconds in
    let r = c.degrees.result in
    let e : Sixteenfold z r = subst (λ (w : ℤ). Sixteenfold w r) (to_z-of_z w32 z f) c.degrees.ensures.exact in
    whole z _ f (e c.requires).1

-- `of_bits` gives `sixteen` for the bits of 16.0
pub float_to_int-result : goal.float_to_int-result
unfolding of_bits
float_to_int-result c = (product c).whole

pub returns : goal.returns
unfolding of_bits
returns c = let p = product c in
    ap (λ (z : ℤ). to_z w32 (of_z w32 z)) p.is ∙ to_z-of_z w32 _ p.range
