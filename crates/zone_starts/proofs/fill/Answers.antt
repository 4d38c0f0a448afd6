use mathlib.Core.Path.{◌∙◌}
use mathlib.Core.List.{[]}
use native.Mathlib.Omega.{arith}
use mir.Syntax.{w64}
use mir.Facts.{to_z-of_z}
use Rattle.zones.specs.Parse.{parse_zone}
use Rattle.zones.proofs.ReadLaws.{refused-front, fixed-front}
use Rattle.zone_starts.proofs.FillLaws.{filled-length, fill-bad, fixed-short, fixed-filled, listed_at}
use Rattle.zone_starts.proofs.fill.Goals as goal

pub returns-then-out-eq0 : goal.returns-then-out-eq0
returns-then-out-eq0 c = fixed-short _ _ _ _ _ _ (fixed-front _ _ _ _ _ c.read_front.ensures _ _ _ c.in-Fixed.is) c.if-out-eq0.true

pub bounds-out-0 : goal.bounds-out-0
bounds-out-0 c = omega (arith, c.if-out-eq0.false)

pub fill_listed-requires : goal.fill_listed-requires
fill_listed-requires c = listed_at _ _ [] _ _ c.read_front.ensures _ _ _ c.in-Listed.is

pub returns-in-Refused : goal.returns-in-Refused
returns-in-Refused c = fill-bad _ _ _ _ (refused-front _ _ _ _ _ c.read_front.ensures _ c.in-Refused.is)

pub returns-else-out-eq0 : goal.returns-else-out-eq0
returns-else-out-eq0 c = fixed-filled _ _ _ _ _ _ (fixed-front _ _ _ _ _ c.read_front.ensures _ _ _ c.in-Fixed.is) c.if-out-eq0.false _
    (to_z-of_z {w = w64} {z = c.ticks.result} (record { sfits = c.ticks.type_inv }) ∙ c.ticks.ensures)

pub shape_of-out-in-Listed : goal.shape_of-out-in-Listed
shape_of-out-in-Listed c = filled-length (parse_zone c.args.pool c.args.s.now) c.args.out.now _ c.fill_listed.ensures.1

pub returns-in-Listed : goal.returns-in-Listed
returns-in-Listed c = c.fill_listed.ensures
