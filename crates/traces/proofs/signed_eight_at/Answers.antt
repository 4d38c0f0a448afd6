use mathlib.Core.Path.{ap, ◌∙◌}
use mir.Syntax.{w64}
use mir.Val.{to_z}
use mir.Facts.{to_z-of_z}
use Rattle.counts.proofs.FixedLaws.{eight_is}
use Rattle.traces.proofs.signed_eight_at.Goals as goal

pub returns : goal.returns
returns c = rw (to_z-of_z {w = w64} {z = c.signed_64.result} (record { sfits = c.signed_64.type_inv }))
    (c.signed_64.ensures ∙ ap (to_z w64) (eight_is _ _ c.requires _ _ c.four_at-high.ensures.0 c.four_at-low.ensures.0))
