use mathlib.Core.Path.{ap, ◌∙◌}
use mir.Syntax.{w32, w64}
use mir.Val.{to_z}
use mir.Facts.{to_z-of_z}
use Rattle.traces.proofs.signed_four_at.Goals as goal

pub signed_32-requires : goal.signed_32-requires
signed_32-requires c = c.four_at-v.ensures.1

pub returns : goal.returns
returns c = rw (to_z-of_z {w = w64} {z = c.signed_32.result} (record { sfits = c.signed_32.type_inv }))
    (c.signed_32.ensures ∙ ap (to_z w32) c.four_at-v.ensures.0)
