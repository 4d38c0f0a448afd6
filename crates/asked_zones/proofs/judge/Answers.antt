use native.Mathlib.Omega.{arith}
use mathlib.Core.Path.{sym, ap, ◌∙◌}
use Rattle.places.specs.Placed.{of_read}
use Rattle.locate.proofs.JudgeLaws.{id_below, judged-unnamed, judged-fault, judged-here, judged-keep}
use Rattle.asked_zones.proofs.judge.Goals as goal

pub has_id-requires : goal.has_id-requires
has_id-requires c = (
  c.requires.0,
  omega (arith, id_below c.args.count _ _ c.name_at.ensures _ _ (ap of_read c.in-Ok.is), c.requires.1),
)

pub returns-then-has_id : goal.returns-then-has_id
returns-then-has_id c = judged-here _ _ _ c.name_at.ensures _ _ _ _ (ap of_read c.in-Ok.is)
    (sym c.if-has_id.true ∙ c.has_id.ensures)

pub returns-in-Err : goal.returns-in-Err
returns-in-Err c = judged-unnamed _ _ _ c.name_at.ensures _ _ _ (ap of_read c.in-Err.is)

pub returns-in-Err-check : goal.returns-in-Err-check
returns-in-Err-check c = judged-fault _ _ _ c.name_at.ensures _ _ _ (sym c.in-Err-check.is ∙ c.check.ensures)

pub returns-in-Ok-check : goal.returns-in-Ok-check
returns-in-Ok-check c = judged-keep _ _ _ c.name_at.ensures _ _ _ _ (ap of_read c.in-Ok.is) _
    (sym c.if-has_id.false ∙ c.has_id.ensures)
    (sym c.in-Ok-check.is ∙ c.check.ensures)
