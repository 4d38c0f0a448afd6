use mathlib.Core.Path.{sym, ◌∙◌}
use mathlib.Core.List.{[]}
use Rattle.zone_starts.proofs.FillLaws.{fill-bad, verdict-bad, checked-at, listed-short, listed-length, listed-filled}
use Rattle.zone_starts.proofs.fill_listed.Goals as goal

pub returns-then-out-n : goal.returns-then-out-n
returns-then-out-n c = listed-short _ _ _ _ _ c.requires _ (sym c.in-Ok.is ∙ c.check.ensures) c.if-out-n.true

pub put_starts-requires : goal.put_starts-requires
put_starts-requires c = (checked-at _ _ [] _ _ c.requires _ (sym c.in-Ok.is ∙ c.check.ensures), c.if-out-n.false)

pub returns-in-Err : goal.returns-in-Err
returns-in-Err c = fill-bad _ _ _ _ (verdict-bad _ _ [] _ (sym c.in-Err.is ∙ c.check.ensures))

pub shape_of-out : goal.shape_of-out
shape_of-out c = listed-length _ _ _ _ _ c.requires _ (sym c.in-Ok.is ∙ c.check.ensures) c.if-out-n.false _ c.put_starts.ensures

pub returns-else-out-n : goal.returns-else-out-n
returns-else-out-n c = listed-filled _ _ _ _ _ c.requires _ (sym c.in-Ok.is ∙ c.check.ensures) c.if-out-n.false _ c.put_starts.ensures
