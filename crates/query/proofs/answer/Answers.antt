use mathlib.Core.Path.{sym, ◌∙◌}
use native.Mathlib.Omega.{arith}
use lib.ListN.{length-take}
use Rattle.base.proofs.WriteLaws.{wrote-le}
use Rattle.query.proofs.answer.Goals as goal

pub slice_bounds-write_all-end : goal.slice_bounds-write_all-end
slice_bounds-write_all-end g c = omega (arith, wrote-le _ _ _ (sym c.in-Ok.is ∙ c.reply.ensures.value.0), c.reply.auto.out)

pub slice_bounds-write_all-end-in-Ok : goal.slice_bounds-write_all-end-in-Ok
slice_bounds-write_all-end-in-Ok g c =
    simp length-take (omega (arith, wrote-le _ _ _ (sym c.in-Ok.is ∙ c.reply.ensures.value.0), c.reply.auto.out))
