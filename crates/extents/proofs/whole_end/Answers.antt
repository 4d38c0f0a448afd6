use mathlib.Core.Path.{refl, sym, ◌∙◌}
use Prim.Native.Nat.{◌-◌}
use native.Mathlib.Omega.{arith}
use Rattle.extents.proofs.ExtentLaws.{coming-start, coming-none, coming-done, coming-next}
use Rattle.extents.proofs.FieldLaws.{field_next}
use Rattle.extents.proofs.whole_end.Goals as goal

pub returns-then-at-eq0 : goal.returns-then-at-eq0
returns-then-at-eq0 c = coming-none _ _ _ c.requires c.past_version-c.ensures c.if-at-eq0.true

pub loop-at-init : goal.loop-at-init
loop-at-init c = (record { within = (coming-start _ _ _ c.requires c.past_version-c.ensures).within; same = refl }, omega arith)

pub field_end-e-requires : goal.field_end-e-requires
field_end-e-requires c = (c.loop-at.invariant.1, c.loop-at.invariant.0.within)

pub returns-then-e-at : goal.returns-then-e-at
returns-then-e-at c = coming-done _ _ _ _ c.loop-at.invariant.0 refl (sym c.field_end-e.ensures ∙ c.if-e-at.true) ∙ (coming-start _ _ _ c.requires c.past_version-c.ensures).same

pub bounds-s-at : goal.bounds-s-at
bounds-s-at c = let n = coming-next _ _ _ _ c.loop-at.invariant.0 (field_next _ _ _ c.loop-at.invariant.1 c.loop-at.invariant.0.within _ c.field_end-e.ensures c.if-e-at.false) c.if-e-at.false in omega (arith, n.0.within, n.1)

pub overflow_cast-prev : goal.overflow_cast-prev
overflow_cast-prev c = omega (arith, c.shared_slice_known-in-loop-at-1.given c.loop-at.at)

pub loop-at-smaller : goal.loop-at-smaller
loop-at-smaller c = let n = coming-next _ _ _ _ c.loop-at.invariant.0 (field_next _ _ _ c.loop-at.invariant.1 c.loop-at.invariant.0.within _ c.field_end-e.ensures c.if-e-at.false) c.if-e-at.false in omega (arith, n.0.within, n.1)

pub loop-at-preserved : goal.loop-at-preserved
loop-at-preserved c = let n = coming-next _ _ _ _ c.loop-at.invariant.0 (field_next _ _ _ c.loop-at.invariant.1 c.loop-at.invariant.0.within _ c.field_end-e.ensures c.if-e-at.false) c.if-e-at.false in (n.0, omega (arith, n.1))
