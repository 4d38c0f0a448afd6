use Rattle.std.proofs.lemmas.Result.{err_from_is_err_and}
use Rattle.base.specs.declared.Refusal.TheVariants.{BadInterval}
use mathlib.Core.Path.{refl, sym, ap, ◌∙◌}
use Prim.Native.Nat.{◌+◌, ◌≤◌}
use lib.ListN.{length}
use native.Mathlib.Omega.{arith}
use Rattle.places.specs.Placed.{of_read}
use Rattle.places.proofs.PlaceLaws.{then-in, on, off, here, stands-if, stands-else, refuse, placed-got}
use Rattle.places.proofs.ValueLaws.{sum-high}
use Rattle.places.proofs.UsualLaws.{size-most, usual-stands}
use Rattle.intervals.specs.Interval.{judge_standard, after_wall, after_name, parse_details}
use Rattle.any_intervals.proofs.usual_details.Goals as goal
use Rattle.any_intervals.proofs.usual_details.Goals.{After-usual_size, In_ok-n}

-- the place behind the name
named : (c : goal.In_ok-n) → c.in_ok-n.a ≤ length c.args.s.now
named c = then-in c.name_at.ensures _ _ (ap of_read c.in_ok-n.was)

-- the place behind the wall offset
walled : (c : goal.After-usual_size) → c.in_ok-n.a + c.usual_size.result + 3 ≤ length c.args.s.now
walled c = omega (arith, named (goal.at.overflow_add-b c).In_ok-n, c.if-s-a-gt6.true, size-most _ _ c.usual_size.ensures)

pub overflow_sub-s : goal.overflow_sub-s
overflow_sub-s c = omega (arith, named c)

pub overflow_add-b : goal.overflow_add-b
overflow_add-b c = omega (arith, walled c)

pub usual_sum-v-requires : goal.usual_sum-v-requires
usual_sum-v-requires c = omega (arith, walled c)

pub standard_ok-requires : goal.standard_ok-requires
standard_ok-requires c = (
  sum-high _ _ _ (placed-got (c.usual_sum-w.ensures.stands c.if-w-ne0.true) _ _ refl),
  sum-high _ _ _ (placed-got (c.usual_sum-v.ensures.stands c.if-v-ne0.true) _ _ refl),
)

pub bounds-s-b : goal.bounds-s-b
bounds-s-b c = omega (arith, walled (goal.at.bounds-s-b c).After-usual_size)

pub overflow_add-result : goal.overflow_add-result
overflow_add-result c = omega (arith, walled (goal.at.overflow_add-result c).After-usual_size, size-most _ _ c.usual_size-then-standard_ok.ensures)

pub returns-then-standard_ok : goal.returns-then-standard_ok
unfolding parse_details after_name after_wall judge_standard
returns-then-standard_ok c = let v = usual-stands _ _ c.usual_sum-v.ensures c.if-v-ne0.true _ c.usual_size-then-standard_ok.ensures in
    on c.name_at.ensures _ _ _ _ (ap of_read c.in_ok-n.was)
    (on (usual-stands _ _ c.usual_sum-w.ensures c.if-w-ne0.true _ c.usual_size.ensures) _ _ _ _ refl
    (on v _ _ _ _ refl
    (stands-if _ _ _ _ _ (sym c.standard_ok.ensures ∙ c.if-standard_ok.true) (here _ _ _ _ refl (then-in v _ _ refl)))))

pub returns-then-v-ne0 : goal.returns-then-v-ne0
unfolding parse_details after_name after_wall judge_standard
returns-then-v-ne0 c = on c.name_at.ensures _ _ _ _ (ap of_read c.in_ok-n.was)
    (on (usual-stands _ _ c.usual_sum-w.ensures c.if-w-ne0.true _ c.usual_size.ensures) _ _ _ _ refl
    (on (c.usual_sum-v.ensures.stands c.if-v-ne0.true) _ _ _ _ refl
    (stands-else _ _ _ _ _ (sym c.standard_ok.ensures ∙ c.if-standard_ok.false) (refuse _ BadInterval))))

pub returns-in_err-n : goal.returns-in_err-n
unfolding parse_details
returns-in_err-n c = let p = err_from_is_err_and c.from_residual.result c.from_residual.ensures.1 in
    rw (p.1, p.2) (off c.name_at.ensures _ _ (ap of_read c.in_err-n.was))
