use Rattle.std.proofs.lemmas.Result.{err_from_is_err_and}
use Rattle.std.specs.Prelude.{Ok}
use native.Mathlib.Omega.{arith}
use mathlib.Core.Path.{◌≡◌, sym, ◌∙◌}
use Rattle.counts.specs.Count.{read_count}
use Rattle.counts.proofs.CountLaws.{Counted, counted}
use Rattle.transitions.proofs.MomentLaws.{after, after_two, after-other}
use Rattle.transition_readers.proofs.read_moment.Goals as goal
use Rattle.transition_readers.proofs.read_moment.Goals.{In_ok-v}

-- the count that was read, and its bytes
first : (c : goal.In_ok-v) → Ok (c.in_ok-v.v, c.in_ok-v.n) ≡ read_count c.args.s.now
first c = sym c.in_ok-v.was ∙ c.read_count.ensures

facts : (c : goal.In_ok-v) → Counted c.args.s.now c.in_ok-v.v c.in_ok-v.n
facts c = counted _ (first c)

pub slice_bounds-from_ticks-count : goal.slice_bounds-from_ticks-count
slice_bounds-from_ticks-count c = (facts (goal.at.slice_bounds-from_ticks-count c).In_ok-v).within

pub slice_bounds-from_ticks-start : goal.slice_bounds-from_ticks-start
slice_bounds-from_ticks-start c = omega (arith, (facts (goal.at.slice_bounds-from_ticks-start c).In_ok-v).within)

pub from_ticks-requires : goal.from_ticks-requires
from_ticks-requires c = (facts (goal.at.from_ticks-requires c).In_ok-v).size

pub returns-then-v-eq2 : goal.returns-then-v-eq2
returns-then-v-eq2 c = after_two _ _ _ _ _ (first (goal.at.returns-then-v-eq2 c).In_ok-v) c.if-v-eq2.true c.from_ticks.ensures

pub from_count-requires : goal.from_count-requires
from_count-requires c = (facts (goal.at.from_count-requires c).In_ok-v).small

pub returns : goal.returns
returns c = after-other _ _ _ _ _ (first (goal.at.returns c).In_ok-v) c.if-v-eq2.false c.from_count.ensures

pub returns-in_err-v : goal.returns-in_err-v
returns-in_err-v c = let p = err_from_is_err_and c.from_residual.result c.from_residual.ensures.1 in
    rw (p.1, p.2) (after _ _ _ (sym c.in_err-v.was ∙ c.read_count.ensures))
