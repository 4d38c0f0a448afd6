use Prim.Native.Nat.{◌+◌, ◌-◌, ◌≤◌}
use native.Mathlib.Omega.{arith}
use Rattle.occurrences.specs.Rules.{occurrence}
use Rattle.occurrences.proofs.RuleLaws.{occurrence-rises}
use Rattle.recurrence.proofs.SearchLaws.{YearRoom, year-room, found-0, found-1, found-2, found-3, found}
use Rattle.recurrence.proofs.occurrences_at.Goals as goal
use Rattle.recurrence.proofs.occurrences_at.Goals.{After-year_of-y0, Else-t-b}

at : (c : goal.After-year_of-y0) → YearRoom c.year_of-y0.result
at c = rw c.year_of-y0.ensures (year-room _ c.requires.0)

-- the occurrence of the year before that of t is before it, too, where that year's is
before : (c : goal.Else-t-b) → occurrence c.args.r c.args.offset (c.year_of-y0.result - 2 + 1) ≤ c.args.t
before c = omega (arith, occurrence-rises c.args.r c.args.offset c.requires.1 (c.year_of-y0.result - 2 + 1), c.occurrence_in-b.ensures, c.if-t-b.false)

pub overflow_sub-y0 : goal.overflow_sub-y0
overflow_sub-y0 c = omega (arith, at c)

pub occurrence_in-b-requires : goal.occurrence_in-b-requires
occurrence_in-b-requires c = (omega (arith, at c), omega (arith, at c), c.requires.1, c.requires.2)

pub occurrence_in-a-requires : goal.occurrence_in-a-requires
occurrence_in-a-requires c = (omega (arith, at (goal.at.occurrence_in-a-requires c).After-year_of-y0), omega (arith, at (goal.at.occurrence_in-a-requires c).After-year_of-y0), c.requires.1, c.requires.2)

pub occurrence_in-requires : goal.occurrence_in-requires
occurrence_in-requires c = (omega (arith, at (goal.at.occurrence_in-requires c).After-year_of-y0), omega (arith, at (goal.at.occurrence_in-requires c).After-year_of-y0), c.requires.1, c.requires.2)

pub returns-then-t-a : goal.returns-then-t-a
returns-then-t-a c = found _ _ _ _ _ _ c.year_of-y0.ensures (found-0 _ _ _ (omega (arith, c.occurrence_in-a.ensures, c.if-t-a.true)))
    c.occurrence_in.ensures
    c.occurrence_in-a.ensures

pub returns-then-t-b : goal.returns-then-t-b
returns-then-t-b c = found _ _ _ _ _ _ c.year_of-y0.ensures
    (found-1 _ _ _ (omega (arith, c.occurrence_in-a.ensures, c.if-t-a.false)) (omega (arith, c.occurrence_in-b.ensures, c.if-t-b.true)))
    c.occurrence_in-a.ensures
    c.occurrence_in-b.ensures

pub overflow_add-y3 : goal.overflow_add-y3
overflow_add-y3 c = omega (arith, at (goal.at.overflow_add-y3 c).After-year_of-y0)

pub occurrence_in-c-requires : goal.occurrence_in-c-requires
occurrence_in-c-requires c = (omega (arith, at (goal.at.occurrence_in-c-requires c).After-year_of-y0), omega (arith, at (goal.at.occurrence_in-c-requires c).After-year_of-y0), c.requires.1, c.requires.2)

pub returns-then-t-c : goal.returns-then-t-c
returns-then-t-c c = found _ _ _ _ _ _ c.year_of-y0.ensures
    (found-2 _ _ _ (before (goal.at.returns-then-t-c c).Else-t-b) (omega (arith, c.occurrence_in-b.ensures, c.if-t-b.false)) (omega (arith, c.occurrence_in-c.ensures, c.if-t-c.true)))
    c.occurrence_in-b.ensures
    c.occurrence_in-c.ensures

pub overflow_add-y3-2 : goal.overflow_add-y3-2
overflow_add-y3-2 c = omega (arith, at (goal.at.overflow_add-y3-2 c).After-year_of-y0)

pub occurrence_in-requires-2 : goal.occurrence_in-requires-2
occurrence_in-requires-2 c = (omega (arith, at (goal.at.occurrence_in-requires-2 c).After-year_of-y0), omega (arith, at (goal.at.occurrence_in-requires-2 c).After-year_of-y0), c.requires.1, c.requires.2)

pub returns : goal.returns
returns c = found _ _ _ _ _ _ c.year_of-y0.ensures
    (found-3 _ _ _ (before (goal.at.returns c).Else-t-b) (omega (arith, c.occurrence_in-b.ensures, c.if-t-b.false)) (omega (arith, c.occurrence_in-c.ensures, c.if-t-c.false)))
    c.occurrence_in-c.ensures
    c.occurrence_in-2.ensures
