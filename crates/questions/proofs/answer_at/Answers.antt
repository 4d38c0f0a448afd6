use native.Mathlib.Omega.{arith}
use mathlib.Core.Path.{sym, ap, ◌∙◌, subst}
use Prim.Native.Nat.{ℕ}
use lib.ListN.{length-take, length-drop}
use Rattle.zones.specs.Sound.{FoundOk}
use Rattle.zones.proofs.RangeLaws.{found_ok}
use Rattle.answers.specs.declared.Outcome.TheVariants.{Answered}
use Rattle.locate.proofs.WalkingLaws.{located-lies}
use Rattle.questions.proofs.OutcomeLaws.{at-refused, at_cut, at-end, at-denied, at-found}
use Rattle.questions.proofs.answer_at.Goals as goal

pub slice_bounds-find-count : goal.slice_bounds-find-count
slice_bounds-find-count c = (located-lies c.requires.3 _ c.in-Found.is).order

pub slice_bounds-find-start : goal.slice_bounds-find-start
slice_bounds-find-start c = (located-lies c.requires.3 _ c.in-Found.is).order

pub slice_bounds-find-end : goal.slice_bounds-find-end
slice_bounds-find-end c = (located-lies c.requires.3 _ c.in-Found.is).inside

pub answered-requires : goal.answered-requires
answered-requires c = (
  c.requires.1,
  subst (λ (n : ℕ). FoundOk n c.in-Ok.x) (located-lies c.requires.3 _ c.in-Found.is).count-is
      (found_ok _ _ _ _ _ c.requires.2 (sym c.in-Ok.is ∙ c.find.ensures)),
  omega (arith, c.requires.0.order, c.requires.0.limit),
  simp (length-take, length-drop) (omega (arith, c.requires.0.limit)),
)

pub returns-in-Refused : goal.returns-in-Refused
returns-in-Refused c = at-refused _ _ _ _ _ _ _ c.in-Refused.is

pub returns-in-Cut : goal.returns-in-Cut
returns-in-Cut c = at_cut _ _ _ _ _ _ c.in-Cut.is

pub returns-in-End : goal.returns-in-End
returns-in-End c = at-end _ _ _ _ _ _ c.in-End.is

pub returns-in-Err : goal.returns-in-Err
returns-in-Err c = at-denied _ _ _ _ _ _ c.in-Found.is _ (sym c.in-Err.is ∙ c.find.ensures)

pub returns-in-Ok : goal.returns-in-Ok
returns-in-Ok c = ap Answered c.answered.ensures ∙ at-found _ _ _ _ _ _ c.in-Found.is _ (sym c.in-Ok.is ∙ c.find.ensures)
