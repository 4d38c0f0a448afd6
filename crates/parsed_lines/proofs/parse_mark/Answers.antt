use mathlib.Core.Bool.{Bool}
use mathlib.Core.List.{List}
use mathlib.Core.Path.{◌≡◌, ap, sym, ◌∙◌}
use Prim.Native.Nat.{ℕ}
use lib.Dec.{eqb}
use lib.Pointwise.{pointwise, bytes_decides}
use mir.Facts.{to_z-of_z}
use Rattle.base.specs.Equal.{equal}
use Rattle.base.proofs.EqualLaws.{equal_is}
use Rattle.lines.proofs.QuestionLaws.{mark-none, mark-part, mark-all, mark-other}
use Rattle.parsed_lines.proofs.parse_mark.Goals as goal

-- what the comparison of s with a mark w says
compared : (r : Bool) (s x w : List ℕ) → r ≡ pointwise eqb s x → x ≡ w → equal s w ≡ r
compared r s x w e f = sym (e ∙ equal_is (pointwise eqb s x) s x (bytes_decides s x) ∙ ap (equal s) f)

pub returns-then-s-eq0 : goal.returns-then-s-eq0
returns-then-s-eq0 c = rw (to_z-of_z c.ranges.t) (mark-none _ _ _ c.if-s-eq0.true)

pub returns-then-eq : goal.returns-then-eq
returns-then-eq c =
    rw (to_z-of_z c.ranges.t) (mark-part _ _ _ c.if-s-eq0.false (compared _ _ _ _ c.eq.ensures c.as_slice.ensures ∙ c.if-eq.true))

pub returns-then-eq-2 : goal.returns-then-eq-2
returns-then-eq-2 c =
    rw (to_z-of_z c.ranges.t)
    (mark-all _ _ _ c.if-s-eq0.false (compared _ _ _ _ c.eq.ensures c.as_slice.ensures ∙ c.if-eq.false)
    (compared _ _ _ _ c.eq-2.ensures c.as_slice-2.ensures ∙ c.if-eq-2.true))

pub returns : goal.returns
returns c =
    mark-other _ _ _ c.if-s-eq0.false (compared _ _ _ _ c.eq.ensures c.as_slice.ensures ∙ c.if-eq.false)
    (compared _ _ _ _ c.eq-2.ensures c.as_slice-2.ensures ∙ c.if-eq-2.false)
