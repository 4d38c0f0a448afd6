use mathlib.Core.Path.{refl, sym, ◌∙◌}
use native.Mathlib.Omega.{arith}
use lib.ListN.{get_or}
use Rattle.base.proofs.Parts.{part-from}
use Rattle.lines.proofs.QuestionLaws.{digits-end, digits-stop, digits-go, enough-digits, below-digit, above-digit, a-digit, digits-bound, digits-fit}
use Rattle.parsed_lines.proofs.parse_digits.Goals as goal

pub loop-i-init : goal.loop-i-init
loop-i-init c = (omega arith, omega arith, refl)

pub returns-then-i-ge19 : goal.returns-then-i-ge19
returns-then-i-ge19 c = c.behind_digits.ensures ∙ rw (part-from c.loop-i.i c.args.s.now) (digits-stop _ _ _ _ _ c.loop-i-test.true (enough-digits _ (get_or c.args.s.now c.loop-i.i 0) c.if-i-ge19.true)) ∙ sym c.loop-i.invariant.2

pub returns-then-b-lt48 : goal.returns-then-b-lt48
returns-then-b-lt48 c = c.behind_digits-then-b-lt48.ensures ∙ rw (part-from c.loop-i.i c.args.s.now) (digits-stop _ _ _ _ _ c.loop-i-test.true (below-digit _ _ c.if-i-ge19.false c.if-b-lt48.true)) ∙ sym c.loop-i.invariant.2

pub returns-then-b-gt57 : goal.returns-then-b-gt57
returns-then-b-gt57 c = c.behind_digits-then-b-gt57.ensures ∙ rw (part-from c.loop-i.i c.args.s.now) (digits-stop _ _ _ _ _ c.loop-i-test.true (above-digit _ _ c.if-i-ge19.false c.if-b-lt48.false c.if-b-gt57.true)) ∙ sym c.loop-i.invariant.2

pub overflow_mul-v : goal.overflow_mul-v
overflow_mul-v c = omega (arith, digits-fit c.loop-i.i c.loop-i.v c.loop-i.invariant.1 (omega arith))

pub overflow_add-v : goal.overflow_add-v
overflow_add-v c = omega (arith, digits-fit c.loop-i.i c.loop-i.v c.loop-i.invariant.1 (omega arith))

pub loop-i-preserved : goal.loop-i-preserved
loop-i-preserved c = (omega arith, digits-bound _ _ _ c.loop-i.invariant.1 c.if-b-gt57.false, c.loop-i.invariant.2 ∙ digits-go _ _ _ _ _ c.loop-i-test.true (a-digit _ _ c.if-i-ge19.false c.if-b-lt48.false c.if-b-gt57.false))

pub returns : goal.returns
returns c = c.behind_digits-2.ensures ∙ rw (part-from c.loop-i.i c.args.s.now) (digits-end _ _ _ _ _ c.loop-i-test.false c.loop-i.invariant.0) ∙ sym c.loop-i.invariant.2
