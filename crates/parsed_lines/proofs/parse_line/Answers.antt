use Prim.Native.Nat.{◌+◌}
use mathlib.Core.Path.{◌∙◌}
use Rattle.base.proofs.Parts.{part-from}
use Rattle.lines.proofs.QuestionLaws.{found, too_long, with-id, no-space}
use Rattle.parsed_lines.proofs.parse_line.Goals as goal

pub returns-then-line-gt-LONGEST : goal.returns-then-line-gt-LONGEST
returns-then-line-gt-LONGEST c = too_long _ c.if-line-gt-LONGEST.true

pub returns-then-n-line : goal.returns-then-n-line
returns-then-n-line c = c.parse_ticks.ensures ∙ rw (part-from (c.find-n.result + 1) c.args.line.now) (with-id _ c.if-line-gt-LONGEST.false _ (c.find-n.ensures.value ∙ found _ _) c.if-n-line.true)

pub returns : goal.returns
returns c = no-space _ c.if-line-gt-LONGEST.false _ (c.find-n.ensures.value ∙ found _ _) c.if-n-line.false
