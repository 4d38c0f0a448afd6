use native.Mathlib.Omega.{arith}
use mathlib.Core.Path.{◌∙◌}
use lib.ListN.{length-take}
use Rattle.lines.proofs.QuestionLaws.{found}
use Rattle.lines.proofs.SplitLaws.{whole-line, begun-line}
use Rattle.gathered_lines.proofs.gather.Goals as goal

pub slice_bounds-keep-end : goal.slice_bounds-keep-end
slice_bounds-keep-end c = simp length-take (omega arith)

pub returns-then-k-s : goal.returns-then-k-s
returns-then-k-s c = whole-line c.args.held.now _ _ c.args.n _ _ (c.find-k.ensures.value ∙ found _ _) c.keep-m.ensures c.if-k-s.true

pub returns : goal.returns
returns c = begun-line c.args.held.now _ _ c.args.n _ _ (c.find-k.ensures.value ∙ found _ _) c.keep-m.ensures c.if-k-s.false
