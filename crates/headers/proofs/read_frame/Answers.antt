use mathlib.Core.Path.{◌∙◌}
use borrow.Author.Tests.{eq-eqb, ne_eqb}
use Rattle.frames.specs.Frame.{frame}
use Rattle.headers.proofs.read_frame.Goals as goal

pub returns-then-at-eq0 : goal.returns-then-at-eq0
unfolding frame
returns-then-at-eq0 c = c.version.ensures ∙ rw (eq-eqb _ _ c.if-at-eq0.true)

pub returns : goal.returns
unfolding frame
returns c = c.field.ensures ∙ rw (ne_eqb _ _ c.if-at-eq0.false)
