use mathlib.Core.Path.{sym}
use Rattle.pieces.proofs.code_size.Goals as goal

pub returns-then-k-le3 : goal.returns-then-k-le3
returns-then-k-le3 c = sym (c.requires c.if-k-le3.true)
