use mathlib.Core.Bool.{true}
use Rattle.utf8.proofs.AsciiLaws.{plain-utf8}
use Rattle.texts.proofs.SizedLaws.{sized-long, sized-cut, sized-tested}
use Rattle.texts.proofs.text_behind.Goals as goal

pub returns-then-n-gt1024 : goal.returns-then-n-gt1024
returns-then-n-gt1024 c = sized-long _ _ _ c.if-n-gt1024.true

pub returns-then-s-a : goal.returns-then-s-a
returns-then-s-a c = sized-cut _ _ _ c.if-n-gt1024.false c.if-s-a.true

pub returns-then-e-plain : goal.returns-then-e-plain
returns-then-e-plain c = sized-tested _ _ _ c.if-n-gt1024.false true c.if-s-a.false (plain-utf8 c.args.plain c.args.a c.args.n c.args.s.now c.requires.1 c.if-e-plain.true)

pub returns-then-is_utf8 : goal.returns-then-is_utf8
returns-then-is_utf8 c = rw c.if-is_utf8.true at (sized-tested _ _ _ c.if-n-gt1024.false _ c.if-s-a.false c.is_utf8.ensures)

pub returns : goal.returns
returns c = rw c.if-is_utf8.false at (sized-tested _ _ _ c.if-n-gt1024.false _ c.if-s-a.false c.is_utf8.ensures)
