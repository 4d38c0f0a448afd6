use native.Mathlib.Omega.{arith}
use Rattle.frames.proofs.ReadLaws.{version-cut, version-other, version-zero}
use Rattle.headers.proofs.version.Goals as goal

pub returns-then-r-lt4 : goal.returns-then-r-lt4
returns-then-r-lt4 c = version-cut _ c.if-r-lt4.true

pub returns-then-r-ne0 : goal.returns-then-r-ne0
returns-then-r-ne0 c = version-other _ 0 (omega arith) (omega arith) c.if-r-ne0.true

pub returns-then-r-ne0-2 : goal.returns-then-r-ne0-2
returns-then-r-ne0-2 c = version-other _ 1 (omega arith) (omega arith) c.if-r-ne0-2.true

pub returns-then-r-ne0-3 : goal.returns-then-r-ne0-3
returns-then-r-ne0-3 c = version-other _ 2 (omega arith) (omega arith) c.if-r-ne0-3.true

pub returns-then-r-ne0-4 : goal.returns-then-r-ne0-4
returns-then-r-ne0-4 c = version-other _ 3 (omega arith) (omega arith) c.if-r-ne0-4.true

pub returns : goal.returns
returns c = version-zero _ (omega arith) (omega arith) (omega arith) (omega arith) (omega arith)
