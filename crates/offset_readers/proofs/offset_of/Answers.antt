use native.Mathlib.Omega.{arith}
use mathlib.Core.Path.{sym}
use Rattle.offsets.proofs.OffsetLaws.{sum-small, sum-large, sum-later, fine_of}
use Rattle.offset_readers.proofs.offset_of.Goals as goal

pub returns-then-sum-lt1 : goal.returns-then-sum-lt1
returns-then-sum-lt1 c = sum-small _ _ c.args.sum (omega arith)

pub returns-then-sum-gt172799999 : goal.returns-then-sum-gt172799999
returns-then-sum-gt172799999 c = sum-large _ _ c.args.sum (omega arith) (omega arith)

pub returns-then-sum-coarser-eq0 : goal.returns-then-sum-coarser-eq0
returns-then-sum-coarser-eq0 c = sum-later _ _ c.args.sum (omega arith) (omega arith) c.if-sum-coarser-eq0.true

pub returns : goal.returns
returns c = sym (fine_of _ _ _ (record { least = omega arith; most = omega arith; fine = c.if-sum-coarser-eq0.false }))
