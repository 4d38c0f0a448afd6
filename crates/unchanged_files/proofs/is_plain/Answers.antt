use Rattle.unchanged_files.proofs.PlainLaws.{plain-not, plain_other, plain-pool}
use Rattle.counts.proofs.GroupWriteLaws.{write-size}
use borrow.Author.Tests.{not-false}
use lib.ListN.{length}
use native.Mathlib.Omega.{arith}
use Rattle.unchanged_files.proofs.is_plain.Goals as goal

pub returns-then-not-before : goal.returns-then-not-before
returns-then-not-before c = plain-not _ _ _ _ _

pub overflow_add-count_size : goal.overflow_add-count_size
overflow_add-count_size c = omega (arith, c.count_size.ensures, write-size 4 (length c.args.d.now))

pub returns-then-h-count_size : goal.returns-then-h-count_size
returns-then-h-count_size c = plain-not _ _ _ _ _

pub returns-then-i-ne0 : goal.returns-then-i-ne0
returns-then-i-ne0 c = plain_other _ _ _ _ _ c.if-not-before.false _ c.if-h-count_size.false c.count_size.ensures c.if-i-ne0.true

pub string_count-n-requires : goal.string_count-n-requires
string_count-n-requires c = c.requires.good c.if-i-ne0.false

pub returns : goal.returns
returns c = plain-pool _ _ _ _ _ c.if-not-before.false _ c.if-h-count_size.false c.count_size.ensures _ c.string_count-n.ensures
