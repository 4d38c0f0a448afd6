use native.Mathlib.Omega.{arith}
use lib.ListN.{length}
use Rattle.counts.proofs.GroupWriteLaws.{write-size}
use Rattle.preferred_fields.proofs.FieldLaws.{unchanged-not, unchanged-so}
use Rattle.preferred_fields.proofs.is_unchanged.Goals as goal

pub overflow_add-count_size : goal.overflow_add-count_size
overflow_add-count_size c = omega (arith, c.count_size.ensures, write-size 4 (length c.args.d.now))

pub returns-then-head-count_size : goal.returns-then-head-count_size
returns-then-head-count_size c = unchanged-not _ _ _

pub returns : goal.returns
returns c = unchanged-so _ _ _ _ _ c.if-head-count_size.false c.count_size.ensures c.is_copied.ensures
