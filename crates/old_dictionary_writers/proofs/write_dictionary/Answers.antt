use native.Mathlib.Omega.{arith}
use Rattle.old_dictionaries.proofs.DictionaryWriteLaws.{too_many, form-bad, pairs-here, form-good}
use Rattle.old_dictionary_writers.proofs.write_dictionary.Goals as goal

pub returns-then-n-gt2147483647 : goal.returns-then-n-gt2147483647
returns-then-n-gt2147483647 c = too_many c.args.n _ _ c.if-n-gt2147483647.true

pub slice_bounds-write_counted-end : goal.slice_bounds-write_counted-end
slice_bounds-write_counted-end c = (pairs-here c.args.n c.args.pairs.now c.if-n-gt2147483647.false _ c.read_entries.ensures (λ i. omega (arith, c.shared_slice_known-1.given i)) _ _ c.in-Ok.is).inside

pub returns-in-Err : goal.returns-in-Err
returns-in-Err c = form-bad c.args.n c.args.pairs.now c.if-n-gt2147483647.false _ c.read_entries.ensures _ c.in-Err.is _

pub returns-in-Ok : goal.returns-in-Ok
returns-in-Ok c = form-good c.args.n c.args.pairs.now c.if-n-gt2147483647.false _ c.read_entries.ensures (λ i. omega (arith, c.shared_slice_known-1.given i)) _ _ c.in-Ok.is _ _ _ c.write_counted.ensures
