use native.Mathlib.Omega.{arith}
use Rattle.texts.proofs.SizedLaws.{sized-full, sized-left}
use Rattle.old_counts.specs.OldCount.{write_old_count}
use Rattle.old_dictionaries.proofs.DictionaryWriteLaws.{count_left}
use Rattle.old_dictionary_writers.proofs.write_counted.Goals as goal

pub returns-then-out-a : goal.returns-then-out-a
returns-then-out-a c = sized-full (write_old_count c.args.n) c.args.t.now c.args.out.now _ c.count_size-a.ensures (omega arith)

pub returns-then-out-a-2 : goal.returns-then-out-a-2
returns-then-out-a-2 c = sized-full (write_old_count c.args.n) c.args.t.now c.args.out.now _ c.count_size-a.ensures (omega arith)

pub returns : goal.returns
returns c = sized-left (write_old_count c.args.n) c.args.t.now c.args.out.now _ c.count_size-a.ensures (omega (arith, c.if-out-a.false, c.if-out-a-2.false)) _
    (count_left _ _ _ c.requires c.write_count.ensures.1) _ c.copy.ensures.dst_after
