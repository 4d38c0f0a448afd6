use mathlib.Core.Path.{sym, ap, ◌∙◌}
use Prim.Native.Nat.{◌-◌}
use native.Mathlib.Omega.{arith}
use Rattle.base.proofs.Parts.{part-from}
use Rattle.counts.specs.Count.{read_count}
use Rattle.counts.proofs.CountLaws.{byte-count}
use Rattle.closed_pools.proofs.count_from.Goals as goal

pub overflow_cast-b : goal.overflow_cast-b
overflow_cast-b c = omega (arith, c.shared_slice_known-then-at-d-1.given c.args.at)

pub returns-then-b-lt128 : goal.returns-then-b-lt128
returns-then-b-lt128 c = sym (byte-count _ _ c.if-at-d.true c.if-b-lt128.true)

pub returns : goal.returns
returns c = c.read_count.ensures ∙ ap read_count (part-from c.args.at c.args.d.now)
