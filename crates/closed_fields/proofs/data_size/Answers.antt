use mathlib.Core.Path.{sym, ap, ◌∙◌}
use Prim.Native.Nat.{◌-◌}
use native.Mathlib.Omega.{arith}
use lib.ListN.{length}
use Rattle.base.proofs.Parts.{Bytes}
use Rattle.closed_fields.proofs.SizeLaws.{data-pool, data-other, data-kept}
use Rattle.closed_fields.proofs.data_size.Goals as goal
use Rattle.closed_fields.proofs.data_size.Goals.{After-shared_slice_known-1}

bytes : (c : goal.After-shared_slice_known-1) → Bytes c.args.d.now
bytes c i = omega (arith, c.shared_slice_known-1.given i)

pub pool_size-requires : goal.pool_size-requires
pool_size-requires c = (c.requires.1, c.requires.3.good c.if-i-eq0.true)

pub returns-then-i-eq0 : goal.returns-then-i-eq0
returns-then-i-eq0 c = c.pool_size.ensures ∙ ap length (data-pool _ _ _ _ c.if-i-eq0.true)

pub returns-then-kept : goal.returns-then-kept
returns-then-kept c = ap length (sym (data-kept _ _ _ _ _ c.if-i-eq0.false (bytes (goal.at.returns-then-kept c).After-shared_slice_known-1) c.requires.2 c.if-kept.true))

pub size-requires : goal.size-requires
size-requires c = c.requires.0

pub returns : goal.returns
returns c = c.size.ensures ∙ ap length (data-other _ _ _ _ c.if-i-eq0.false)
