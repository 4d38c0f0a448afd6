use mathlib.Core.Path.{◌≡◌, sym}
use Prim.Native.Nat.{◌-◌}
use native.Mathlib.Omega.{arith}
use Rattle.base.proofs.Parts.{Bytes}
use Rattle.pieces.proofs.PutLaws.{put_is, copied}
use Rattle.closed_files.specs.File.{closed_data}
use Rattle.closed_fields.proofs.SizeLaws.{data-pool, data-other, data-kept}
use Rattle.closed_fields.proofs.write_data.Goals as goal
use Rattle.closed_fields.proofs.write_data.Goals.{After-copy-arg-1, After-shared_slice_known-1}

bytes : (c : goal.After-shared_slice_known-1) → Bytes c.args.d.now
bytes c i = omega (arith, c.shared_slice_known-1.given i)

pub write_pool-requires : goal.write_pool-requires
write_pool-requires c = (c.requires.0, c.requires.4.good c.if-i-eq0.true, rw (data-pool c.args.order.now c.args.table.now c.args.i c.args.d.now c.if-i-eq0.true) c.requires.2)

pub returns-then-i-eq0 : goal.returns-then-i-eq0
returns-then-i-eq0 c = put_is _ _ _ _ _ c.write_pool.ensures (sym (data-pool _ _ _ _ c.if-i-eq0.true))

kept : (c : goal.After-copy-arg-1) → closed_data c.args.order.now c.args.table.now c.args.i c.args.d.now ≡ c.args.d.now
kept c = data-kept _ _ _ _ _ c.if-i-eq0.false (bytes (goal.at.copy-requires c).After-shared_slice_known-1) c.requires.3 c.if-kept.true

pub copy-requires : goal.copy-requires
copy-requires c = rw (kept c) at c.requires.2

pub returns-then-kept : goal.returns-then-kept
returns-then-kept c = put_is _ _ _ _ _ (copied _ _ _ _ c.copy.ensures.value c.copy.ensures.dst_after) (kept (goal.at.returns-then-kept c).After-copy-arg-1)

pub write-requires : goal.write-requires
write-requires c = (c.requires.1, rw (data-other c.args.order.now c.args.table.now c.args.i c.args.d.now c.if-i-eq0.false) c.requires.2)

pub returns : goal.returns
returns c = put_is _ _ _ _ _ c.write.ensures (sym (data-other _ _ _ _ c.if-i-eq0.false))
