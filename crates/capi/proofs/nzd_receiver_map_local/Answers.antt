use mir.Facts.{to_z-of_z}
use Rattle.receivers.proofs.HeldLaws.{held-within}
use Rattle.capi_contracts.proofs.ReceivedLaws.{full-maps, held-maps}
use Rattle.capi.proofs.nzd_receiver_map_local.Goals as goal

pub returns-then-buffer-held : goal.returns-then-buffer-held
returns-then-buffer-held c = full-maps _ _ _ _ _ c.if-buffer-held.true

pub slice_bounds-nzd_map_local-end : goal.slice_bounds-nzd_map_local-end
slice_bounds-nzd_map_local-end c = held-within c.args.r c.args.buffer.now c.if-buffer-held.false

pub returns : goal.returns
returns c = held-maps _ _ _ _ _ c.if-buffer-held.false _ _ (rw (to_z-of_z c.ranges.local) at c.nzd_map_local.ensures)
