use Rattle.receivers.proofs.HeldLaws.{held-within}
use Rattle.capi_contracts.proofs.ReceivedLaws.{full-location, held-location}
use Rattle.capi.proofs.nzd_receiver_location.Goals as goal

pub returns-then-buffer-held : goal.returns-then-buffer-held
returns-then-buffer-held c = full-location c.args.r c.args.buffer.now c.args.field c.args.number _ _ c.if-buffer-held.true

pub slice_bounds-nzd_location-end : goal.slice_bounds-nzd_location-end
slice_bounds-nzd_location-end c = held-within c.args.r c.args.buffer.now c.if-buffer-held.false

pub returns : goal.returns
returns c = held-location c.args.r c.args.buffer.now c.args.field c.args.number _ _ c.if-buffer-held.false _ _ _ c.nzd_location.ensures
