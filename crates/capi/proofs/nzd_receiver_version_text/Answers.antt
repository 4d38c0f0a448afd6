use Rattle.field_checks.specs.Check.{version_of}
use Rattle.file_replies.specs.Functions.{version_reply}
use Rattle.receivers.proofs.HeldLaws.{held-within}
use Rattle.capi_contracts.proofs.ReceivedLaws.{full-gives, held_gives}
use Rattle.capi.proofs.nzd_receiver_version_text.Goals as goal

pub returns-then-buffer-held : goal.returns-then-buffer-held
returns-then-buffer-held c = full-gives (λ f. version_reply (version_of f)) c.args.r c.args.buffer.now _ c.if-buffer-held.true

pub slice_bounds-nzd_version_text-end : goal.slice_bounds-nzd_version_text-end
slice_bounds-nzd_version_text-end c = held-within c.args.r c.args.buffer.now c.if-buffer-held.false

pub returns : goal.returns
returns c = held_gives (λ f. version_reply (version_of f)) c.args.r c.args.buffer.now _ c.if-buffer-held.false _ _ c.nzd_version_text.ensures
