use mir.Facts.{to_z-of_z}
use Rattle.named_fields.specs.Named.{ask_named}
use Rattle.file_replies.specs.Functions.{mark_of, answer_reply, edition_of}
use Rattle.receivers.proofs.HeldLaws.{held-within}
use Rattle.capi_contracts.proofs.ReceivedLaws.{full-gives, held_gives}
use Rattle.capi.proofs.nzd_receiver_ask_named.Goals as goal

pub returns-then-buffer-held : goal.returns-then-buffer-held
returns-then-buffer-held c = full-gives (λ bs. answer_reply (ask_named bs c.args.name.now c.args.ticks (mark_of c.args.more) (edition_of c.args.first))) c.args.r c.args.buffer.now _ c.if-buffer-held.true

pub slice_bounds-nzd_ask_named-end : goal.slice_bounds-nzd_ask_named-end
slice_bounds-nzd_ask_named-end c = held-within c.args.r c.args.buffer.now c.if-buffer-held.false

pub returns : goal.returns
returns c = held_gives (λ bs. answer_reply (ask_named bs c.args.name.now c.args.ticks (mark_of c.args.more) (edition_of c.args.first))) c.args.r c.args.buffer.now _ c.if-buffer-held.false _ _ (rw (to_z-of_z c.ranges.ticks) at c.nzd_ask_named.ensures)
