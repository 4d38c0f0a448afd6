use mir.Facts.{to_z-of_z}
use Rattle.questions.specs.Question.{ask_plain}
use Rattle.file_replies.specs.Functions.{edition_of, answer_reply}
use Rattle.receivers.proofs.HeldLaws.{held-within}
use Rattle.capi_contracts.proofs.ReceivedLaws.{full-gives, held_gives}
use Rattle.capi.proofs.nzd_receiver_ask_plain.Goals as goal

pub returns-then-buffer-held : goal.returns-then-buffer-held
returns-then-buffer-held c = full-gives (λ bs. answer_reply (ask_plain bs c.args.id.now c.args.ticks (edition_of c.args.first))) c.args.r c.args.buffer.now _ c.if-buffer-held.true

pub slice_bounds-nzd_ask_plain-end : goal.slice_bounds-nzd_ask_plain-end
slice_bounds-nzd_ask_plain-end c = held-within c.args.r c.args.buffer.now c.if-buffer-held.false

pub returns : goal.returns
returns c = held_gives (λ bs. answer_reply (ask_plain bs c.args.id.now c.args.ticks (edition_of c.args.first))) c.args.r c.args.buffer.now _ c.if-buffer-held.false _ _ (rw (to_z-of_z c.ranges.ticks) at c.nzd_ask_plain.ensures)
