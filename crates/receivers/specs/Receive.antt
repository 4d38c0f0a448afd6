-- What a receiver over a buffer makes of a piece, on any state. To be believed; `receives` (proofs/CallLaws.antt) says of the states that calls
-- make that the held bytes are the accepted pieces and the place is that of their first unfinished field.
use Rattle.std.specs.Prelude.{ℕ, ◌+◌, ◌≡◌, Bool, List, ◌++◌, length, take, drop, leb}
use Rattle.base.specs.Pick.{pick}
use Rattle.extents.specs.Extent.{extent_of}
use Rattle.extents.specs.declared.Extent.{Extent}
use Rattle.receivers.specs.declared.Receiver.{Receiver}
use Rattle.receivers.specs.declared.Outcome.{Outcome}

-- "A reset empties it, not the buffer; a new receiver is as after one."
abbrev pub fresh : Receiver
fresh = record { held = 0; place = 0; prev = 0 }

-- what r holds of the buffer d
abbrev pub held_bytes : Receiver → List ℕ → List ℕ
held_bytes r d = take r.held d

-- "exactly if held and new bytes pass the buffer's length"
abbrev pub fits : Receiver → List ℕ → List ℕ → Bool
fits r d p = leb (r.held + length p) (length d)

-- where the walk over heads stopped, and can go on
abbrev pub walked : Receiver → Extent
walked r = record { at = r.place; prev = r.prev }

-- n bytes held, and the walk at c
abbrev pub holding : ℕ → Extent → Receiver
holding n c = record { held = n; place = c.at; prev = c.prev }

-- "A piece is refused with 15, and nothing of it kept, ..; any other is added behind what is held": the number, and the receiver, whose
-- walk goes on over the bytes that are then held
unfoldable pub outcome_of : Receiver → List ℕ → List ℕ → Outcome
outcome_of r d p =
    pick (fits r d p) (record { receiver = holding (r.held + length p) (extent_of (held_bytes r d ++ p) (walked r)); number = 0 })
    (record { receiver = r; number = 15 })

-- "added behind what is held .. and the rest of the buffer stays as found"
unfoldable pub buffer_of : Receiver → List ℕ → List ℕ → List ℕ
buffer_of r d p = pick (fits r d p) (held_bytes r d ++ (p ++ drop (r.held + length p) d)) d

-- the outcome o and the buffer e after the piece p, where the buffer was d
pub record Adds (r : Receiver) (d p : List ℕ) (o : Outcome) (e : List ℕ) : Type 0 where
  pub outcome : o ≡ outcome_of r d p
  pub buffer : e ≡ buffer_of r d p
