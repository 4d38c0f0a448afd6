-- Worked values of Ask 9, computed: what calls make of a new receiver. Assumes nothing.
use mathlib.Core.Path.{◌≡◌, refl}
use mathlib.Core.List.{List, [], ◌∷◌, ◌++◌}
use Prim.Native.Nat.{ℕ}
use Rattle.counts.specs.Groups.{any_groups, read_groups}
use Rattle.frames.specs.Frame.{order, zeros, version, sized, field, frame}
use Rattle.extents.specs.Extent.{step_of, steps}
use Rattle.receivers.specs.Receive.{outcome_of, buffer_of}
use Rattle.receivers.specs.Calls.{Call, add, reset, State, start, run}

-- held length and place after calls over a buffer of four and of sixteen bytes
abbrev held_and_place : State → ℕ × ℕ
held_and_place s = (s.receiver.held, s.receiver.place)

abbrev four : List ℕ
four = 9 ∷ 9 ∷ 9 ∷ 9 ∷ []

abbrev sixteen : List ℕ
sixteen = 9 ∷ 9 ∷ 9 ∷ 9 ∷ 9 ∷ 9 ∷ 9 ∷ 9 ∷ 9 ∷ 9 ∷ 9 ∷ 9 ∷ 9 ∷ 9 ∷ 9 ∷ 9 ∷ []

-- the version, and a field 0 of one byte behind it, cut in two
abbrev head : List Call
head = add (0 ∷ 0 ∷ []) ∷ add (0 ∷ 0 ∷ 0 ∷ 1 ∷ 0 ∷ []) ∷ []

-- a piece that just fits, an empty one, one that doesn't fit: the version is whole and right, and no field has begun
pub full : held_and_place (run (start four) (add (0 ∷ 0 ∷ 0 ∷ 0 ∷ []) ∷ add [] ∷ add (0 ∷ []) ∷ [])) ≡ (4, 4)
unfolding run outcome_of buffer_of steps step_of frame version zeros field sized order any_groups read_groups
full = refl

-- in the version; and after 3, whatever follows
pub in-version : (held_and_place (run (start four) (add (0 ∷ 0 ∷ []) ∷ [])) ≡ (2, 0))
    × (held_and_place (run (start sixteen) (add (0 ∷ 0 ∷ 0 ∷ 1 ∷ []) ∷ add (0 ∷ 1 ∷ 0 ∷ []) ∷ [])) ≡ (7, 0))
unfolding run outcome_of buffer_of steps step_of frame version zeros field sized order any_groups read_groups
in-version = (refl, refl)

-- a field 8 behind a field 9 stops the walk, though a field of a higher ID follows; and a reset forgets it
pub stopped : (held_and_place (run (start sixteen) (head ++ (add (9 ∷ 0 ∷ []) ∷ add (8 ∷ []) ∷ add (0 ∷ 255 ∷ 0 ∷ []) ∷ []))) ≡ (13, 9))
    × (held_and_place (run (start sixteen) (head ++ (add (9 ∷ 0 ∷ []) ∷ add (8 ∷ 0 ∷ []) ∷ reset ∷ []))) ≡ (0, 0))
unfolding run outcome_of buffer_of steps step_of frame version zeros field sized order any_groups read_groups
stopped = (refl, refl)

-- a field of which the last byte is missing, and with it
pub last_byte : (held_and_place (run (start sixteen) (head ++ (add (2 ∷ 1 ∷ 0 ∷ 3 ∷ []) ∷ []))) ≡ (11, 10))
    × (held_and_place (run (start sixteen) (head ++ (add (2 ∷ 1 ∷ 0 ∷ 3 ∷ []) ∷ add (0 ∷ []) ∷ []))) ≡ (12, 12))
unfolding run outcome_of buffer_of steps step_of frame version zeros field sized order any_groups read_groups
last_byte = (refl, refl)

-- the buffer: a refused piece and a reset leave it alone
pub buffer-kept : (run (start four) (add (1 ∷ 2 ∷ 3 ∷ []) ∷ add (4 ∷ 5 ∷ []) ∷ reset ∷ add (6 ∷ []) ∷ [])).buffer ≡ 6 ∷ 2 ∷ 3 ∷ 9 ∷ []
unfolding run outcome_of buffer_of steps step_of frame version zeros field sized order any_groups read_groups
buffer-kept = refl
