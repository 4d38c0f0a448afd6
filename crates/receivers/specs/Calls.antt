-- A receiver over calls, pieces and resets, and what Ask 9 says of it. To be believed.
use Rattle.std.specs.Prelude.{ℕ, ◌+◌, ◌≡◌, List, [], ◌∷◌, ◌++◌, length, drop, leb}
use Rattle.base.specs.Pick.{pick}
use Rattle.frames.specs.Fields.{unfinished}
use Rattle.receivers.specs.Receive.{fresh, held_bytes, outcome_of, buffer_of}
use Rattle.receivers.specs.declared.Receiver.{Receiver}

-- a call that changes a receiver
pub data Call : Type 0 where
  add : List ℕ → Call
  reset : Call

-- a receiver and the buffer that it is over
pub record State : Type 0 where
  pub receiver : Receiver
  pub buffer : List ℕ

abbrev pub held_in : State → List ℕ
held_in s = held_bytes s.receiver s.buffer

-- a new receiver over the buffer d
abbrev pub start : List ℕ → State
start d = record { receiver = fresh; buffer = d }

abbrev pub after : State → Call → State
after s (add p) = record { receiver = (outcome_of s.receiver s.buffer p).receiver; buffer = buffer_of s.receiver s.buffer p }
after s reset = start s.buffer

unfoldable pub run : State → List Call → State
run s [] = s
run s (c ∷ cs) = run (after s c) cs

-- "the held bytes are the accepted pieces since the last reset, end to end": bs with those of cs, in a buffer of n bytes
unfoldable pub accepted : ℕ → List ℕ → List Call → List ℕ
accepted n bs [] = bs
accepted n bs (add p ∷ cs) = accepted n (pick (leb (length bs + length p) n) (bs ++ p) bs) cs
accepted n bs (reset ∷ cs) = accepted n [] cs

-- a receiver over a buffer of n bytes that holds bs, with "the place of the first unfinished field"
pub record Holds (s : State) (n : ℕ) (bs : List ℕ) : Type 0 where
  pub room : length s.buffer ≡ n
  pub held : s.receiver.held ≡ length bs
  pub bytes : held_in s ≡ bs
  pub place : s.receiver.place ≡ unfinished bs

-- the calls of pieces alone: a run without a reset
unfoldable pub in_pieces : List (List ℕ) → List Call
in_pieces [] = []
in_pieces (p ∷ ps) = add p ∷ in_pieces ps

-- these pieces end to end
unfoldable pub joined : List (List ℕ) → List ℕ
joined [] = []
joined (p ∷ ps) = p ++ joined ps

-- between two resets: t holds what s did and more behind it, "and the rest of the buffer stays as found"
pub record Grown (s t : State) : Type 0 where
  pub more : List ℕ
  pub behind : held_in t ≡ held_in s ++ more
  pub rest : drop t.receiver.held t.buffer ≡ drop t.receiver.held s.buffer
