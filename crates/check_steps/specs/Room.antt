-- How many places the check's arrays need. The code's way: first-room (proofs/StepLaws.antt) says that it is what the pool needs.
use Rattle.std.specs.Prelude.{ℕ, ◌+◌, ◌≤◌, ◌≡◌, false, List, length, drop}
use Rattle.pool.specs.Index.{room_of}
use Rattle.ids.specs.Layout.{buffer_size}
use Rattle.frames.specs.Frame.{frame}
use Rattle.frames.specs.declared.Frame.{Frame}
use Rattle.frames.specs.declared.Frame.TheVariants.{End, Cut, Refused, Version, Whole}
use Rattle.field_readers.specs.Remembered.{part, Wide}

-- by what stands behind the version
abbrev pub room_at : List ℕ → Frame → ℕ
room_at s End = 0
room_at s Cut = 0
room_at s (Refused n) = 0
room_at s Version = 0
room_at s (Whole i n m) = room_of (part s (4 + n) (4 + (n + m)))

-- as many as field 0 has strings
abbrev pub room_for : List ℕ → ℕ
room_for s = room_at s (frame 255 4 false 0 (drop 4 s))

-- the arrays have room for the file s, and hold nothing
pub record Started (s ix od : List ℕ) : Type 0 where
  pub room : room_for s ≤ length ix
  pub wide : Wide ix od
  pub empty : buffer_size od ≡ 0
