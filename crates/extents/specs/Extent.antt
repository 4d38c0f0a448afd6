-- How far the whole fields of some bytes go: a walk over heads alone, which can go on from where it stopped once more bytes are there.
-- It is the check's walk without its contents (extent-place in proofs/ExtentLaws.antt: its place is that of `unfinished`).
use Rattle.std.specs.Prelude.{ℕ, zero, suc, ◌+◌, Bool, true, false, List, length, drop, ltb}
use Rattle.std.specs.declared.option.Option.{Option}
use Rattle.std.specs.declared.option.Option.TheVariants.{None, Some}
use Rattle.base.specs.declared.Refusal.{Refusal}
use Rattle.frames.specs.Frame.{frame}
use Rattle.frames.specs.declared.Frame.{Frame}
use Rattle.frames.specs.declared.Frame.TheVariants.{End, Cut, Refused, Version, Whole}
use Rattle.extents.specs.declared.Extent.{Extent}

-- whether an ID may stand, by what refuses it
abbrev pub unrefused : Option Refusal → Bool
unrefused None = true
unrefused (Some k) = false

-- before any byte
abbrev pub none : Extent
none = record { at = 0; prev = 0 }

-- behind the frame at c; no farther where it isn't whole, or is refused
abbrev pub behind_frame : Extent → Frame → Extent
behind_frame c End = c
behind_frame c Cut = c
behind_frame c (Refused n) = c
behind_frame c Version = record { at = c.at + 4; prev = 0 }
behind_frame c (Whole i h n) = record { at = c.at + (h + n); prev = i }

-- one frame, for every ID; a field came before a place past the version's end
unfoldable pub step_of : List ℕ → Extent → Extent
step_of s c = behind_frame c (frame 255 c.at (ltb 4 c.at) c.prev (drop c.at s))

-- at most k frames
unfoldable pub steps : ℕ → List ℕ → Extent → Extent
steps zero s c = c
steps (suc k) s c = steps k s (step_of s c)

-- as many as there are: each takes a byte at least
abbrev pub extent_of : List ℕ → Extent → Extent
extent_of s c = steps (length s) s c
