-- What the code's results stand for. The code's way, tied to what Ask 3 means by `map-some` (proofs/MapLaws.antt).
use Rattle.base.specs.Coded.{Fault}
use Rattle.base.specs.declared.Refusal.TheVariants.{CutShort, NoInstant, NotFound}
use Rattle.std.specs.Prelude.{ℕ, List, eqb, ℤ, Err, Ok, Result}
use Rattle.base.specs.Pick.{pick}
use Rattle.signed.specs.Instant.{biased_of, ticks_of}
use Rattle.frames.specs.Machine.{Out, found, refused, cut, ended, walk}
use Rattle.answers.specs.Answers.{Pool, no_pool}
use Rattle.locate.specs.Asked.{Held, holder}
use Rattle.local_times.specs.Tally.{tally_of}
use Rattle.local_times.specs.Instants.{instants_of}
use Rattle.local_times.specs.declared.Tally.{Tally}

-- a local time as a zone's reader takes it: with the epoch and the 86,400,000 ms of an offset added; 0 for one that no instant in range
-- reads as (reads-number, number-reads in proofs/NumberLaws.antt)
abbrev pub local_of : ℤ → ℕ
local_of z = biased_of 747584640000000000 621356831999999999 2534023871999999999 z

-- a tally of moments, in ticks
unfoldable pub mapping_of : Tally → Result (ℕ × ℤ × ℤ) Fault
mapping_of a = pick (eqb a.count 0) (Err (NoInstant, 0)) (Ok (a.count, ticks_of a.earliest, ticks_of a.latest))

-- of the walk to the asked zone, where the bytes are all there is: 2 inside the version or a field, 12 at the end of one
abbrev pub mapping_at : ℕ → Out Pool Held → Result (ℕ × ℤ × ℤ) Fault
mapping_at l (found v p) = mapping_of (tally_of (instants_of l v.zone.body))
mapping_at l (refused n p) = Err (n, p)
mapping_at l (cut p) = Err (CutShort, p)
mapping_at l (ended m p) = Err (NotFound, p)

-- of a file
abbrev pub mapping_in : List ℕ → List ℕ → ℤ → Result (ℕ × ℤ × ℤ) Fault
mapping_in f id local = mapping_at (local_of local) (walk (holder id) no_pool f)
