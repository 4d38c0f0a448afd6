-- Ask 14, replaying a trace. To be believed.
use Rattle.std.specs.declared.option.Option.{Option}
use Rattle.std.specs.declared.option.Option.TheVariants.{None, Some}
use Rattle.base.specs.Coded.{Fault}
use Rattle.base.specs.declared.Refusal.TheVariants.{BadTrace}
use Rattle.std.specs.Prelude.{ℕ, zero, suc, ◌+◌, List, Err, Ok, Result}
use Rattle.base.specs.Pick.{pick}
use Rattle.traces.specs.Trace.{record_count, records_at, names_at, trace_ok}
use Rattle.trace_records.specs.Record.{agrees}

-- "the first record, numbered from 0, whose shown offset isn't the file's, or whose question the file refuses, or none": of n records at a place,
-- the first of which has the number i
unfoldable pub first_wrong : List ℕ → ℕ → List ℕ → ℕ → ℕ → ℕ → Result (Option ℕ) Fault
first_wrong f names s zero i at = Ok None
first_wrong f names s (suc n) i at = pick (agrees f names s at) (first_wrong f names s n (i + 1) (at + 20)) (Ok (Some i))

-- "with 21 first"; its place is 0
unfoldable pub replay : List ℕ → List ℕ → Result (Option ℕ) Fault
replay f s = pick (trace_ok s) (first_wrong f (names_at s) s (record_count s) 0 (records_at s)) (Err (BadTrace, 0))
