-- A zone kept for the records of one name. The code's way: what a record comes to is said by `agrees` alone.
use Rattle.std.specs.Prelude.{ℕ, ◌+◌, ◌≤◌, ◌<◌, Bool, true, false, List, ◌≡◌, ℤ, pos, length, take, drop}
use Rattle.signed.specs.Instant.{instant_of, InRange}
use Rattle.traces.specs.Trace.{instant_at, shown_at, name_at}
use Rattle.zones.specs.declared.Edition.TheVariants.{Two}
use Rattle.found_zones.specs.FoundZone.{ask_zone}
use Rattle.found_zones.specs.declared.FoundZone.{FoundZone}
use Rattle.trace_records.specs.Record.{same_as, gives, shows}
use Rattle.trace_records.specs.declared.Kept.{Kept}
use Rattle.trace_records.specs.declared.Lasting.{Lasting}
use Rattle.trace_records.specs.declared.Taken.{Taken}

-- the bytes of a name, by its start among the names of the trace s, which stand at `names`, and its length
unfoldable pub name_by : ℕ → ℕ → ℕ → List ℕ → List ℕ
name_by names start len s = take len (drop (names + start) s)

-- the kept zone; its place is only told with a fault, which no record tells
abbrev pub kept_zone : Kept → FoundZone
kept_zone k = record { pool = k.pool; past = k.past; start = k.start; end = k.end; place = 0 }

-- with no offset
abbrev pub kept_of : ℕ → ℕ → FoundZone → Kept
kept_of start len v =
    record { name = start; len = len; pool = v.pool; past = v.past; start = v.start; end = v.end; from = 0; to = 0; wall = pos 0 }

abbrev pub with_offset : Kept → Lasting → Kept
with_offset k x =
    record {
      name = k.name;
      len = k.len;
      pool = k.pool;
      past = k.past;
      start = k.start;
      end = k.end;
      from = x.from;
      to = x.to;
      wall = x.wall;
    }

-- k is what is kept of v, or nothing is
pub record KeptAs (start len : ℕ) (v : FoundZone) (k : Kept) : Type 0 where
  pub to : 0 < k.end → k ≡ kept_of start len v

-- the question on v gives one offset at each instant of `from` to before `to`
pub record Lasts (f : List ℕ) (v : FoundZone) (from to : ℕ) (wall : ℤ) : Type 0 where
  pub each : (z w : ℤ) → InRange z → from ≤ instant_of z → instant_of z < to → same_as wall w ≡ gives w (ask_zone f v z Two)

-- x is the offset at the instant t, or the question is refused there
pub record OffsetAt (f : List ℕ) (v : FoundZone) (t : ℕ) (x : Lasting) : Type 0 where
  pub lasts : Lasts f v x.from x.to x.wall
  pub begun : t < x.to → x.from ≤ t
  pub none : x.to ≤ t → (z w : ℤ) → t ≡ instant_of z → false ≡ gives w (ask_zone f v z Two)

-- a question on the kept zone shows what the question on its name shows
pub record Filled (f : List ℕ) (names : ℕ) (s : List ℕ) (k : Kept) : Type 0 where
  pub inside : names + (k.name + k.len) ≤ length s
  pub shown : (z w : ℤ) → gives w (ask_zone f (kept_zone k) z Two) ≡ shows f (name_by names k.name k.len s) z w
  pub lasts : Lasts f (kept_zone k) k.from k.to k.wall

pub record KeptOk (f : List ℕ) (names : ℕ) (s : List ℕ) (k : Kept) : Type 0 where
  pub to : 0 < k.end → Filled f names s k

-- where r is true, a zone is kept, for a name with the bytes of the name of the record at a place
pub record HasName (names : ℕ) (s : List ℕ) (at : ℕ) (k : Kept) (r : Bool) : Type 0 where
  pub to : r ≡ true → (0 < k.end) × (name_by names k.name k.len s ≡ name_at names at s)

-- and the record's instant is one of the offset's that is kept, and it shows that offset
pub record StillAgrees (names : ℕ) (s : List ℕ) (at : ℕ) (k : Kept) (r : Bool) : Type 0 where
  pub named : HasName names s at k r
  pub held : r ≡ true → InRange (instant_at at s) × (k.from ≤ instant_of (instant_at at s)) × (instant_of (instant_at at s) < k.to)
  pub shown : r ≡ true → same_as k.wall (shown_at at s) ≡ true

-- whether a record agrees, and the zone kept after it
pub record Takes (f : List ℕ) (names : ℕ) (s : List ℕ) (b : Bool) (r : Taken) : Type 0 where
  pub agreed : r.agrees ≡ b
  pub kept : KeptOk f names s r.kept

-- the same by the zone v, which k is kept for, at the instant t: only the offset that is kept may change
pub record TakesZone (f : List ℕ) (v : FoundZone) (k : Kept) (t : ℕ) (shown : ℤ) (r : Taken) : Type 0 where
  pub agreed : (z : ℤ) → t ≡ instant_of z → r.agrees ≡ gives shown (ask_zone f v z Two)
  pub offset : Lasting
  pub kept : r.kept ≡ with_offset k offset
  pub lasts : Lasts f v offset.from offset.to offset.wall
