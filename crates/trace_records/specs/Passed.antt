-- What the numbers of the zones passed stand for. The code's way: what a walk to a zone comes to is said by `from (holder id)` alone.
use Rattle.std.specs.declared.option.Option.{Option}
use Rattle.std.specs.declared.option.Option.TheVariants.{None, Some}
use Rattle.std.specs.Prelude.{ℕ, ◌≤◌, ◌<◌, ◌≡◌, true, false, List, [], length, drop, get_or, Ok}
use Rattle.base.specs.Equal.{equal}
use Rattle.pool.specs.Pool.{strings_of}
use Rattle.zones.specs.Parse.{parse_zone}
use Rattle.zones.specs.Lookup.{verdict_of}
use Rattle.frames.specs.Frame.{largest}
use Rattle.frames.specs.Machine.{Out, found, state_at, from}
use Rattle.answers.specs.Answers.{Pool}
use Rattle.locate.specs.Asked.{Held, holder}
use Rattle.locate.specs.View.{part, pool_at, Spotted}
use Rattle.locate.specs.declared.Spot.{Spot}
use Rattle.ids.specs.Ids.{among}
use Rattle.ids.specs.Layout.{number_at}
use Rattle.ids.specs.Memory.{text_at, texts_of, Sorted}
use Rattle.trace_records.specs.declared.PassedZones.{PassedZones}
use Rattle.trace_records.specs.declared.ReachedZone.{ReachedZone}

-- the strings of field 0, whose data are s[d..e]
abbrev pub pool_strings : List ℕ → ℕ → ℕ → List (List ℕ)
pool_strings s d e = strings_of (part d e s)

-- the walk to the zone with the bytes id from a place on, behind a field with the ID prev
abbrev pub walk_from : List ℕ → ℕ → ℕ → ℕ → ℕ → List ℕ → Out Pool Held
walk_from s d e at prev id = from (holder id) (state_at at (drop at s) true prev (pool_at s d e))

-- all of it, behind field 0
abbrev pub walk_to : List ℕ → ℕ → ℕ → List ℕ → Out Pool Held
walk_to s d e id = walk_from s d e e 0 id

-- o comes to no zone
abbrev pub Fails : Out Pool Held → Type 0
Fails o = (v : Held) (p : ℕ) → o ≡ found v p → ⊥

-- a zone's data, s[a..b]; the place of its field is told with a fault alone
abbrev pub spot_at : List ℕ → ℕ → ℕ → ℕ → ℕ → Spot
spot_at s d e a b = record { place = 0; start = a; past = b; count = length (pool_strings s d e) }

-- the walk to id comes to a good zone, whose data are s[a..b]
pub record ZoneAt (s : List ℕ) (d e : ℕ) (id : List ℕ) (a b : ℕ) : Type 0 where
  pub number : ℕ
  pub some : 0 < b
  pub limit : b ≤ largest
  pub spotted : Spotted s (pool_at s d e) (walk_to s d e id) (spot_at s d e a b)
  pub good : Ok number ≡ verdict_of (parse_zone (length (pool_strings s d e)) (part a b s))

-- a good zone stands at a place, with the k-th string as its ID: of the walks that come to that place, one to this ID stops there, and every
-- other goes on behind it, at b
pub record NextZone (s : List ℕ) (d e at prev i a b k : ℕ) : Type 0 where
  pub known : k < length (pool_strings s d e)
  pub here : (id : List ℕ) → walk_to s d e id ≡ walk_from s d e at prev id → equal (get_or (pool_strings s d e) k []) id ≡ true → ZoneAt s d e id a b
  pub past : (id : List ℕ) → walk_to s d e id ≡ walk_from s d e at prev id → equal (get_or (pool_strings s d e) k []) id ≡ false → walk_to s d e id ≡ walk_from s d e b i id

abbrev pub NextTo : List ℕ → ℕ → ℕ → ℕ → ℕ → Option (ℕ × ℕ × ℕ × ℕ) → Type 0
NextTo s d e at prev (Some (i, a, b, k)) = NextZone s d e at prev i a b k
NextTo s d e at prev None = (id : List ℕ) → walk_to s d e id ≡ walk_from s d e at prev id → Fails (walk_to s d e id)

-- the places of a zone lie behind a place in s
abbrev pub NextIn : List ℕ → ℕ → Option (ℕ × ℕ × ℕ × ℕ) → Type 0
NextIn s at (Some (i, a, b, k)) = (at < a) × (a ≤ b) × (b ≤ length s) × (b ≤ largest)
NextIn s at None = Unit {0}

-- r tells what stands at a place behind a field with the ID prev, wherever field 0 is whose pool has so many strings
pub record NextIs (s : List ℕ) (count at prev : ℕ) (r : Option (ℕ × ℕ × ℕ × ℕ)) : Type 0 where
  pub lies : NextIn s at r
  pub means : (d e : ℕ) → count ≡ length (pool_strings s d e) → NextTo s d e at prev r

-- p tells how far the walks have come: the first p .ids numbers of the list that od holds are those of the IDs seen, each with the places of its zone
-- in fs and ts, and the walk to every other ID goes on from p.at
pub record PassedOk (s : List ℕ) (d e : ℕ) (od fs ts : List ℕ) (p : PassedZones) : Type 0 where
  pub some : 0 < p.at
  pub inside : p.at ≤ length s
  pub sorted : Sorted (pool_strings s d e) od p.ids
  pub from-room : length fs ≡ 8192
  pub to_room : length ts ≡ 8192
  pub seen : (i : ℕ) → i < p.ids → ZoneAt s d e (text_at (pool_strings s d e) od i) (get_or fs (number_at od i) 0) (get_or ts (number_at od i) 0)
  pub rest : (id : List ℕ) → among id (texts_of (pool_strings s d e) od p.ids) ≡ false → walk_to s d e id ≡ walk_from s d e p.at p.prev id

-- the walk to id comes to the zone that r tells, and on from there, or to none
pub record ReachedAs (s : List ℕ) (d e : ℕ) (id od fs ts : List ℕ) (r : ReachedZone) : Type 0 where
  pub reached : 0 < r.end → ZoneAt s d e id r.start r.end × PassedOk s d e od fs ts r.passed
  pub none : r.end ≡ 0 → Fails (walk_to s d e id)
