-- What the code's results stand for. The code's way, tied to the questions by `gives-listed` (proofs/GiveLaws.antt).
use Rattle.base.specs.declared.Refusal.{Refusal}
use Rattle.base.specs.declared.Refusal.TheVariants.{CutShort, NotFound}
use Rattle.base.specs.Coded.{Fault}
use Rattle.std.specs.Prelude.{ℕ, ◌/◌, ◌≤◌, ◌≡◌, List, [], ℤ, length, Err, Ok, Result}
use Rattle.base.specs.Parsed.{got}
use Rattle.signed.specs.Instant.{ticks_of}
use Rattle.pool.specs.Pool.{strings_of}
use Rattle.pool.specs.Index.{Ready}
use Rattle.zones.specs.Parse.{parse_zone}
use Rattle.frames.specs.Machine.{Out, found, refused, cut, ended}
use Rattle.answers.specs.Answers.{Pool}
use Rattle.locate.specs.Asked.{Held}
use Rattle.locate.specs.View.{part, pool_at, Lies}
use Rattle.stretches.specs.Stretches.{Stretch, stretches}
use Rattle.cursors.specs.Cursors.{At}
use Rattle.zone_differences.specs.Differ.{differ_at as zones_differ}
use Rattle.differences.specs.Difference.{ask_all, differ_at, listed, after_both, filled}
use Rattle.differences.specs.declared.Side.{Side}

-- the data of field 0, and those of the zone
abbrev pub pool_of : List ℕ → Side → List ℕ
pool_of s x = part x.pool x.past s

abbrev pub zone_of : List ℕ → Side → List ℕ
zone_of s x = part x.from x.to s

-- x lies in s, whose pool has the index ix, with a cursor at the instant t
pub record SideIn (s ix : List ℕ) (t : ℕ) (x : Side) : Type 0 where
  pub lies : Lies s x.pool x.past
  pub order : x.from ≤ x.to
  pub inside : x.to ≤ length s
  pub count-is : x.count ≡ length (strings_of (pool_of s x))
  pub ready : Ready (pool_of s x) ix
  pub at : At x.count (zone_of s x) x.ending t x.cursor

-- and holds the zone to which the walk o comes
pub record HeldBy (s : List ℕ) (o : Out Pool Held) (x : Side) : Type 0 where
  pub held : Held
  pub past : ℕ
  pub is : o ≡ found held past
  pub pool-is : held.pool ≡ pool_at s x.pool x.past
  pub parsed : parse_zone x.count (zone_of s x) ≡ got held.zone []

-- the refusal of a walk, where the bytes are all there is: 2 inside the version or a field, 12 at the end of one
abbrev pub Refuses : Out Pool Held → Refusal → ℕ → Type 0
Refuses (found v q) n p = ⊥
Refuses (refused m q) n p = (n ≡ m) × (p ≡ q)
Refuses (cut q) n p = (n ≡ CutShort) × (p ≡ q)
Refuses (ended m q) n p = (n ≡ NotFound) × (p ≡ q)

abbrev pub AskedTo : List ℕ → Out Pool Held → List ℕ → ℕ → Result Side Fault → Type 0
AskedTo s o ix t (Ok x) = SideIn s ix t x × HeldBy s o x
AskedTo s o ix t (Err (n, p)) = Refuses o n p

pub record AskedAs (s : List ℕ) (o : Out Pool Held) (ix : List ℕ) (t : ℕ) (r : Result Side Fault) : Type 0 where
  pub to : AskedTo s o ix t r

-- where two such zones differ
abbrev pub side_stretches : List ℕ → Side → List ℕ → Side → ℕ → ℕ → List Stretch
side_stretches f x g y first last = stretches (zones_differ (zone_of f x) (pool_of f x) (zone_of g y) (pool_of g y)) first last

-- r and e are the result and the list, which was d, of the stretches xs
pub record Lists (xs : List Stretch) (d : List ℤ) (r : Result ℕ Fault) (e : List ℤ) : Type 0 where
  pub result : r ≡ listed xs (length d / 2)
  pub output : e ≡ filled r xs d

-- of two files, from the instant first to before the instant last
pub record GivesBetween (f g id : List ℕ) (first last : ℕ) (d : List ℤ) (r : Result ℕ Fault) (e : List ℤ) : Type 0 where
  pub result : r ≡ after_both (ask_all f id (ticks_of first)) (ask_all g id (ticks_of first)) (listed (stretches (differ_at f g id) first last) (length d / 2))
  pub output : e ≡ filled r (stretches (differ_at f g id) first last) d
