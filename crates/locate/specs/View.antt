-- What the code's results stand for. The code's way, tied to the walk by `walk-held` (proofs/HeldLaws.antt).
use Rattle.std.specs.Prelude.{ℕ, ◌+◌, ◌-◌, ◌≤◌, ◌<◌, ◌≡◌, true, false, List, length, take, drop}
use Rattle.base.specs.Parsed.{Parsed, got, bad as unread}
use Rattle.pool.specs.Pool.{strings_of}
use Rattle.zones.specs.Content.{Zone}
use Rattle.zones.specs.Parse.{parse_zone}
use Rattle.frames.specs.Frame.{largest, frame}
use Rattle.frames.specs.Machine.{Out, found, refused, cut, ended, Content, bad, answer, keep, state_at, from}
use Rattle.frames.specs.declared.Frame.{Frame}
use Rattle.frames.specs.declared.Frame.TheVariants.{End as FrameEnd, Cut as FrameCut, Refused as FrameRefused, Version, Whole}
use Rattle.answers.specs.Answers.{Pool, pool_of}
use Rattle.locate.specs.Asked.{zone_says, Held, held, holder}
use Rattle.locate.specs.declared.Spot.{Spot}
use Rattle.locate.specs.declared.Located.{Located}
use Rattle.locate.specs.declared.Located.TheVariants.{Found, Refused, Cut, End}
use Rattle.locate.specs.declared.First.{First}
use Rattle.locate.specs.declared.First.TheVariants.{Pool as Pooled, Refused as FirstRefused, Cut as FirstCut, End as FirstEnd}
use Rattle.locate.specs.declared.Judged.{Judged}
use Rattle.locate.specs.declared.Judged.TheVariants.{Here, Keep, Fault}

-- the bytes of s from a to e
abbrev pub part : ℕ → ℕ → List ℕ → List ℕ
part a e s = take (e - a) (drop a s)

abbrev pub pool_at : List ℕ → ℕ → ℕ → Pool
pool_at s a e = pool_of a (part a e s)

-- the data of field 0 go from a to e
pub record Lies (s : List ℕ) (a e : ℕ) : Type 0 where
  pub some : 0 < e
  pub order : a ≤ e
  pub inside : e ≤ length s
  pub limit : e ≤ largest

-- what field 0 comes to, which stands behind the version and whose data go from a to e: its own refusal, or the walk over what follows it
unfoldable pub by_pool : List ℕ → List ℕ → ℕ → ℕ → Parsed (List (List ℕ)) → Out Pool Held
by_pool id s a e (unread n) = refused n 4
by_pool id s a e (got ts r) = from (holder id) (state_at e (drop e s) true 0 (pool_at s a e))

-- the version of s, and field 0 behind it, as a job sees them that goes to the ID last
abbrev pub version_frame : ℕ → List ℕ → Frame
version_frame last s = frame last 0 false 0 s

abbrev pub pool_frame : ℕ → List ℕ → Frame
pool_frame last s = frame last 4 false 0 (drop 4 s)

-- the frame x stops every job at the place p, that of the version or of field 0
pub data StopsAt (s : List ℕ) (x : Frame) (p : ℕ) : Type 0 where
  ahead : p ≡ 0 → ((last : ℕ) → version_frame last s ≡ x) → StopsAt s x p
  behind : p ≡ 4 → ((last : ℕ) → version_frame last s ≡ Version) → ((last : ℕ) → pool_frame last s ≡ x) → StopsAt s x p

-- field 0 is whole, and its data go from a to e
pub record PoolAt (s : List ℕ) (a e : ℕ) : Type 0 where
  pub lies : Lies s a e
  pub head : ℕ
  pub size : ℕ
  pub version-is : (last : ℕ) → version_frame last s ≡ Version
  pub pool-is : (last : ℕ) → pool_frame last s ≡ Whole 0 head size
  pub start_is : a ≡ 4 + head
  pub end_is : e ≡ 4 + head + size

-- r tells where the data of field 0 of s lie, or what every walk comes to before that field
abbrev pub FirstTo : List ℕ → First → Type 0
FirstTo s (Pooled a e) = PoolAt s a e
FirstTo s (FirstRefused n p) = StopsAt s (FrameRefused n) p
FirstTo s (FirstCut p) = StopsAt s FrameCut p
FirstTo s (FirstEnd p) = StopsAt s FrameEnd p

pub record FirstOf (s : List ℕ) (r : First) : Type 0 where
  pub means : FirstTo s r

-- what the asked zone says, once it is read
abbrev pub zone_here : Pool → Parsed Zone → Content Pool Held
zone_here m (got z r) = answer (held m z)
zone_here m (unread n) = bad n

-- j tells what a zone says by its ID, whatever it says itself where it is the asked one
abbrev pub JudgedTo : List ℕ → Pool → Parsed Zone → Judged → Type 0
JudgedTo id m p Here = zone_says held id m p ≡ zone_here m p
JudgedTo id m p Keep = zone_says held id m p ≡ keep m
JudgedTo id m p (Fault n) = zone_says held id m p ≡ bad n

-- wherever the pool's data start
pub record JudgedAs (id pool : List ℕ) (p : Parsed Zone) (j : Judged) : Type 0 where
  pub means : (start : ℕ) → JudgedTo id (pool_of start pool) p j

-- what the asked zone comes to, at a place v and with the pool m
abbrev pub zone_out : Spot → Pool → Parsed Zone → Out Pool Held
zone_out v m (got z r) = found (held m z) v.past
zone_out v m (unread n) = refused n v.place

-- the walk o comes to the zone at v, whose data lies in s
pub record Spotted (s : List ℕ) (m : Pool) (o : Out Pool Held) (v : Spot) : Type 0 where
  pub order : v.start ≤ v.past
  pub inside : v.past ≤ length s
  pub count-is : v.count ≡ length (strings_of m.body)
  pub goes : o ≡ zone_out v m (parse_zone v.count (part v.start v.past s))

-- r tells what the walk o over s comes to, with the pool m
abbrev pub LocatedTo : List ℕ → Pool → Out Pool Held → Located → Type 0
LocatedTo s m o (Found v) = Spotted s m o v
LocatedTo s m o (Refused n p) = o ≡ refused n p
LocatedTo s m o (Cut p) = o ≡ cut p
LocatedTo s m o (End p) = o ≡ ended m p

pub record LocatedAs (s : List ℕ) (m : Pool) (o : Out Pool Held) (r : Located) : Type 0 where
  pub means : LocatedTo s m o r

-- the walk, by what was located
abbrev pub located_out : List ℕ → Pool → Located → Out Pool Held
located_out s m (Found v) = zone_out v m (parse_zone v.count (part v.start v.past s))
located_out s m (Refused n p) = refused n p
located_out s m (Cut p) = cut p
located_out s m (End p) = ended m p

-- a zone's data at v lies in s, and m is the pool
pub record SpotIn (s : List ℕ) (m : Pool) (v : Spot) : Type 0 where
  pub order : v.start ≤ v.past
  pub inside : v.past ≤ length s
  pub count-is : v.count ≡ length (strings_of m.body)

abbrev pub LiesIn : List ℕ → Pool → Located → Type 0
LiesIn s m (Found v) = SpotIn s m v
LiesIn s m (Refused n p) = Unit {0}
LiesIn s m (Cut p) = Unit {0}
LiesIn s m (End p) = Unit {0}

-- what was located lies in s
pub record Within (s : List ℕ) (m : Pool) (r : Located) : Type 0 where
  pub lies : LiesIn s m r
