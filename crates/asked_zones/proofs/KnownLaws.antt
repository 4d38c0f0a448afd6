-- Where the walk over the zones stands, whether or not it is known to come to one, and each way on from there. Assumes nothing.
use Rattle.base.specs.declared.Refusal.{Refusal}
use Rattle.std.specs.Prelude.{Ok}
use mathlib.Core.Path.{◌≡◌, refl, sym, ap, ◌∙◌}
use mathlib.Core.Bool.{Bool, true, false}
use mathlib.Core.List.{List, []}
use Prim.Native.Nat.{ℕ, ◌+◌, ◌-◌, ◌≤◌, ◌<◌}
use native.Mathlib.Omega.{arith}
use lib.ListN.{length, take, drop, get_or}
use Rattle.base.specs.Parsed.{Parsed, got, bad}
use Rattle.base.specs.Equal.{equal}
use Rattle.base.proofs.Tests.{clash, never}
use Rattle.pool.specs.Pool.{strings_of}
use Rattle.places.specs.Placed.{Placed, at, Stands}
use Rattle.places.specs.Name.{parse_name}
use Rattle.zones.specs.Content.{Zone}
use Rattle.zones.specs.Lookup.{verdict_of}
use Rattle.zones.specs.Parse.{parse_zone}
use Rattle.frames.specs.Frame.{frame}
use Rattle.frames.specs.Machine.{Out, found, refused, state_at, from}
use Rattle.frames.specs.declared.Frame.{Frame}
use Rattle.frames.specs.declared.Frame.TheVariants.{End as FrameEnd, Cut as FrameCut, Refused as FrameRefused, Version, Whole}
use Rattle.frames.proofs.AtLaws.{at-version, whole-inside}
use Rattle.answers.specs.Answers.{Pool}
use Rattle.locate.specs.Asked.{Held, holder}
use Rattle.locate.specs.View.{part, pool_at, JudgedAs, LocatedAs}
use Rattle.locate.specs.declared.Spot.{Spot}
use Rattle.locate.specs.declared.Located.{Located}
use Rattle.locate.specs.declared.Located.TheVariants.{Found, Refused, Cut, End}
use Rattle.locate.specs.declared.Judged.{Judged}
use Rattle.locate.specs.declared.Judged.TheVariants.{Here, Keep, Fault}
use Rattle.locate.proofs.JudgeLaws.{judged-keep}
use Rattle.locate.proofs.WalkingLaws.{Walking, walking_start, walking-end, walking-cut, walking-refused, walking_here, walking-fault, walking-keep}
use Rattle.asked_zones.specs.Known.{JudgedBy, WalkedAs}

-- a zone that is known to be a good one and has another ID
module _ (count : ℕ) (s : List ℕ) (x : Placed ℕ) (h : Stands s (parse_name count (drop 0 s)) x) (pool id : List ℕ) (k e : ℕ) (f : x ≡ at k e) where
  pub judged-known : (known : Bool) → known ≡ true → false ≡ equal (get_or (strings_of pool) k []) id → JudgedBy known id pool (parse_zone count s) Keep
  judged-known known q n =
      record { means = λ g. let u = g q in judged-keep count s x h pool id k e f u.0.id n (sym (ap verdict_of u.2)) }

pub judged-any : (known : Bool) (id pool : List ℕ) (p : Parsed Zone) (j : Judged) → JudgedAs id pool p j → JudgedBy known id pool p j
judged-any known id pool p j h = record { means = λ q. h }

-- where nothing is known
pub walked-any : {s : List ℕ} {m : Pool} {o : Out Pool Held} {r : Located} → WalkedAs false s m o r → LocatedAs s m o r
walked-any h = h.means (λ e. never e refl)

module _ (known : Bool) (id : List ℕ) (s : List ℕ) (start end : ℕ) where
  abbrev m : Pool
  m = pool_at s start end

  abbrev whole : Out Pool Held
  whole = from (holder id) (state_at end (drop end s) true 0 m)

  -- it comes to a zone where that is known
  abbrev Known : Type 0
  Known = known ≡ true → (v : Held) × (p : ℕ) × (whole ≡ found v p)

  -- the walk has come to a place
  pub record Walked (at prev : ℕ) : Type 0 where
    pub some : 0 < at
    pub inside : at ≤ length s
    pub walking : Known → Walking id s start end at prev

  pub walked_start : 0 < end → end ≤ length s → Walked end 0
  walked_start a b = record { some = a; inside = b; walking = λ q. walking_start id s start end a b }

  module _ (at prev : ℕ) (w : Walked at prev) (f : Frame) (read : f ≡ frame 1 at true prev (take (length s - at) (drop at s))) where
    pub walked_end : f ≡ FrameEnd → WalkedAs known s m whole (End at)
    walked_end e = record { means = λ q. walking-end id s start end at prev (w.walking q) f read e }

    pub walked-cut : f ≡ FrameCut → WalkedAs known s m whole (Cut at)
    walked-cut e = record { means = λ q. walking-cut id s start end at prev (w.walking q) f read e }

    pub walked-refused : (n : Refusal) → f ≡ FrameRefused n → WalkedAs known s m whole (Refused n at)
    walked-refused n e = record { means = λ q. walking-refused id s start end at prev (w.walking q) f read n e }

    pub walked-version : {A : Type 0} → f ≡ Version → A
    walked-version e = absurd (omega (arith, w.some, at-version (holder id) s at true prev m w.inside f read e))

    module _ (i h n : ℕ) (e : f ≡ Whole i h n) where
      pub walked-inside : (0 < h) × (at + h + n ≤ length s) × (at + h + n ≤ 4194304)
      walked-inside = whole-inside (holder id) s at true prev m w.inside f read i h n e

      module _ (count : ℕ) (c : count ≡ length (strings_of (part start end s))) (j : Judged)
          (judged : JudgedBy known id (part start end s) (parse_zone count (part (at + h) (at + h + n) s)) j) where
        abbrev zone : Parsed Zone
        zone = parse_zone count (part (at + h) (at + h + n) s)

        abbrev spot : Spot
        spot = record { place = at; start = at + h; past = at + h + n; count = count }

        -- a walk that comes to a zone passes good ones only
        good : Known → (v : Held) (p : ℕ) → whole ≡ found v p → (z : Zone) × (r : List ℕ) × (zone ≡ got z r)
        good q v p k = go zone refl
          where
            go : (x : Parsed Zone) → zone ≡ x → (z : Zone) × (r : List ℕ) × (zone ≡ got z r)
            go (got z r) g = (z, r, g)
            go (bad l) g =
                let o : whole ≡ refused l at =
                (walking-fault id s start end at prev (w.walking q) f read i h n e count c (Fault l) (record { means = λ a. rw g }) l refl).means in
                let y : refused l at ≡ found v p = sym o ∙ k in clash cc

        judges : Known → JudgedAs id (part start end s) zone j
        judges q = judged.means (λ t. let u = q t in good q u.0 u.1 u.2)

        pub walked_here : j ≡ Here → WalkedAs known s m whole (Found spot)
        walked_here o =
            record { means = λ q. walking_here id s start end at prev (w.walking q) f read i h n e count c j (judges q) o }

        pub walked-fault : (l : Refusal) → j ≡ Fault l → WalkedAs known s m whole (Refused l at)
        walked-fault l o =
            record { means = λ q. walking-fault id s start end at prev (w.walking q) f read i h n e count c j (judges q) l o }

        pub walked-keep : j ≡ Keep → Walked (at + h + n) i
        walked-keep o = record {
          some = omega (arith, walked-inside.0);
          inside = walked-inside.1;
          walking = λ q. walking-keep id s start end at prev (w.walking q) f read i h n e count c j (judges q) o;
        }
