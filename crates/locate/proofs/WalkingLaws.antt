-- Where the walk over the zones stands, and each way on from there. Assumes nothing.
use Rattle.base.specs.declared.Refusal.{Refusal}
use mathlib.Core.Path.{◌≡◌, refl, sym, ap, ◌∙◌, subst}
use mathlib.Core.Bool.{true, false}
use mathlib.Core.List.{List, []}
use Prim.Native.Nat.{ℕ, ◌+◌, ◌-◌, ◌≤◌, ◌<◌}
use native.Mathlib.Omega.{arith}
use lib.ListN.{length, take, drop}
use lib.Seq.{drop-drop}
use borrow.Author.Tests.{ne_eqb}
use Rattle.base.proofs.Parts.{part-from}
use Rattle.base.specs.Parsed.{Parsed, got, bad}
use Rattle.pool.specs.Pool.{parse_pool, strings_of}
use Rattle.zones.specs.Content.{Zone}
use Rattle.zones.specs.Parse.{parse_zone}
use Rattle.frames.specs.Frame.{frame, Field}
use Rattle.frames.specs.Machine.{Out, refused, cut, ended, bad as fault, keep, Job, state_at, field_at, from, walk}
use Rattle.frames.specs.declared.Frame.{Frame}
use Rattle.frames.specs.declared.Frame.TheVariants.{End as FrameEnd, Cut as FrameCut, Refused as FrameRefused, Version, Whole}
use Rattle.frames.proofs.AtLaws.{body-part, at-end, at_cut, at-refused, at-version, whole-inside, whole-later, whole-first, at-bad, at-answer, at-keep}
use Rattle.frames.proofs.AtLaws.{front-end, front_cut, front-refused, front-version, first_frame, version-inside}
use Rattle.frames.proofs.StepLaws.{from-end, from_cut, from-refused, from-bad, from-keep}
use Rattle.answers.specs.Answers.{Pool, no_pool}
use Rattle.locate.specs.Asked.{zone_says, says, Held, held, holder}
use Rattle.locate.specs.View.{part, pool_at, Lies, by_pool, version_frame, pool_frame, StopsAt, ahead, behind, PoolAt, FirstTo, FirstOf}
use Rattle.locate.specs.View.{zone_here, JudgedTo, JudgedAs, zone_out, Spotted, LocatedTo, LocatedAs, located_out, SpotIn, Within}
use Rattle.locate.specs.declared.Spot.{Spot}
use Rattle.locate.specs.declared.Located.{Located}
use Rattle.locate.specs.declared.Located.TheVariants.{Found, Refused, Cut, End}
use Rattle.locate.specs.declared.First.{First}
use Rattle.locate.specs.declared.First.TheVariants.{Pool as Pooled, Refused as FirstRefused, Cut as FirstCut, End as FirstEnd}
use Rattle.locate.specs.declared.Judged.{Judged}
use Rattle.locate.specs.declared.Judged.TheVariants.{Here, Keep, Fault}

-- field 0, behind the version
module _ (s : List ℕ) (version : version_frame 1 s ≡ Version) (f : Frame) (read : f ≡ frame 1 4 false 0 (take (length s - 4) (drop 4 s))) where
  inside : 4 ≤ length s
  inside = version-inside 1 s (sym version)

  versioned : (last : ℕ) → version_frame last s ≡ Version
  versioned last = first_frame last 1 0 0 s ∙ version

  lent : (x : Frame) → f ≡ x → (last : ℕ) → pool_frame last s ≡ x
  lent x e last = first_frame last 1 4 0 (drop 4 s) ∙ sym (rw (part-from 4 s) at read) ∙ e

  pub pool-end : f ≡ FrameEnd → FirstOf s (FirstEnd 4)
  pool-end e = record { means = behind refl versioned (lent FrameEnd e) }

  pub pool-cut : f ≡ FrameCut → FirstOf s (FirstCut 4)
  pool-cut e = record { means = behind refl versioned (lent FrameCut e) }

  pub pool-refused : (n : Refusal) → f ≡ FrameRefused n → FirstOf s (FirstRefused n 4)
  pool-refused n e = record { means = behind refl versioned (lent (FrameRefused n) e) }

  pub pool-version : {A : Type 0} → f ≡ Version → A
  pool-version e = absurd (omega (arith, at-version (holder []) s 4 false 0 no_pool inside f read e))

  module _ (i h n : ℕ) (e : f ≡ Whole i h n) where
    pub pool-lies : Lies s (4 + h) (4 + h + n)
    pool-lies =
        let r = whole-inside (holder []) s 4 false 0 no_pool inside f read i h n e in
        record { some = omega arith; order = omega arith; inside = r.1; limit = r.2 }

    pub pool-found : FirstOf s (Pooled (4 + h) (4 + h + n))
    pool-found = record {
      means =
          record {
            lies = pool-lies;
            head = h;
            size = n;
            version-is = versioned;
            pool-is =
                λ last. lent (Whole i h n) e last ∙ ap (λ (k : ℕ). Whole k h n) (whole-first (holder []) s 4 false 0 no_pool inside f read i h n e refl);
            start_is = refl;
            end_is = refl;
          };
    }

-- the version, at the front of all the bytes
module _ (s : List ℕ) where
  front : (x : Frame) → x ≡ frame 1 0 false 0 s → (last : ℕ) → version_frame last s ≡ x
  front x e last = first_frame last 1 0 0 s ∙ sym e

  pub first-end : FrameEnd ≡ frame 1 0 false 0 s → FirstOf s (FirstEnd 0)
  first-end e = record { means = ahead refl (front FrameEnd e) }

  pub first-cut : FrameCut ≡ frame 1 0 false 0 s → FirstOf s (FirstCut 0)
  first-cut e = record { means = ahead refl (front FrameCut e) }

  pub first-refused : (n : Refusal) → FrameRefused n ≡ frame 1 0 false 0 s → FirstOf s (FirstRefused n 0)
  first-refused n e = record { means = ahead refl (front (FrameRefused n) e) }

-- the walk over the zones
module _ (id : List ℕ) (s : List ℕ) (start end : ℕ) where
  abbrev m : Pool
  m = pool_at s start end

  abbrev whole : Out Pool Held
  whole = from (holder id) (state_at end (drop end s) true 0 m)

  pub record Walking (at prev : ℕ) : Type 0 where
    pub some : 0 < at
    pub inside : at ≤ length s
    pub goes : whole ≡ from (holder id) (state_at at (drop at s) true prev m)

  pub walking_start : 0 < end → end ≤ length s → Walking end 0
  walking_start a b = record { some = a; inside = b; goes = refl }

  module _ (at prev : ℕ) (w : Walking at prev) (f : Frame) (read : f ≡ frame 1 at true prev (take (length s - at) (drop at s))) where
    pub walking-end : f ≡ FrameEnd → LocatedAs s m whole (End at)
    walking-end e = record { means = w.goes ∙ at-end (holder id) s at true prev m w.inside f read e }

    pub walking-cut : f ≡ FrameCut → LocatedAs s m whole (Cut at)
    walking-cut e = record { means = w.goes ∙ at_cut (holder id) s at true prev m w.inside f read e }

    pub walking-refused : (n : Refusal) → f ≡ FrameRefused n → LocatedAs s m whole (Refused n at)
    walking-refused n e = record { means = w.goes ∙ at-refused (holder id) s at true prev m w.inside f read n e }

    pub walking-version : {A : Type 0} → f ≡ Version → A
    walking-version e = absurd (omega (arith, w.some, at-version (holder id) s at true prev m w.inside f read e))

    module _ (i h n : ℕ) (e : f ≡ Whole i h n) where
      pub walking-inside : (0 < h) × (at + h + n ≤ length s) × (at + h + n ≤ 4194304)
      walking-inside = whole-inside (holder id) s at true prev m w.inside f read i h n e

      module _ (count : ℕ) (c : count ≡ length (strings_of (part start end s))) (j : Judged)
          (judges : JudgedAs id (part start end s) (parse_zone count (part (at + h) (at + h + n) s)) j) where
        abbrev zone : Parsed Zone
        zone = parse_zone count (part (at + h) (at + h + n) s)

        abbrev spot : Spot
        spot = record { place = at; start = at + h; past = at + h + n; count = count }

        zone-says : says held id m (field_at at (drop at s) i h n) ≡ zone_says held id m zone
        unfolding says
        zone-says =
            rw (ne_eqb i 0 (omega (arith, whole-later (holder id) s at true prev m w.inside f read i h n e refl)), c, body-part s at h n)

        judged : (x : Judged) → j ≡ x → JudgedTo id m zone x
        judged x o = (subst (JudgedAs id (part start end s) zone) o judges).means start

        pub walking_here : j ≡ Here → LocatedAs s m whole (Found spot)
        walking_here o = record {
          means =
              record {
                order = omega arith;
                inside = walking-inside.1;
                count-is = c;
                goes = w.goes ∙ go zone (zone-says ∙ judged Here o);
              };
        }
          where
            go : (p : Parsed Zone) → says held id m (field_at at (drop at s) i h n) ≡ zone_here m p
                → from (holder id) (state_at at (drop at s) true prev m) ≡ zone_out spot m p
            go (got z r) k = at-answer (holder id) s at true prev m w.inside f read i h n e (held m z) k
            go (bad l) k = at-bad (holder id) s at true prev m w.inside f read i h n e l k

        pub walking-fault : (l : Refusal) → j ≡ Fault l → LocatedAs s m whole (Refused l at)
        walking-fault l o =
            record { means = w.goes ∙ at-bad (holder id) s at true prev m w.inside f read i h n e l (zone-says ∙ judged (Fault l) o) }

        pub walking-keep : j ≡ Keep → Walking (at + h + n) i
        walking-keep o = record {
          some = omega (arith, walking-inside.0);
          inside = walking-inside.1;
          goes = w.goes ∙ at-keep (holder id) s at true prev m w.inside f read i h n e m (zone-says ∙ judged Keep o);
        }

-- field 0 itself
module _ (id s : List ℕ) (a e : ℕ) (p : Parsed (List (List ℕ))) where
  pub pool-fault : (n : Refusal) → p ≡ bad n → LocatedAs s (pool_at s a e) (by_pool id s a e p) (Refused n 4)
  unfolding by_pool
  pool-fault n k = record { means = rw k }

  pub pool-on : (ts : List (List ℕ)) (q : List ℕ) → p ≡ got ts q → {r : Located}
      → LocatedAs s (pool_at s a e) (from (holder id) (state_at e (drop e s) true 0 (pool_at s a e))) r → LocatedAs s (pool_at s a e) (by_pool id s a e p) r
  unfolding by_pool
  pool-on ts q k h = rw k h

-- by what was located
module _ {s : List ℕ} {m : Pool} {o : Out Pool Held} {r : Located} (h : LocatedAs s m o r) where
  located-is : (x : Located) → r ≡ x → LocatedTo s m o x
  located-is x e = (subst (LocatedAs s m o) e h).means

  pub located-found : (v : Spot) → r ≡ Found v → Spotted s m o v
  located-found v e = located-is (Found v) e

  pub located-refused : (n : Refusal) (p : ℕ) → r ≡ Refused n p → o ≡ refused n p
  located-refused n p e = located-is (Refused n p) e

  pub located-cut : (p : ℕ) → r ≡ Cut p → o ≡ cut p
  located-cut p e = located-is (Cut p) e

  pub located_end : (p : ℕ) → r ≡ End p → o ≡ ended m p
  located_end p e = located-is (End p) e

  -- what was located lies in s, and is all that the walk comes to
  pub located-out : Within s m r × (o ≡ located_out s m r)
  located-out = go r h.means
    where
      go : (x : Located) → LocatedTo s m o x → Within s m x × (o ≡ located_out s m x)
      go (Found v) k = (record { lies = record { order = k.order; inside = k.inside; count-is = k.count-is } }, k.goes)
      go (Refused n p) k = (record { lies = tt }, k)
      go (Cut p) k = (record { lies = tt }, k)
      go (End p) k = (record { lies = tt }, k)

pub located-lies : {s : List ℕ} {m : Pool} {r : Located} → Within s m r → (v : Spot) → r ≡ Found v → SpotIn s m v
located-lies {s} {m} w v e = (subst (Within s m) e w).lies

-- BY THE FIRST FIELD, for any job
module _ {s : List ℕ} {r : First} (h : FirstOf s r) where
  first-is : (x : First) → r ≡ x → FirstTo s x
  first-is x e = (subst (FirstOf s) e h).means

  pub first-pool : (a e : ℕ) → r ≡ Pooled a e → PoolAt s a e
  first-pool a e k = first-is (Pooled a e) k

  module _ {M A : Type 0} (J : Job M A) (m : M) where
    pub first-fault : (n : Refusal) (p : ℕ) → r ≡ FirstRefused n p → walk J m s ≡ refused n p
    first-fault n p k = go (first-is (FirstRefused n p) k)
      where
        go : StopsAt s (FrameRefused n) p → walk J m s ≡ refused n p
        go (ahead z f) = front-refused J m s n (sym (f J.last)) ∙ ap (refused n) (sym z)
        go (behind z v f) = front-version J m s (sym (v J.last)) ∙ from-refused J 4 (drop 4 s) false 0 m n (sym (f J.last)) ∙ ap (refused n) (sym z)

    pub first_short : (p : ℕ) → r ≡ FirstCut p → walk J m s ≡ cut p
    first_short p k = go (first-is (FirstCut p) k)
      where
        go : StopsAt s FrameCut p → walk J m s ≡ cut p
        go (ahead z f) = front_cut J m s (sym (f J.last)) ∙ ap cut (sym z)
        go (behind z v f) = front-version J m s (sym (v J.last)) ∙ from_cut J 4 (drop 4 s) false 0 m (sym (f J.last)) ∙ ap cut (sym z)

    pub first-over : (p : ℕ) → r ≡ FirstEnd p → walk J m s ≡ ended m p
    first-over p k = go (first-is (FirstEnd p) k)
      where
        go : StopsAt s FrameEnd p → walk J m s ≡ ended m p
        go (ahead z f) = front-end J m s (sym (f J.last)) ∙ ap (ended m) (sym z)
        go (behind z v f) = front-version J m s (sym (v J.last)) ∙ from-end J 4 (drop 4 s) false 0 m (sym (f J.last)) ∙ ap (ended m) (sym z)

-- by what field 0 says to a job
module _ {s : List ℕ} {a e : ℕ} (p : PoolAt s a e) {M A : Type 0} (J : Job M A) (m : M) where
  abbrev pub pool_field : Field
  pool_field = record { place = 4; id = 0; start = a; past = e; body = part a e s }

  field_is : field_at 4 (drop 4 s) 0 p.head p.size ≡ pool_field
  field_is =
      let w : 4 + (p.head + p.size) ≡ 4 + p.head + p.size = omega arith in
      rw (p.start_is, p.end_is, w, body-part s 4 p.head p.size)

  pub pool-bad : (k : Refusal) → J.content m pool_field ≡ fault k → walk J m s ≡ refused k 4
  pool-bad k c =
      front-version J m s (sym (p.version-is J.last))
      ∙ from-bad J 4 (drop 4 s) false 0 m 0 p.head p.size (sym (p.pool-is J.last)) k (ap (J.content m) field_is ∙ c)

  pub pool-keep : (m' : M) → J.content m pool_field ≡ keep m' → walk J m s ≡ from J (state_at e (drop e s) true 0 m')
  pool-keep m' c =
      let w : 4 + (p.head + p.size) ≡ 4 + p.head + p.size = omega arith in
      front-version J m s (sym (p.version-is J.last))
      ∙ from-keep J 4 (drop 4 s) false 0 m 0 p.head p.size (sym (p.pool-is J.last)) m' (ap (J.content m) field_is ∙ c)
      ∙ rw (drop-drop, p.end_is, w)

-- and to the walk to a zone
pub pool-walk : {s : List ℕ} {a e : ℕ} → PoolAt s a e → (id : List ℕ) → walk (holder id) no_pool s ≡ by_pool id s a e (parse_pool (part a e s))
unfolding by_pool says
pool-walk {s} {a} {e} p id = go (parse_pool (part a e s)) refl
  where
    go : (q : Parsed (List (List ℕ))) → parse_pool (part a e s) ≡ q → walk (holder id) no_pool s ≡ by_pool id s a e q
    go (bad k) z = pool-bad p (holder id) no_pool k (rw z)
    go (got ts r) z = pool-keep p (holder id) no_pool (pool_at s a e) (rw z)
