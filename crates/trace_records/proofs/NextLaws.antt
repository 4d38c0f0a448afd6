-- What the field at a place says to every walk that comes there. Assumes nothing.
use Rattle.base.specs.declared.Refusal.{Refusal}
use Rattle.std.specs.declared.option.Option.TheVariants.{None, Some}
use Rattle.std.specs.Prelude.{Err, Ok, Result}
use mathlib.Core.Path.{◌≡◌, refl, sym, ap, ◌∙◌, subst}
use mathlib.Core.Bool.{true, false}
use mathlib.Core.List.{List, []}
use Prim.Native.Nat.{ℕ, ◌+◌, ◌-◌, ◌≤◌, ◌<◌}
use native.Mathlib.Omega.{arith}
use lib.ListN.{length, take, drop, get_or}
use Rattle.base.specs.Equal.{equal}
use Rattle.base.specs.Parsed.{Parsed, got, bad}
use Rattle.base.proofs.Tests.{clash}
use Rattle.pool.specs.Pool.{strings_of}
use Rattle.zones.specs.Content.{Zone}
use Rattle.zones.specs.Parse.{parse_zone}
use Rattle.zones.specs.Lookup.{verdict_of}
use Rattle.zones.proofs.SoundLaws.{zone-sound}
use Rattle.frames.specs.Frame.{frame}
use Rattle.frames.specs.Machine.{Out, refused, cut, ended}
use Rattle.frames.specs.declared.Frame.{Frame}
use Rattle.frames.specs.declared.Frame.TheVariants.{End as FrameEnd, Cut as FrameCut, Refused as FrameRefused, Version, Whole}
use Rattle.frames.proofs.AtLaws.{at-version, whole-inside}
use Rattle.answers.specs.Answers.{Pool, no_pool}
use Rattle.locate.specs.Asked.{Held, holder}
use Rattle.locate.specs.View.{part, pool_at, JudgedAs, zone_out, Spotted}
use Rattle.locate.specs.declared.Judged.TheVariants.{Here, Keep, Fault}
use Rattle.locate.proofs.WalkingLaws.{Walking, walking-end, walking-cut, walking-refused, walking_here, walking-fault, walking-keep}
use Rattle.trace_records.specs.Passed.{pool_strings, walk_from, walk_to, Fails, spot_at, ZoneAt, NextZone, NextIs}

-- an outcome with no zone
fails-refused : (o : Out Pool Held) (n : Refusal) (p : ℕ) → o ≡ refused n p → Fails o
fails-refused o n p e v q k = clash cc

fails-cut : (o : Out Pool Held) (p : ℕ) → o ≡ cut p → Fails o
fails-cut o p e v q k = clash cc

fails-ended : (o : Out Pool Held) (m : Pool) (p : ℕ) → o ≡ ended m p → Fails o
fails-ended o m p e v q k = clash cc

-- a zone by its check
record GoodBy (p : Parsed Zone) (k : ℕ) : Type 0 where
  zone : Zone
  rest : List ℕ
  is : p ≡ got zone rest
  number : zone.id ≡ k

good-by : (p : Parsed Zone) (k : ℕ) → Ok k ≡ verdict_of p → GoodBy p k
good-by (got z r) k e = record { zone = z; rest = r; is = refl; number = cc }
good-by (bad n) k e = clash cc

module _ (id pool : List ℕ) (p : Parsed Zone) where
  judge-fault : (n : Refusal) → Err n ≡ verdict_of p → JudgedAs id pool p (Fault n)
  judge-fault n e = go p e
    where
      go : (q : Parsed Zone) → Err n ≡ verdict_of q → JudgedAs id pool q (Fault n)
      go (got z r) h = clash cc
      go (bad k) h = let w : k ≡ n = cc in rw w (record { means = λ start. refl })

  module _ (k : ℕ) (g : GoodBy p k) where
    judge-here : equal (get_or (strings_of pool) k []) id ≡ true → JudgedAs id pool p Here
    judge-here h =
        let j : equal (get_or (strings_of pool) g.zone.id []) id ≡ true = rw g.number h in
        record { means = λ start. rw (g.is, j) }

    judge-keep : equal (get_or (strings_of pool) k []) id ≡ false → JudgedAs id pool p Keep
    judge-keep h =
        let j : equal (get_or (strings_of pool) g.zone.id []) id ≡ false = rw g.number h in
        record { means = λ start. rw (g.is, j) }

-- the place of a good zone's field is not told
place-free : (s : List ℕ) (d e : ℕ) (id : List ℕ) (at a b k : ℕ) → Ok k ≡ verdict_of (parse_zone (length (pool_strings s d e)) (part a b s))
    → Spotted s (pool_at s d e) (walk_to s d e id) (record { place = at; start = a; past = b; count = length (pool_strings s d e) })
    → Spotted s (pool_at s d e) (walk_to s d e id) (spot_at s d e a b)
place-free s d e id at a b k g h = record {
  order = h.order;
  inside = h.inside;
  count-is = h.count-is;
  goes = h.goes ∙ go (parse_zone (length (pool_strings s d e)) (part a b s)) g;
}
  where
    go : (p : Parsed Zone) → Ok k ≡ verdict_of p
        → zone_out (record { place = at; start = a; past = b; count = length (pool_strings s d e) }) (pool_at s d e) p ≡ zone_out (spot_at s d e a b) (pool_at s d e) p
    go (got z r) q = refl
    go (bad n) q = clash cc

module _ (s : List ℕ) (count at prev : ℕ) (some : 0 < at) (inside : at ≤ length s) (f : Frame)
    (read : f ≡ frame 1 at true prev (take (length s - at) (drop at s))) where
  -- a walk that has come there
  walking : (d e : ℕ) (id : List ℕ) → walk_to s d e id ≡ walk_from s d e at prev id → Walking id s d e at prev
  walking d e id w = record { some = some; inside = inside; goes = w }

  pub next-end : f ≡ FrameEnd → NextIs s count at prev None
  next-end k = record {
    lies = tt;
    means = λ d e c id w. fails-ended (walk_to s d e id) _ at (walking-end id s d e at prev (walking d e id w) f read k).means;
  }

  pub next-cut : f ≡ FrameCut → NextIs s count at prev None
  next-cut k = record {
    lies = tt;
    means = λ d e c id w. fails-cut (walk_to s d e id) at (walking-cut id s d e at prev (walking d e id w) f read k).means;
  }

  pub next-refused : (n : Refusal) → f ≡ FrameRefused n → NextIs s count at prev None
  next-refused n k = record {
    lies = tt;
    means = λ d e c id w. fails-refused (walk_to s d e id) n at (walking-refused id s d e at prev (walking d e id w) f read n k).means;
  }

  pub next-version : {A : Type 0} → f ≡ Version → A
  next-version e = absurd (omega (arith, some, at-version (holder []) s at true prev no_pool inside f read e))

  module _ (i h n : ℕ) (k : f ≡ Whole i h n) where
    pub next-inside : (0 < h) × (at + h + n ≤ length s) × (at + h + n ≤ 4194304)
    next-inside = whole-inside (holder []) s at true prev no_pool inside f read i h n k

    module _ (v : Result ℕ Refusal) (checks : v ≡ verdict_of (parse_zone count (part (at + h) (at + h + n) s))) where
      pub next-bad : (m : Refusal) → v ≡ Err m → NextIs s count at prev None
      next-bad m q = record {
        lies = tt;
        means = λ d e c id w.
            fails-refused (walk_to s d e id) m at
            (walking-fault id s d e at prev (walking d e id w) f read i h n k count c (Fault m)
            (judge-fault id (part d e s) (parse_zone count (part (at + h) (at + h + n) s)) m (sym q ∙ checks)) m refl).means;
      }

      pub next-zone : (j : ℕ) → v ≡ Ok j → NextIs s count at prev (Some (i, at + h, at + h + n, j))
      next-zone j q = record {
        lies = (omega (arith, next-inside.0), omega arith, next-inside.1, next-inside.2);
        means = zone;
      }
        where
          zone : (d e : ℕ) → count ≡ length (pool_strings s d e) → NextZone s d e at prev i (at + h) (at + h + n) j
          zone d e c =
              let l : Ok j ≡ verdict_of (parse_zone (length (pool_strings s d e)) (part (at + h) (at + h + n) s)) = sym q ∙ checks ∙ ap (λ (u : ℕ). verdict_of (parse_zone u (part (at + h) (at + h + n) s))) c in
              let g = good-by (parse_zone (length (pool_strings s d e)) (part (at + h) (at + h + n) s)) j l in
              record {
                known = subst (λ (u : ℕ). u < length (pool_strings s d e)) g.number (zone-sound (length (pool_strings s d e)) (part (at + h) (at + h + n) s) g.zone g.rest g.is).0.id-ok;
                here = λ id w t. record {
                  number = j;
                  some = omega (arith, next-inside.0);
                  limit = next-inside.2;
                  spotted =
                      place-free s d e id at (at + h) (at + h + n) j l
                      (walking_here id s d e at prev (walking d e id w) f read i h n k (length (pool_strings s d e)) refl Here
                      (judge-here id (part d e s) (parse_zone (length (pool_strings s d e)) (part (at + h) (at + h + n) s)) j g t) refl).means;
                  good = l;
                };
                past = λ id w t.
                    (walking-keep id s d e at prev (walking d e id w) f read i h n k (length (pool_strings s d e)) refl Keep
                    (judge-keep id (part d e s) (parse_zone (length (pool_strings s d e)) (part (at + h) (at + h + n) s)) j g t) refl).goes;
              }
