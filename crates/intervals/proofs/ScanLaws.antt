-- What a scan of the intervals keeps, and what that says of the interval that holds the instant. Assumes nothing.
use Rattle.base.specs.declared.Refusal.{Refusal}
use mathlib.Core.Path.{◌≡◌, refl, sym, ap, ◌∙◌}
use mathlib.Core.List.{List, [], ◌∷◌, ◌++◌}
use Prim.Native.Nat.{ℕ, ◌-◌, ◌≤◌, ◌<◌}
use lib.Dec.{ltb}
use lib.ListN.{length, drop}
use borrow.Author.Tests.{lt-ltb, le-ltb}
use Rattle.base.specs.Parsed.{Parsed, got, many, behind}
use Rattle.base.specs.Moment.{end_of_time}
use Rattle.base.proofs.Tests.{pick-holds}
use Rattle.base.proofs.ManyLaws.{Going, going_start, going-bad, going_next, going_done}
use Rattle.places.specs.Placed.{at, no, Stands}
use Rattle.intervals.specs.declared.Interval.{Interval}
use Rattle.intervals.specs.declared.Scan.{Scan}
use Rattle.intervals.specs.Interval.{start_of, parse_interval}
use Rattle.intervals.specs.Scan.{advance, scan_from, unscanned, scanned, scan_of}

-- one interval more
pub scan-snoc : (t : ℕ) (c : Scan) (pre : List Interval) (i : Interval) → scan_from t c (pre ++ (i ∷ [])) ≡ advance t (scan_from t c pre) i
unfolding scan_from
scan-snoc t c [] i = refl
scan-snoc t c (j ∷ pre) i = scan-snoc t (advance t c j) pre i

pub scanned-snoc : (t : ℕ) (pre : List Interval) (i : Interval) → scanned t (pre ++ (i ∷ [])) ≡ advance t (scanned t pre) i
unfolding scanned
scanned-snoc t pre i = scan-snoc t unscanned pre i

-- the three ways of a step
module _ (t : ℕ) (c : Scan) (i : Interval) where
  pub advance-closed : c.end < end_of_time → advance t c i ≡ record { held = c.held; end = c.end; last = i.start }
  unfolding advance
  advance-closed h = rw (lt-ltb c.end end_of_time h)

  pub advance-next : end_of_time ≤ c.end → t < i.start → advance t c i ≡ record { held = c.held; end = i.start; last = i.start }
  unfolding advance
  advance-next h l = rw (le-ltb c.end end_of_time h, lt-ltb t i.start l)

  pub advance-over : end_of_time ≤ c.end → i.start ≤ t → advance t c i ≡ record { held = i; end = end_of_time; last = i.start }
  unfolding advance
  advance-over h l = rw (le-ltb c.end end_of_time h, le-ltb t i.start l)

pub advance-last : (t : ℕ) (c : Scan) (i : Interval) → (advance t c i).last ≡ i.start
unfolding advance
advance-last t c i =
    pick-holds (λ (x : Scan). x.last ≡ i.start) (ltb c.end end_of_time) (λ _. refl)
    (λ _. pick-holds (λ (x : Scan). x.last ≡ i.start) (ltb t i.start) (λ _. refl) (λ _. refl))

scan-last : (t : ℕ) (c : Scan) (is : List Interval) → (scan_from t c is).last ≡ behind start_of c.last is
unfolding scan_from behind
scan-last t c [] = refl
scan-last t c (i ∷ is) = scan-last t (advance t c i) is ∙ ap (λ (m : ℕ). behind start_of m is) (advance-last t c i)

-- the last start is the state behind the intervals
pub last-start : (t : ℕ) (is : List Interval) → (scanned t is).last ≡ behind start_of end_of_time is
unfolding scanned
last-start t is = scan-last t unscanned is

-- Where the loop over the intervals stands: `left` of n are still to be read, from `place` on, and c is kept of those before.
abbrev kept : ℕ → List Interval → List ℕ → Parsed Scan
kept t is r = got (scanned t is) r

module _ (pool t : ℕ) (s : List ℕ) (from n : ℕ) where
  abbrev whole : Parsed Scan
  whole = scan_of t (many (parse_interval pool) start_of n end_of_time (drop from s))

  pub record Scanning (left place : ℕ) (c : Scan) : Type 0 where
    pub pre : List Interval
    pub going : Going (parse_interval pool) start_of whole (kept t) s end_of_time n left place c.last pre
    pub scans : c ≡ scanned t pre

  pub scanning-start : from ≤ length s → Scanning n from unscanned
  unfolding scanned scan_from scan_of
  scanning-start h = record { pre = []; going = going_start _ _ _ _ s _ n from h refl; scans = refl }

  module _ (left place : ℕ) (c : Scan) (g : Scanning left place c) where
    pub scanning-in : place ≤ length s
    scanning-in = g.going.place

    module _ (h : 0 < left) where
      pub scanning-bad : (k : Refusal) → Stands s (parse_interval pool c.last (drop place s)) (no k) → Stands s whole (no k)
      scanning-bad k b = record { means = going-bad _ _ _ _ s _ n left place c.last g.pre k g.going h b.means; within = tt }

      pub scanning-next : (i : Interval) (e : ℕ) → Stands s (parse_interval pool c.last (drop place s)) (at i e)
          → Scanning (left - 1) e (advance t c i)
      scanning-next i e b = record {
        pre = g.pre ++ (i ∷ []);
        going = rw (advance-last t c i) (going_next _ _ _ _ s _ n left place c.last g.pre i e g.going h b.means b.within);
        scans = rw g.scans (sym (scanned-snoc t g.pre i));
      }

    pub scanning-done : left ≡ 0 → Stands s whole (at c place)
    scanning-done h = record {
      means = going_done _ _ _ _ s _ n left place c.last g.pre g.going h ∙ ap (λ (x : Scan). got x (drop place s)) (sym g.scans);
      within = g.going.place;
    }
