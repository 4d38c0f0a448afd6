-- Where the loop over the intervals stands, and how it goes on. Assumes nothing.
use Rattle.base.specs.declared.Refusal.{Refusal}
use mathlib.Core.Path.{◌≡◌, refl, sym, ap, ◌∙◌}
use mathlib.Core.List.{List, [], ◌∷◌, ◌++◌}
use Prim.Native.Nat.{ℕ, ◌+◌, ◌-◌, ◌≤◌, ◌<◌}
use native.Mathlib.Omega.{arith}
use lib.ListN.{length, drop}
use Rattle.base.specs.Parsed.{Parsed, got, bad, bind, many, behind}
use Rattle.base.specs.Moment.{end_of_time}
use Rattle.base.proofs.ParseLaws.{bad-got}
use Rattle.base.proofs.ManyLaws.{Going, going_start, going-bad, going_next, going_done}
use Rattle.places.specs.Placed.{at, no, Stands}
use Rattle.intervals.specs.declared.Interval.{Interval}
use Rattle.intervals.specs.Interval.{parse_interval, start_of}
use Rattle.intervals.specs.Sound.{Rising, ListOk}
use Rattle.intervals.proofs.SoundLaws.{interval-sound}
use Rattle.local_times.specs.Instants.{candidate}
use Rattle.local_times.specs.View.{advance, scan_from, unscanned, scanned, scan_of}
use Rattle.local_times.proofs.CountLaws.{counted-few}
use Rattle.local_times.specs.declared.LocalScan.{LocalScan}

scan-snoc : (l : ℕ) (c : LocalScan) (pre : List Interval) (i : Interval) → scan_from l c (pre ++ (i ∷ [])) ≡ advance l (scan_from l c pre) i
unfolding scan_from
scan-snoc l c [] i = refl
scan-snoc l c (j ∷ pre) i = scan-snoc l (advance l c j) pre i

module _ (l : ℕ) (c : LocalScan) (i : Interval) where
  pub advance-last : (advance l c i).last ≡ i.start
  unfolding advance
  advance-last = refl

  pub advance-wall : (advance l c i).held.wall ≡ i.wall
  unfolding advance
  advance-wall = refl

  pub advance-few : (advance l c i).tally.count ≤ c.tally.count + 1
  unfolding advance
  advance-few = counted-few c.tally (candidate l c.held.wall c.held.start i.start)

last-from : (l : ℕ) (c : LocalScan) (is : List Interval) → (scan_from l c is).last ≡ behind start_of c.last is
unfolding scan_from behind
last-from l c [] = refl
last-from l c (i ∷ is) = last-from l (advance l c i) is ∙ ap (λ (m : ℕ). behind start_of m is) (advance-last l c i)

pub scan-last : (l : ℕ) (is : List Interval) → (scanned l is).last ≡ behind start_of end_of_time is
unfolding scanned
scan-last l is = last-from l unscanned is

-- an interval has one instant at most
few-from : (l : ℕ) (c : LocalScan) (is : List Interval) → (scan_from l c is).tally.count ≤ c.tally.count + length is
unfolding scan_from
few-from l c [] = omega arith
few-from l c (i ∷ is) = omega (arith, few-from l (advance l c i) is, advance-few l c i)

pub scan-few : (l : ℕ) (is : List Interval) → (scanned l is).tally.count ≤ length is
unfolding scanned
scan-few l is = omega (arith, few-from l unscanned is)

-- the offsets of what is held
wall-from : (pool l prev : ℕ) (c : LocalScan) (is : List Interval) → Rising pool prev is → c.held.wall ≤ 172799999 → (scan_from l c is).held.wall ≤ 172799999
unfolding scan_from
wall-from pool l prev c [] h k = k
wall-from pool l prev c (i ∷ is) h k = wall-from pool l i.start (advance l c i) is h.1 (omega (arith, advance-wall l c i, h.0.ranged.wall-high))

pub scan-wall : (pool l : ℕ) (is : List Interval) → ListOk pool is → (scanned l is).held.wall ≤ 172799999
unfolding scanned scan_from
scan-wall pool l [] h = absurd h
scan-wall pool l (i ∷ is) h = wall-from pool l i.start (advance l unscanned i) is h.2 (omega (arith, advance-wall l unscanned i, h.1.wall-high))

abbrev scans-to : ℕ → List Interval → List ℕ → Parsed LocalScan
scans-to l is r = got (scanned l is) r

module _ (pool l : ℕ) (s : List ℕ) (from n : ℕ) where
  abbrev whole : Parsed LocalScan
  whole = scan_of l (many (parse_interval pool) start_of n end_of_time (drop from s))

  -- where the loop stands
  pub record Scanning (left place : ℕ) (c : LocalScan) : Type 0 where
    pub pre : List Interval
    pub going : Going (parse_interval pool) start_of whole (scans-to l) s end_of_time n left place c.last pre
    pub scans : c ≡ scanned l pre
    pub wall : c.held.wall ≤ 172799999

  pub scanning-start : from ≤ length s → Scanning n from unscanned
  unfolding scanned scan_from scan_of
  scanning-start h = record { pre = []; going = going_start _ _ _ _ s _ n from h refl; scans = refl; wall = omega arith }

  module _ (left place : ℕ) (c : LocalScan) (g : Scanning left place c) where
    pub scanning-in : place ≤ length s
    scanning-in = g.going.place

    module _ (h : 0 < left) where
      pub scanning-bad : (k : Refusal) → Stands s (parse_interval pool c.last (drop place s)) (no k) → Stands s whole (no k)
      scanning-bad k b = record { means = going-bad _ _ _ _ s _ n left place c.last g.pre k g.going h b.means; within = tt }

      pub scanning-next : (i : Interval) (e : ℕ) → Stands s (parse_interval pool c.last (drop place s)) (at i e) → Scanning (left - 1) e (advance l c i)
      unfolding scanned
      scanning-next i e b = record {
        pre = g.pre ++ (i ∷ []);
        going = rw (advance-last l c i) (going_next _ _ _ _ s _ n left place c.last g.pre i e g.going h b.means b.within);
        scans = ap (λ (x : LocalScan). advance l x i) g.scans ∙ sym (scan-snoc l unscanned g.pre i);
        wall = rw (advance-wall l c i) (interval-sound pool c.last (drop place s) i (drop e s) b.means).ranged.wall-high;
      }

    pub scanning-few : c.tally.count + left ≤ n
    scanning-few = omega (arith, g.going.count, ap (λ (x : LocalScan). x.tally.count) g.scans, scan-few l g.pre)

    pub scanning-done : left ≡ 0 → Stands s whole (at c place)
    scanning-done h = record {
      means = going_done _ _ _ _ s _ n left place c.last g.pre g.going h ∙ ap (λ (x : LocalScan). got x (drop place s)) (sym g.scans);
      within = g.going.place;
    }

-- what follows the intervals, from what was scanned of them
module _ (l : ℕ) (s : List ℕ) (p : Parsed (List Interval)) where
  pub scan-bad : {A : Type 0} (f : List Interval → List ℕ → Parsed A) (k : Refusal) → Stands s (scan_of l p) (no k) → bind p f ≡ bad k
  unfolding scan_of
  scan-bad f k h = go p h.means
    where
      go : (q : Parsed (List Interval)) → bind q (λ is r. got (scanned l is) r) ≡ bad k → bind q f ≡ bad k
      go (got is r) e = bad-got (sym e)
      go (bad n) e = let x : n ≡ k = cc in ap bad x

  pub record ScannedIs (c : LocalScan) (e : ℕ) : Type 0 where
    pub list : List Interval
    pub read : p ≡ got list (drop e s)
    pub scans : c ≡ scanned l list

  pub scan-got : (c : LocalScan) (e : ℕ) → Stands s (scan_of l p) (at c e) → ScannedIs c e
  unfolding scan_of
  scan-got c e h = go p refl h.means
    where
      go : (q : Parsed (List Interval)) → p ≡ q → bind q (λ is r. got (scanned l is) r) ≡ got c (drop e s) → ScannedIs c e
      go (got is r) o k =
          let x : scanned l is ≡ c = cc in
          let y : r ≡ drop e s = cc in
          record { list = is; read = o ∙ ap (got is) y; scans = sym x }
      go (bad n) o k = bad-got k
