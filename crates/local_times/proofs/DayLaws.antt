-- No offset reaches a day, so an interval that ends a day before a local time, or starts a day after it, has no instant that reads so. Assumes nothing.
use mathlib.Core.Path.{◌≡◌, refl, sym, ap, ◌∙◌, subst}
use mathlib.Core.List.{List, [], ◌∷◌, ◌++◌, append-nil}
use Prim.Native.Nat.{ℕ, ◌-◌, ◌*◌, ◌≤◌, ◌<◌}
use native.Mathlib.Omega.{arith}
use lib.Dec.{ltb}
use borrow.Author.Tests.{lt-ltb}
use Rattle.base.specs.Parsed.{behind}
use Rattle.base.specs.Moment.{end_of_time}
use Rattle.base.proofs.Tests.{by_order, pick-holds}
use Rattle.intervals.specs.declared.Interval.{Interval}
use Rattle.intervals.specs.declared.Scan.{Scan}
use Rattle.intervals.specs.Interval.{start_of}
use Rattle.intervals.specs.Scan.{advance, scan_from, unscanned, scanned}
use Rattle.intervals.specs.Sound.{Rising, ListOk}
use Rattle.intervals.proofs.ScanLaws.{advance-closed, advance-next, advance-over}
use Rattle.zones.proofs.PartitionLaws.{behind-start}
use Rattle.local_times.specs.Tally.{tally_of}
use Rattle.local_times.specs.Instants.{candidate, some, in_listing, of_list}
use Rattle.local_times.specs.View.{day_before, of_held, with_last}
use Rattle.local_times.proofs.InstantLaws.{no-candidate}
use Rattle.local_times.proofs.CountLaws.{counted_is}

-- an interval that ends a day before
pub day-before : (l w a e : ℕ) → w ≤ 172799999 → e ≤ day_before l → candidate l w a e ≡ 0
day-before l w a e h k = no-candidate l w a e (λ t f. omega (arith, f.sum, f.to))

-- and one that starts a day after
pub day-after : (l w a e : ℕ) → l < a → candidate l w a e ≡ 0
day-after l w a e h = no-candidate l w a e (λ t f. omega (arith, f.sum, f.from))

-- where an interval ends, behind that, is one
any-end : (l w a e d : ℕ) → l < e → l < d → candidate l w a e ≡ candidate l w a d
unfolding candidate
any-end l w a e d h k = rw (lt-ltb (l - w * 10000) e (omega arith), lt-ltb (l - w * 10000) d (omega arith))

listing-after : (pool l end : ℕ) (i : Interval) (is : List Interval) → Rising pool i.start is → l < i.start → in_listing l end i is ≡ []
unfolding in_listing
listing-after pool l end i [] h k = rw (day-after l i.wall i.start end k)
listing-after pool l end i (j ∷ is) h k =
    rw (day-after l i.wall i.start j.start k) (listing-after pool l end j is h.1 (omega (arith, h.0.rises)))

-- once a start after the instant is met, the scan keeps what it holds
keeps : (t : ℕ) (i : Interval) (m last : ℕ) (is : List Interval) → m < end_of_time
    → ((scan_from t (record { held = i; end = m; last = last }) is).held ≡ i) × ((scan_from t (record { held = i; end = m; last = last }) is).end ≡ m)
unfolding scan_from
keeps t i m last [] h = (refl, refl)
keeps t i m last (j ∷ is) h =
    subst (λ (c : Scan). ((scan_from t c is).held ≡ i) × ((scan_from t c is).end ≡ m)) (sym (advance-closed t (record { held = i; end = m; last = last }) j h))
    (keeps t i m j.start is h)

-- a scan for the instant a day before that meets no start until a day after: what stands from i on, where it comes to c
module _ (pool l end : ℕ) where
  abbrev OneHolds : Interval → List Interval → Scan → Type 0
  OneHolds i is c = l < c.end → in_listing l end i is ≡ some (candidate l c.held.wall c.held.start end)

  one_holds : (i : Interval) (last : ℕ) (is : List Interval) → Rising pool i.start is → i.wall ≤ 172799999 → behind start_of i.start is < end
      → OneHolds i is (scan_from (day_before l) (record { held = i; end = end_of_time; last = last }) is)
  unfolding scan_from in_listing behind
  one_holds i last [] h w b = λ m. refl
  one_holds i last (j ∷ is) h w b =
      let c : Scan = record { held = i; end = end_of_time; last = last } in
      by_order (day_before l) j.start
      (λ (k : day_before l < j.start).
      let x = keeps (day_before l) i j.start j.start is (omega (arith, h.0.finite.high)) in
      subst (λ (d : Scan). OneHolds i (j ∷ is) (scan_from (day_before l) d is)) (sym (advance-next (day_before l) c j (omega arith) k)) (λ m.
      let y : l < j.start = rw x.1 at m in
      rw (x.0, listing-after pool l end j is h.1 y, append-nil (some (candidate l i.wall i.start j.start)))
      (ap some (any-end l i.wall i.start j.start end y (omega (arith, behind-start pool j.start is h.1))))))
      (λ (k : j.start ≤ day_before l).
      subst (λ (d : Scan). OneHolds i (j ∷ is) (scan_from (day_before l) d is)) (sym (advance-over (day_before l) c j (omega arith) k)) (λ m.
      rw (day-before l i.wall i.start j.start w k) (one_holds j j.start is h.1 h.0.ranged.wall-high b m)))

-- WHERE IT MEETS NONE, the interval that it holds has all instants of the list that read as the local time
pub held-counts : (pool l end : ℕ) (is : List Interval) → ListOk pool is → l < (scanned (day_before l) is).end → behind start_of end_of_time is < end
    → with_last l (of_held (scanned (day_before l) is)) end ≡ tally_of (of_list l end is)
unfolding scanned scan_from of_list with_last behind
held-counts pool l end [] h m b = absurd h
held-counts pool l end (i ∷ is) h m b =
    subst (λ (d : Scan). l < (scan_from (day_before l) d is).end → with_last l (of_held (scan_from (day_before l) d is)) end ≡ tally_of (in_listing l end i is))
    (sym (advance-over (day_before l) unscanned i (omega arith) (omega (arith, h.0))))
    (λ m. counted_is _ [] ∙ ap tally_of (sym (one_holds pool l end i i.start is h.2 h.1.wall-high b m))) m

-- the offset of what it holds
held-from : (t : ℕ) (c : Scan) (i : Interval) → c.held.wall ≤ 172799999 → i.wall ≤ 172799999 → (advance t c i).held.wall ≤ 172799999
unfolding advance
held-from t c i h k =
    pick-holds (λ (x : Scan). x.held.wall ≤ 172799999) (ltb c.end end_of_time) (λ _. h)
    (λ _. pick-holds (λ (x : Scan). x.held.wall ≤ 172799999) (ltb t i.start) (λ _. h) (λ _. k))

wall-from : (pool t prev : ℕ) (c : Scan) (is : List Interval) → Rising pool prev is → c.held.wall ≤ 172799999 → (scan_from t c is).held.wall ≤ 172799999
unfolding scan_from
wall-from pool t prev c [] h k = k
wall-from pool t prev c (i ∷ is) h k = wall-from pool t i.start (advance t c i) is h.1 (held-from t c i k h.0.ranged.wall-high)

pub held-wall : (pool t : ℕ) (is : List Interval) → ListOk pool is → (scanned t is).held.wall ≤ 172799999
unfolding scanned scan_from
held-wall pool t [] h = absurd h
held-wall pool t (i ∷ is) h = wall-from pool t i.start (advance t unscanned i) is h.2 (held-from t unscanned i (omega arith) h.1.wall-high)

-- every start is an instant or start of time
starts-from : (pool prev : ℕ) (is : List Interval) → Rising pool prev is → prev < end_of_time → behind start_of prev is < end_of_time
unfolding behind
starts-from pool prev [] h k = k
starts-from pool prev (i ∷ is) h k = starts-from pool i.start is h.1 (omega (arith, h.0.finite.high))

pub starts-end : (pool : ℕ) (is : List Interval) → ListOk pool is → behind start_of end_of_time is < end_of_time
unfolding behind
starts-end pool [] h = absurd h
starts-end pool (i ∷ is) h = starts-from pool i.start is h.2 (omega (arith, h.0))
