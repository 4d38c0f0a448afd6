-- What a run of intervals leaves to the scan of all of them. Assumes nothing.
use mathlib.Core.Path.{◌≡◌, refl, sym, ap, ◌∙◌}
use mathlib.Core.Bool.{Bool, true, false}
use mathlib.Core.List.{List}
use Prim.Native.Nat.{ℕ, zero, suc, ◌+◌, ◌-◌, ◌≤◌, ◌<◌}
use native.Mathlib.Omega.{arith}
use lib.Dec.{ltb, leb, eqb}
use lib.ListN.{length, drop}
use borrow.Author.Tests.{le-leb, le-ltb, ltb-true, ltb-false, leb-true, eqb-true, eqb-false}
use Rattle.base.specs.Pick.{pick, both}
use Rattle.base.specs.Moment.{Finite, finite, end_of_time, last_instant}
use Rattle.base.proofs.Tests.{by_order, both_left, both_right, pick-holds}
use Rattle.base.proofs.Parts.{Bytes}
use Rattle.base.proofs.MomentLaws.{finite-true}
use Rattle.transitions.specs.Transition.{read_moment}
use Rattle.places.specs.Placed.{at, Stands}
use Rattle.places.specs.Short.{two_bytes, instant_after, short_at, Short}
use Rattle.places.proofs.ShortLaws.{reads, hours-are, details-mean}
use Rattle.places.specs.Long.{start_size}
use Rattle.places.proofs.LongLaws.{size-least}
use Rattle.pieces.specs.Form.{code_preferred}
use Rattle.pieces.proofs.CodeLaws.{both_true, short-preferred}
use Rattle.intervals.specs.declared.Interval.{Interval}
use Rattle.intervals.specs.declared.Scan.{Scan}
use Rattle.intervals.specs.Interval.{parse_interval}
use Rattle.intervals.specs.Scan.{advance}
use Rattle.intervals.specs.Short.{short_interval, short_start}
use Rattle.intervals.proofs.ScanLaws.{advance-closed, advance-over, advance-last, Scanning, scanning-next}
use Rattle.intervals.proofs.ShortLaws.{interval-at, start-means, start-code}
use Rattle.intervals.proofs.FormLaws.{Forming, forming-next}
use Rattle.interval_runs.specs.declared.Run.{Run}
use Rattle.interval_runs.specs.Run.{step_of, next_of, behind, goes_on, run_at, run_from, run_of, stop_of}
use Rattle.interval_runs.proofs.StepLaws.{two-bytes-most, Stepped, stepped, next-two, next-long, long-stepped}

-- behind an instant, a step to an instant is the start of an interval of five bytes
step_start : (s : List ℕ) (pool place prev m : ℕ) → Bytes s → Finite prev → place + 5 ≤ length s → Stepped s pool place prev m → m ≤ last_instant
    → m ≡ short_start s pool place 2 prev
unfolding short_start short_at instant_after
step_start s pool place prev m h f w x l =
    let y = x.sum in
    rw (x.ok, le-leb (place + 2 + 3) (length s) (omega arith), x.details)
    (y ∙ hours-are prev (two_bytes s place) x.two (two-bytes-most s place h) f.low f.high (omega arith))

-- an interval stands where a step was taken, and its start is in the writer's form where that is asked
module _ (s : List ℕ) (pool : ℕ) (form : Bool) (place prev m : ℕ) (h : Bytes s) (f : Finite prev) (w : behind s place ≤ length s)
    (e : m ≡ next_of s pool form place prev) (z : m ≡ 0 → ⊥) (l : m ≤ last_instant) where
  record Taken (n : ℕ) : Type 0 where
    stands : Stands s (parse_interval pool prev (drop place s)) (at (short_interval s (place + n) m) (place + (n + 3)))
    after : prev ≤ m
    kept : form ≡ both form (code_preferred prev (drop place s))

  taken-two : start_size s place ≡ 2 → Taken 2
  taken-two k =
      let x = stepped s pool place prev m (e ∙ next-two s pool form place prev k) z in
      let o = step_start s pool place prev m h f (omega arith) x l in
      let c = start-code s pool place 2 prev m o z in
      let y = short-preferred prev s place m (place + 2) (omega arith) c.within c.means h (omega arith) in
      record { stands = start-means s pool place 2 prev m o z; after = omega (arith, x.sum); kept = both_true form ∙ ap (both form) (sym y) }

  taken-long : (n : ℕ) → n ≡ start_size s place → (n ≡ 2 → ⊥) → Taken n
  taken-long n k t =
      let x = long-stepped s pool form place n prev m (e ∙ next-long s pool form place prev n k t) z in
      let p : 0 < m = omega arith in
      let i : Short s place n prev m = record {
        previous = f;
        rises = x.later.rises p;
        instant = x.later.instant p;
        moment = reads (read_moment prev) s place m n (x.later.moment p) (omega arith);
        details = details-mean s (place + n) true (omega arith) (sym x.details) refl;
      } in
      record { stands = interval-at s pool place n prev m i x.ok; after = omega (arith, x.later.rises p); kept = x.form-kept }

  taken : Taken (start_size s place)
  taken = go (eqb (start_size s place) 2) refl
    where
      go : (t : Bool) → eqb (start_size s place) 2 ≡ t → Taken (start_size s place)
      go true q = let k : start_size s place ≡ 2 = eqb-true (start_size s place) 2 q in rw k (taken-two k)
      go false q = taken-long (start_size s place) refl (eqb-false (start_size s place) 2 q)

pub stop-high : (end t : ℕ) → stop_of end t ≤ last_instant
unfolding stop_of
stop-high end t =
    pick-holds (λ (x : ℕ). x ≤ last_instant) (ltb end end_of_time) (λ _. omega arith)
    (λ _. pick-holds (λ (x : ℕ). x ≤ last_instant) (ltb last_instant t) (λ _. omega arith) (λ e. ltb-false last_instant t e))

pub stop-open : (end t : ℕ) → end_of_time ≤ end → stop_of end t ≤ t
unfolding stop_of
stop-open end t h =
    rw (le-ltb end end_of_time h)
    (pick-holds (λ (x : ℕ). x ≤ t) (ltb last_instant t) (λ e. omega (arith, ltb-true last_instant t e)) (λ _. omega arith))

-- what two intervals leave, the last alone leaves, where the instant's is known or both start by it
advance-twice : (t : ℕ) (c : Scan) (j i : Interval) → (end_of_time ≤ c.end → j.start ≤ t) → (end_of_time ≤ c.end → i.start ≤ t)
    → advance t (advance t c j) i ≡ advance t c i
advance-twice t c j i f g =
    by_order c.end end_of_time
    (λ h. rw (advance-closed t c j h) (advance-closed t _ i h ∙ sym (advance-closed t c i h)))
    (λ h. rw (advance-over t c j h (f h)) (advance-over t _ i (omega arith) (g h) ∙ sym (advance-over t c i h (g h))))

still_open : (t : ℕ) (c : Scan) (i : Interval) → end_of_time ≤ (advance t c i).end → end_of_time ≤ c.end
still_open t c i h = by_order c.end end_of_time (λ l. absurd (omega (arith, rw (advance-closed t c i l) at h))) (λ l. l)

module _ (pool t : ℕ) (s : List ℕ) (from n : ℕ) (b form : Bool) (h : Bytes s) (stop : ℕ) (top : stop ≤ last_instant) where
  -- where it took an interval, the scan and the form are those of its last one alone
  pub record Ran (left place last : ℕ) (c : Scan) (r : Run) : Type 0 where
    pub order : place ≤ r.place
    pub same_left : r.place ≡ place → r.left ≡ left
    pub same-last : r.place ≡ place → r.last ≡ last
    pub fewer : place < r.place → r.left < left
    pub room : place < r.place → place + 5 ≤ r.place
    pub bound : place < r.place → r.last ≤ stop
    pub scans : place < r.place → Scanning pool t s from n r.left r.place (advance t c (short_interval s (r.place - 3) r.last))
    pub forms : place < r.place
        → Forming pool t s from n b r.left r.place (advance t c (short_interval s (r.place - 3) r.last)) form

  ran-none : (left place last : ℕ) (c : Scan) → Ran left place last c (run_at left place last)
  ran-none left place last c = record {
    order = omega arith;
    same_left = λ _. refl;
    same-last = λ _. refl;
    fewer = λ l. absurd (omega arith);
    room = λ l. absurd (omega arith);
    bound = λ l. absurd (omega arith);
    scans = λ l. absurd (omega arith);
    forms = λ l. absurd (omega arith);
  }

  -- one interval in front of a run
  module _ (k place last m size : ℕ) (c : Scan) (two : 2 ≤ size) (y : end_of_time ≤ c.end → stop ≤ t) (l : m ≤ stop)
      (a : Scanning pool t s from n k (place + (size + 3)) (advance t c (short_interval s (place + size) m)))
      (d : Forming pool t s from n b k (place + (size + 3)) (advance t c (short_interval s (place + size) m)) form)
      (r : Run) (i : Ran k (place + (size + 3)) m (advance t c (short_interval s (place + size) m)) r) where
    -- it is the last, or it leaves nothing
    shown : (P : ℕ → ℕ → Scan → Type 0) → P k (place + (size + 3)) (advance t c (short_interval s (place + size) m))
        → (place + (size + 3) < r.place → P r.left r.place (advance t (advance t c (short_interval s (place + size) m)) (short_interval s (r.place - 3) r.last)))
        → P r.left r.place (advance t c (short_interval s (r.place - 3) r.last))
    shown P p q =
        by_order (place + (size + 3)) r.place
        (λ o. rw (advance-twice t c (short_interval s (place + size) m) (short_interval s (r.place - 3) r.last) (λ e. omega (arith, y e)) (λ e. omega (arith, y e, i.bound o))) at (q o))
        (λ o.
        let e : r.place ≡ place + (size + 3) = omega (arith, i.order) in
        let g : place + (size + 3) - 3 ≡ place + size = omega arith in
        rw (i.same_left e, i.same-last e, e, g) p)

    ran-next : Ran (suc k) place last c r
    ran-next =
        let o = i.order in
        record {
          order = omega arith;
          same_left = λ e. absurd (omega arith);
          same-last = λ e. absurd (omega arith);
          fewer = λ _. by_order (place + (size + 3)) r.place (λ g. omega (arith, i.fewer g)) (λ g. omega (arith, i.same_left (omega arith)));
          room = λ _. omega arith;
          bound = λ _. by_order (place + (size + 3)) r.place (λ g. i.bound g) (λ g. omega (arith, i.same-last (omega arith)));
          scans = λ _. shown (λ x p e. Scanning pool t s from n x p e) a i.scans;
          forms = λ _. shown (λ x p e. Forming pool t s from n b x p e form) d i.forms;
        }

  run-goes : (left place last : ℕ) (c : Scan) → c.last ≡ last → Finite last → (end_of_time ≤ c.end → stop ≤ t)
      → Scanning pool t s from n left place c → Forming pool t s from n b left place c form
      → Ran left place last c (run_from s pool form stop left place last)
  unfolding run_from
  run-goes zero place last c e f y a d = ran-none zero place last c
  run-goes (suc k) place last c e f y a d =
      go (λ c f. run-goes k (behind s place) (next_of s pool form place last) c f) (goes_on s pool form stop place last) refl
    where
      m : ℕ
      m = next_of s pool form place last

      i : Interval
      i = short_interval s (place + start_size s place) m

      one : suc k - 1 ≡ k
      one = omega arith

      go : ((c1 : Scan) → c1.last ≡ m → Finite m → (end_of_time ≤ c1.end → stop ≤ t) → Scanning pool t s from n k (behind s place) c1
          → Forming pool t s from n b k (behind s place) c1 form → Ran k (behind s place) m c1 (run_from s pool form stop k (behind s place) m))
          → (u : Bool) → goes_on s pool form stop place last ≡ u
          → Ran (suc k) place last c (pick u (run_from s pool form stop k (behind s place) m) (run_at (suc k) place last))
      go later false q = ran-none (suc k) place last c
      go later true q =
          let w = leb-true (behind s place) (length s) (both_left (leb (behind s place) (length s)) _ q) in
          let v = both_right (leb (behind s place) (length s)) _ q in
          let p = ltb-true 0 m (both_left (ltb 0 m) _ v) in
          let l = leb-true m stop (both_right (ltb 0 m) _ v) in
          let x = taken s pool form place last m h f w refl (λ z. omega arith) (omega arith) in
          let o : Stands s (parse_interval pool c.last (drop place s)) (at i (behind s place)) = rw e x.stands in
          let u : form ≡ both form (code_preferred c.last (drop place s)) = rw e x.kept in
          let a1 = rw one at (scanning-next pool t s from n (suc k) place c a (omega arith) i (behind s place) o) in
          let d1 = rw one at (forming-next pool t s from n b (suc k) place c form d i (behind s place) form (omega arith) o u) in
          let f1 : Finite m = record { low = omega (arith, f.low, x.after); high = omega arith } in
          let y1 : end_of_time ≤ (advance t c i).end → stop ≤ t = λ g. y (still_open t c i g) in
          let r1 = later (advance t c i) (advance-last t c i) f1 y1 a1 d1 in
          ran-next k place last m (start_size s place) c (size-least s place) y l a1 d1 _ r1

  -- A RUN, where the loop over the intervals stands at it: the interval that holds t is known, or no later start than t is taken
  pub run_ran : (left place : ℕ) (c : Scan) (r : Run) → (end_of_time ≤ c.end → stop ≤ t) → Scanning pool t s from n left place c
      → Forming pool t s from n b left place c form → r ≡ run_of s pool form stop left place c.last → Ran left place c.last c r
  unfolding run_of
  run_ran left place c r y a d e = rw e (go (finite c.last) refl)
    where
      go : (u : Bool) → finite c.last ≡ u
          → Ran left place c.last c (pick u (run_from s pool form stop left place c.last) (run_at left place c.last))
      go true q = run-goes left place c.last c refl (finite-true c.last q) y a d
      go false q = ran-none left place c.last c

-- A STEP to an instant is an interval of five bytes
pub step-means : (s : List ℕ) (pool place prev m : ℕ) → Bytes s → Finite prev → place + 5 ≤ length s → m ≡ step_of s pool place prev → (m ≡ 0 → ⊥)
    → m ≤ last_instant → Stands s (parse_interval pool prev (drop place s)) (at (short_interval s (place + 2) m) (place + 5))
step-means s pool place prev m h f w e z l = start-means s pool place 2 prev m (step_start s pool place prev m h f w (stepped s pool place prev m e z) l) z
