-- Each way out of the zone's reader. Assumes nothing.
use Rattle.base.specs.declared.Refusal.{Refusal}
use Rattle.std.specs.Prelude.{Err, Ok}
use mathlib.Core.Path.{◌≡◌, sym, ap, ◌∙◌}
use mathlib.Core.List.{List, []}
use Prim.Native.Nat.{ℕ, ◌+◌, ◌≤◌, ◌<◌}
use native.Mathlib.Omega.{arith}
use lib.ListN.{drop}
use mathlib.Core.List.{append-nil}
use Rattle.base.specs.Parsed.{Parsed, got, bad, bind, many, behind}
use Rattle.base.specs.Moment.{end_of_time}
use Rattle.places.specs.Placed.{at, no, Stands}
use Rattle.recurrence.specs.Tails.{TailOk}
use Rattle.intervals.specs.declared.Interval.{Interval}
use Rattle.intervals.specs.Interval.{parse_interval, start_of}
use Rattle.intervals.specs.declared.Scan.{Scan}
use Rattle.intervals.specs.Scan.{scan_of as scan_held}
use Rattle.intervals.proofs.ScanLaws.{last-start}
use Rattle.intervals.specs.Sound.{ListOk}
use Rattle.intervals.proofs.SoundLaws.{list-sound, list_length}
use Rattle.tails.specs.declared.NamedTail.{NamedTail}
use Rattle.zones.specs.Content.{FixedName, tailed, fixed, listed, Zone}
use Rattle.zones.specs.Lookup.{fixed_name_of}
use Rattle.zones.specs.Parse.{after_intervals, parse_zone}
use Rattle.zones.specs.Sound.{BodyOk}
use Rattle.zones.specs.View.{FrontOf, EndOf}
use Rattle.zones.specs.declared.ZoneFront.{ZoneFront}
use Rattle.zones.specs.declared.ZoneFront.TheVariants.{Listed}
use Rattle.zones.specs.declared.ZoneEnd.TheVariants.{Untailed, Tailed, Refused as EndRefused}
use Rattle.zones.proofs.SoundLaws.{zone-sound}
use Rattle.zones.proofs.ReadLaws.{listed-front}
use Rattle.lookups.proofs.WalkLaws.{scan-bad as unheld, scan-got as held-got}
use Rattle.local_times.specs.Tally.{nothing, tally_of}
use Rattle.local_times.specs.Instants.{candidate, of_list, behind_list, instants_of}
use Rattle.local_times.specs.View.{counted, scan_of, with_last, with_tail, day_before, of_held, IntervalsAt, IntervalsTo, answer_of}
use Rattle.local_times.proofs.CountLaws.{counted_is, last-is, tail-is}
use Rattle.local_times.proofs.DayLaws.{held-counts, held-wall, starts-end}
use Rattle.local_times.proofs.ScanLaws.{scan-last, scan-few, scan-wall, scan-bad, scan-got}
use Rattle.local_times.proofs.WayLaws.{few-more}
use Rattle.local_times.specs.declared.Tally.{Tally}
use Rattle.local_times.specs.declared.LocalScan.{LocalScan}

module _ (pool l : ℕ) (s : List ℕ) where
  abbrev zone : Parsed Zone
  zone = parse_zone pool s

  pub find-bad : (k : Refusal) → zone ≡ bad k → Err k ≡ answer_of l zone
  find-bad k e = rw e

  -- a fixed zone
  module _ (id offset n : ℕ) (e : (m : FixedName) × (zone ≡ got (record { id = id; body = fixed offset m }) []) × (n ≡ fixed_name_of id m)) where
    pub fixed-high : offset ≤ 172799999
    fixed-high = (zone-sound pool s _ _ e.1).0.body_ok.1

    pub find-fixed : (t : ℕ) (r : Tally) → t ≡ candidate l offset 0 end_of_time → r ≡ counted nothing t → Ok r ≡ answer_of l zone
    unfolding instants_of
    find-fixed t r f g = rw e.1 (ap Ok (g ∙ ap (counted nothing) f ∙ counted_is (candidate l offset 0 end_of_time) []))

  -- a zone with intervals
  pub intervals-at : (h : Parsed ℕ) (r : ZoneFront) → FrontOf pool s zone h r → (id n a : ℕ) → r ≡ Listed id n a → IntervalsAt pool s n a
  intervals-at h r f id n a e =
      let k = listed-front pool s zone h r f id n a e in
      record { id = id; goes = k.0; inside = k.1; some = k.2; most = k.3 }

  module _ (n place : ℕ) (f : IntervalsAt pool s n place) where
    abbrev intervals : Parsed (List Interval)
    intervals = many (parse_interval pool) start_of n end_of_time (drop place s)

    pub listed-bad : (k : Refusal) → Stands s (scan_of l intervals) (no k) → Err k ≡ answer_of l zone
    listed-bad k h = find-bad k (f.goes ∙ scan-bad l s intervals (after_intervals pool f.id) k h)

    list-ok : (list : List Interval) (e : ℕ) → intervals ≡ got list (drop e s) → ListOk pool list
    list-ok list e h = list-sound pool n _ list _ (λ z. omega (arith, f.some)) h

    goes : (list : List Interval) (e : ℕ) → intervals ≡ got list (drop e s) → zone ≡ after_intervals pool f.id list (drop e s)
    goes list e h = f.goes ∙ ap (λ (p : Parsed (List Interval)). bind p (after_intervals pool f.id)) h

    -- counted one by one
    pub each-counted : (c : LocalScan) (e : ℕ) → Stands s (scan_of l intervals) (at c e) → IntervalsTo pool l s e c
    each-counted c e h =
        let x = scan-got l s intervals c e h in
        let list = x.list in
        let k = list-ok list e x.read in
        let o : c.last ≡ behind start_of end_of_time list = ap (λ (d : LocalScan). d.last) x.scans ∙ scan-last l list in
        record {
          id = f.id;
          list = list;
          goes = goes list e x.read;
          inside = h.within;
          last = o;
          finite = rw o (starts-end pool list k);
          wall = omega (arith, ap (λ (d : LocalScan). d.held.wall) x.scans, scan-wall pool l list k);
          few = omega (arith, ap (λ (d : LocalScan). d.tally.count) x.scans, scan-few l list, list_length pool n _ _ list _ x.read, f.most);
          counts = λ end _. ap (λ (d : LocalScan). with_last l d end) x.scans ∙ last-is pool l end list k;
        }

    -- scanned for the instant a day before, where no start is met until a day after
    pub held-counted : (t : ℕ) → t ≡ day_before l → (c : Scan) (e : ℕ) → Stands s (scan_held t intervals) (at c e) → l < c.end → IntervalsTo pool l s e (of_held c)
    held-counted t d c e h m =
        let x = held-got (day_before l) s intervals (after_intervals pool f.id) c e (rw d at h) in
        let list = x.list in
        let k = list-ok list e x.read in
        let o : c.last ≡ behind start_of end_of_time list = ap (λ (d : Scan). d.last) x.scans ∙ last-start (day_before l) list in
        record {
          id = f.id;
          list = list;
          goes = goes list e x.read;
          inside = h.within;
          last = o;
          finite = rw o (starts-end pool list k);
          wall = rw x.scans (held-wall pool (day_before l) list k);
          few = omega arith;
          counts = λ end b. ap (λ (d : Scan). with_last l (of_held d) end) x.scans ∙ held-counts pool l end list k (rw x.scans at m) (rw o at b);
        }

    pub held-bad : (t : ℕ) (k : Refusal) → Stands s (scan_held t intervals) (no k) → Err k ≡ answer_of l zone
    held-bad t k h = find-bad k (f.goes ∙ unheld t s intervals (after_intervals pool f.id) k h)

  -- behind the intervals
  module _ (c : LocalScan) (e : ℕ) (h : IntervalsTo pool l s e c) where
    abbrev list : List Interval
    list = h.list

    pub end_refused : (k : Refusal) → EndOf (λ id is. after_intervals pool id is (drop e s)) c.last (EndRefused k) → Err k ≡ answer_of l zone
    end_refused k g = find-bad k (h.goes ∙ g.means h.id list h.last)

    pub end-untailed : EndOf (λ id is. after_intervals pool id is (drop e s)) c.last Untailed → (r : Tally) → r ≡ with_last l c end_of_time
        → Ok r ≡ answer_of l zone
    unfolding instants_of behind_list
    end-untailed g r w =
        rw (h.goes ∙ g.means h.id list h.last)
        (ap Ok (w ∙ h.counts end_of_time h.finite ∙ ap tally_of (sym (append-nil (of_list l end_of_time list)))))

    module _ (m : NamedTail) (g : EndOf (λ id is. after_intervals pool id is (drop e s)) c.last (Tailed m)) where
      abbrev end : ℕ
      end = (g.means h.id list h.last).0

      tailed-is : zone ≡ got (record { id = h.id; body = listed list end (tailed m) }) []
      tailed-is = h.goes ∙ (g.means h.id list h.last).1

      body_ok : BodyOk pool (listed list end (tailed m))
      body_ok = (zone-sound pool s _ _ tailed-is).0.body_ok

      pub end-tail-ok : TailOk m.tail
      end-tail-ok = body_ok.1.2.tail-ok

      pub end-tailed : (a r : Tally) → a ≡ with_last l c m.tail.start → r ≡ with_tail l a m.tail → Ok r ≡ answer_of l zone
      unfolding instants_of behind_list
      end-tailed a r v w =
          rw tailed-is
          (ap Ok (w ∙ ap (λ (x : Tally). with_tail l x m.tail) (v ∙ ap (with_last l c) body_ok.1.2.starts
          ∙ h.counts end (omega (arith, h.last, body_ok.1.0)))
          ∙ tail-is l (of_list l end list) m.tail))

pub with-last-most : (l : ℕ) (c : LocalScan) (end : ℕ) (r : Tally) → r ≡ with_last l c end → r.count ≤ c.tally.count + 1
unfolding with_last
with-last-most l c end r e = few-more c.tally (candidate l c.held.wall c.held.start end) r e
