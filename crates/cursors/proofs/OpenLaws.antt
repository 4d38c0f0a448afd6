-- The first interval of a zone. Assumes nothing.
use Rattle.base.specs.declared.Refusal.{Refusal}
use Rattle.std.specs.Prelude.{Err, Ok, Result}
use mathlib.Core.Path.{◌≡◌, refl, sym, ap, ◌∙◌, subst}
use mathlib.Core.List.{List, [], ◌∷◌}
use Prim.Native.Nat.{ℕ, suc, ◌-◌}
use native.Mathlib.Omega.{arith}
use lib.ListN.{length, drop}
use borrow.Author.Tests.{lt-ltb}
use Rattle.base.specs.Parsed.{Parsed, got, bad, many, behind}
use Rattle.base.specs.Moment.{end_of_time}
use Rattle.base.proofs.ParseLaws.{bad-got}
use Rattle.places.specs.Placed.{at, no, Stands}
use Rattle.intervals.specs.declared.Interval.{Interval}
use Rattle.intervals.specs.declared.Scan.{Scan}
use Rattle.intervals.specs.Interval.{parse_interval, start_of}
use Rattle.intervals.specs.Scan.{scan_of}
use Rattle.intervals.proofs.ScanLaws.{last-start}
use Rattle.intervals.proofs.SoundLaws.{list_length}
use Rattle.tails.specs.declared.NamedTail.{NamedTail}
use Rattle.zones.specs.Content.{FixedName, Ending, untailed, tailed, fixed, listed}
use Rattle.zones.specs.Intervals.{Holds}
use Rattle.zones.specs.Parse.{after_intervals, parse_zone}
use Rattle.zones.specs.Lookup.{fixed_name_of, holding, in_list, in_body}
use Rattle.zones.specs.Sound.{BodyOk}
use Rattle.zones.specs.View.{FrontOf, EndOf}
use Rattle.zones.specs.declared.ZoneFront.{ZoneFront}
use Rattle.zones.specs.declared.ZoneFront.TheVariants.{Listed}
use Rattle.zones.specs.declared.ZoneEnd.{ZoneEnd}
use Rattle.zones.specs.declared.ZoneEnd.TheVariants.{Untailed, Tailed, Refused as EndRefused}
use Rattle.zones.proofs.ReadLaws.{listed-front}
use Rattle.zones.proofs.SoundLaws.{zone-sound}
use Rattle.lookups.proofs.WalkLaws.{Scanned, scan-bad, scan-got}
use Rattle.cursors.specs.declared.Cursor.{Cursor}
use Rattle.cursors.specs.Cursors.{found_in, read_of, Onward, ListAt, next_start, in-list, Points, IntervalsAt, FirstAt, OpenedAs}
use Rattle.cursors.proofs.StepLaws.{FirstOf, first-of}

module _ (pool : ℕ) (s : List ℕ) where
  pub opened-bad : (k : Refusal) → parse_zone pool s ≡ bad k → OpenedAs pool s (Err k)
  opened-bad k e = record { to = e }

  pub opened-at : (ending : ZoneEnd) (c : Cursor) (m : ℕ) → m ≡ 0 → Points pool s ending c × Holds c.held m → OpenedAs pool s (Ok (c, ending))
  opened-at ending c m z h = record { to = (h.0, omega (arith, h.1.from)) }

  -- by what was given
  module _ (r : Result (Cursor × ZoneEnd) Refusal) (h : OpenedAs pool s r) where
    pub refused-is : (k : Refusal) → r ≡ Err k → parse_zone pool s ≡ bad k
    refused-is k e = (subst (OpenedAs pool s) e h).to

    pub cursor-is : (c : Cursor) (ending : ZoneEnd) → r ≡ Ok (c, ending) → Points pool s ending c × (c.held.start ≡ 0)
    cursor-is c ending e = (subst (OpenedAs pool s) e h).to

  -- a fixed zone is one interval, all of time
  module _ (id offset n : ℕ) (e : (m : FixedName) × (parse_zone pool s ≡ got (record { id = id; body = fixed offset m }) []) × (n ≡ fixed_name_of id m)) where
    abbrev only : Interval
    only = record { start = 0; name = n; wall = offset; savings = 86400000 }

    only-onward : Onward pool s only [] end_of_time untailed
    unfolding found_in in_body in_list holding
    only-onward = record {
      id = id;
      on = λ t f h. rw (e.1, lt-ltb t end_of_time (omega (arith, f.high)), ← e.2);
      first = omega arith;
      rising = tt;
      end-ok = refl;
    }

    pub opened-fixed : (i : Interval) (place : ℕ)
        → OpenedAs pool s (Ok (record { held = record { wall = offset; savings = 86400000; name = n; start = 0; end = end_of_time }; left = 0; next = i; place = place }, Untailed))
    unfolding next_start
    opened-fixed i place = record {
      to = (
        record {
          whole = record { zone = record { id = id; body = fixed offset e.0 }; is = e.1 };
          position = in-list only [] end_of_time untailed (record { onward = only-onward; held-is = refl; count = refl; next-is = tt; ending-is = refl });
        },
        refl,
      );
    }

  -- a zone with intervals
  pub intervals-at : (h : Parsed ℕ) (r : ZoneFront) → FrontOf pool s (parse_zone pool s) h r → (id n a : ℕ) → r ≡ Listed id n a → IntervalsAt pool s n a
  intervals-at h r f id n a e =
      let k = listed-front pool s (parse_zone pool s) h r f id n a e in
      record { id = id; goes = k.0; inside = k.1; some = k.2 }

  module _ (n place : ℕ) (f : IntervalsAt pool s n place) where
    abbrev intervals : Parsed (List Interval)
    intervals = many (parse_interval pool) start_of n end_of_time (drop place s)

    pub listed-bad : (k : Refusal) → Stands s (scan_of 0 intervals) (no k) → OpenedAs pool s (Err k)
    listed-bad k h = opened-bad k (f.goes ∙ scan-bad 0 s intervals (after_intervals pool f.id) k h)

    module _ (c : Scan) (e : ℕ) (h : Stands s (scan_of 0 intervals) (at c e)) where
      abbrev read : Scanned 0 s intervals (after_intervals pool f.id) c e
      read = scan-got 0 s intervals (after_intervals pool f.id) c e h

      last : c.last ≡ behind start_of end_of_time read.list
      last = ap (λ (x : Scan). x.last) read.scans ∙ last-start 0 read.list

      pub end_refused : (k : Refusal) → EndOf (λ id is. after_intervals pool id is (drop e s)) c.last (EndRefused k) → OpenedAs pool s (Err k)
      end_refused k g = opened-bad k (f.goes ∙ read.goes ∙ g.means f.id read.list last)

      first-at : (end : ℕ) (b : Ending) → parse_zone pool s ≡ got (record { id = f.id; body = listed read.list end b }) [] → (r : ZoneEnd) → r ≡ read_of b
          → FirstAt pool s n place r
      first-at end b z r q = record {
        id = f.id;
        list = read.list;
        end = end;
        behind = b;
        rest = drop e s;
        read = read.read;
        inside = f.inside;
        some = f.some;
        zone-is = z;
        ending-is = q;
      }

      pub end-untailed : (r : ZoneEnd) → EndOf (λ id is. after_intervals pool id is (drop e s)) c.last r → r ≡ Untailed → FirstAt pool s n place r
      end-untailed r g q = first-at end_of_time untailed (f.goes ∙ read.goes ∙ (subst (EndOf (λ id is. after_intervals pool id is (drop e s)) c.last) q g).means f.id read.list last) r q

      pub end-tailed : (r : ZoneEnd) → EndOf (λ id is. after_intervals pool id is (drop e s)) c.last r → (m : NamedTail) → r ≡ Tailed m → FirstAt pool s n place r
      end-tailed r g m q =
          let k = (subst (EndOf (λ id is. after_intervals pool id is (drop e s)) c.last) q g).means f.id read.list last in
          first-at k.0 (tailed m) (f.goes ∙ read.goes ∙ k.1) r q

  -- the first of the intervals
  module _ (n place : ℕ) (ending : ZoneEnd) (a : FirstAt pool s n place ending) where
    ok : BodyOk pool (listed a.list a.end a.behind)
    ok = (zone-sound pool s _ _ a.zone-is).0.body_ok

    split : n ≡ suc (n - 1)
    split = omega (arith, a.some)

    first : FirstOf pool end_of_time (n - 1) (drop place s) a.list a.rest
    first = first-of pool end_of_time (n - 1) (drop place s) a.list a.rest (ap (λ (m : ℕ). many (parse_interval pool) start_of m end_of_time (drop place s)) (sym split) ∙ a.read)

    pub first-none : {G : Type 0} (k : Refusal) → Stands s (parse_interval pool end_of_time (drop place s)) (no k) → G
    first-none k h = bad-got (sym h.means ∙ first.is)

    module _ (i : Interval) (e : ℕ) (h : Stands s (parse_interval pool end_of_time (drop place s)) (at i e)) where
      i-is : first.one ≡ i
      i-is = let p : got first.one first.after ≡ got i (drop e s) = sym first.is ∙ h.means in cc

      after_is : first.after ≡ drop e s
      after_is = let p : got first.one first.after ≡ got i (drop e s) = sym first.is ∙ h.means in cc

      list-is : a.list ≡ i ∷ first.more
      list-is = sym first.list-is ∙ ap (λ (y : Interval). y ∷ first.more) i-is

      ok-list : BodyOk pool (listed (i ∷ first.more) a.end a.behind)
      ok-list = subst (λ (is : List Interval). BodyOk pool (listed is a.end a.behind)) list-is ok

      zone-is : parse_zone pool s ≡ got (record { id = a.id; body = listed (i ∷ first.more) a.end a.behind }) []
      zone-is = a.zone-is ∙ ap (λ (is : List Interval). got (record { id = a.id; body = listed is a.end a.behind }) []) list-is

      pub first-start : i.start ≡ 0
      first-start = ok-list.0.0

      first_reads : many (parse_interval pool) start_of (n - 1) i.start (drop e s) ≡ got first.more a.rest
      first_reads =
          subst (λ (q : List ℕ). many (parse_interval pool) start_of (n - 1) i.start q ≡ got first.more a.rest) after_is
          (subst (λ (y : Interval). many (parse_interval pool) start_of (n - 1) y.start first.after ≡ got first.more a.rest) i-is first.reads)

      more-length : length first.more ≡ n - 1
      more-length = list_length pool (n - 1) i.start (drop e s) first.more a.rest first_reads

      pub first-list : ListAt pool s i (n - 1) e ending
      unfolding found_in
      first-list = record {
        list = first.more;
        end = a.end;
        behind = a.behind;
        onward = record {
          id = a.id;
          on = λ t f l. rw zone-is;
          first = omega (arith, first-start);
          rising = ok-list.0.2;
          end-ok = ok-list.1;
        };
        count = sym more-length;
        stand = record { rest = a.rest; read = rw more-length first_reads; inside = h.within };
        ending-is = a.ending-is;
        whole = record { zone = record { id = a.id; body = listed (i ∷ first.more) a.end a.behind }; is = zone-is };
      }
