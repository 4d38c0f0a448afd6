-- Each way out of the zone's reader. Assumes nothing.
use Rattle.base.specs.declared.Refusal.{Refusal}
use Rattle.std.specs.Prelude.{Err, Ok}
use Rattle.base.specs.declared.Refusal.TheVariants.{BadData, BadInterval}
use mathlib.Core.Path.{◌≡◌, refl, sym, ap, ◌∙◌}
use mathlib.Core.Bool.{Bool, true, false}
use mathlib.Core.List.{List, [], ◌∷◌, ◌++◌}
use Prim.Native.Nat.{ℕ, ◌≤◌, ◌<◌}
use native.Mathlib.Omega.{arith}
use lib.Dec.{ltb, eqb}
use lib.IntN.{ℤ}
use lib.ListN.{length, set}
use borrow.Author.Tests.{le-leb, lt-leb}
use Rattle.base.specs.Pick.{pick, both}
use Rattle.base.specs.Parsed.{Parsed, got, bad, parse, parse_byte, behind}
use Rattle.base.specs.Moment.{end_of_time, start_of_time}
use Rattle.base.proofs.Tests.{clash, by_order}
use Rattle.base.proofs.ParseLaws.{bad-got, bind-good, pick_good, ended-good}
use Rattle.transitions.specs.Transition.{read_moment}
use Rattle.signed.specs.Instant.{ticks_of}
use Rattle.intervals.specs.declared.Interval.{Interval}
use Rattle.intervals.specs.Interval.{start_of}
use Rattle.intervals.proofs.SoundLaws.{list_length}
use Rattle.tails.specs.Tail.{parse_tail}
use Rattle.zones.specs.Content.{untailed, tailed, FixedName, Body, fixed, listed, Zone}
use Rattle.zones.specs.Lookup.{verdict_of, fixed_name_of}
use Rattle.zones.specs.Parse.{zone_of, after_tail, parse_tailed, after_tail_byte, after_end, after_intervals, parse_zone}
use Rattle.zones.specs.View.{FrontOf}
use Rattle.zones.specs.declared.ZoneFront.{ZoneFront}
use Rattle.zones.specs.declared.ZoneFront.TheVariants.{Listed}
use Rattle.zones.proofs.ReadLaws.{listed-front}
use Rattle.zone_starts.specs.Starts.{list_starts, starts_of, count_of, table_of, table, Fills}
use Rattle.zone_starts.specs.View.{intervals_at, list_of, over, ListedAt, CheckedAt}
use Rattle.zone_starts.specs.declared.ZoneStarts.TheVariants.{Filled, Short, Refused}
use Rattle.zone_starts.proofs.PutLaws.{starts-length, over-length}

-- filling with some starts
module _ (xs d : List ℤ) where
  pub count_fits : length xs ≤ length d → Filled (length xs) ≡ count_of xs d
  unfolding count_of
  count_fits h = rw (le-leb (length xs) (length d) h) refl

  pub table_fits : length xs ≤ length d → over xs d ≡ table_of xs d
  unfolding table_of over
  table_fits h = rw (le-leb (length xs) (length d) h) refl

  pub count-short : length d < length xs → Short ≡ count_of xs d
  unfolding count_of
  count-short h = rw (lt-leb (length xs) (length d) h) refl

  pub table-short : length d < length xs → d ≡ table_of xs d
  unfolding table_of
  table-short h = rw (lt-leb (length xs) (length d) h) refl

  pub table-length : length (table_of xs d) ≡ length d
  unfolding table_of
  table-length =
      by_order (length d) (length xs)
      (λ (h : length d < length xs). rw (lt-leb (length xs) (length d) h) refl)
      (λ (h : length xs ≤ length d). ap length (sym (table_fits h)) ∙ over-length xs d h)

pub filled-length : (p : Parsed Zone) (d e : List ℤ) → e ≡ table p d → length e ≡ length d
filled-length (got z q) d e f = ap length f ∙ table-length (starts_of z.body) d
filled-length (bad k) d e f = ap length f

-- the intervals read are those of the zone
module _ (pool id : ℕ) (is : List Interval) (z : Zone) (q : List ℕ) where
  zone-starts : (b : Body) (s : List ℕ) → starts_of b ≡ list_starts is → zone_of id b s ≡ got z q → starts_of z.body ≡ list_starts is
  unfolding zone_of
  zone-starts b s h e =
      let k = ended-good (record { id = id; body = b }) z s q e in
      ap (λ (x : Zone). starts_of x.body) (sym k.0) ∙ h

  list-starts : (end : ℕ) (b : ℕ) (s : List ℕ) → after_tail_byte pool id is end b s ≡ got z q → starts_of z.body ≡ list_starts is
  unfolding after_tail_byte parse_tailed after_tail starts_of
  list-starts end b s e = go (eqb b 0) (eqb b 1) e
    where
      go : (t u : Bool)
          → pick t (pick (eqb end end_of_time) (zone_of id (listed is end untailed) s) (bad BadInterval))
          (pick u (pick (both (ltb (behind start_of end_of_time is) end) (ltb end end_of_time)) (parse_tailed pool id is end s) (bad BadInterval)) (bad BadData))
          ≡ got z q
          → starts_of z.body ≡ list_starts is
      go true u k =
          zone-starts (listed is end untailed) s refl (pick_good (eqb end end_of_time) (zone_of id (listed is end untailed) s) BadInterval z q k).1
      go false true k =
          let a = pick_good (both (ltb (behind start_of end_of_time is) end) (ltb end end_of_time)) (parse_tailed pool id is end s) BadInterval z q k in
          let c = bind-good (parse_tail pool end s) (after_tail id is end) z q a.1 in
          zone-starts (listed is end (tailed c.first)) c.rest refl c.on
      go false false k = bad-got k

  after-starts : (s : List ℕ) → after_intervals pool id is s ≡ got z q → starts_of z.body ≡ list_starts is
  unfolding after_intervals after_end
  after-starts s e =
      let f = bind-good (parse (read_moment (behind start_of end_of_time is)) s) (after_end pool id is) z q e in
      let g = bind-good (parse_byte f.rest) (after_tail_byte pool id is f.first) z q f.on in
      list-starts f.first g.first g.rest g.on

module _ (pool : ℕ) (s : List ℕ) (d : List ℤ) where
  abbrev zone : Parsed Zone
  zone = parse_zone pool s

  pub fill-bad : (k : Refusal) → zone ≡ bad k → Fills zone d (Refused k) d
  fill-bad k e = rw e (refl, refl)

  -- a fixed zone
  module _ (id offset n : ℕ) (e : (m : FixedName) × (zone ≡ got (record { id = id; body = fixed offset m }) []) × (n ≡ fixed_name_of id m)) where
    pub fixed-short : length d ≡ 0 → Fills zone d Short d
    unfolding starts_of
    fixed-short h = rw e.1 (count-short (ticks_of start_of_time ∷ []) d (omega arith), table-short (ticks_of start_of_time ∷ []) d (omega arith))

    pub fixed-filled : (length d ≡ 0 → ⊥) → (z : ℤ) → z ≡ ticks_of 0 → Fills zone d (Filled 1) (set d 0 z)
    unfolding starts_of over
    fixed-filled h z f =
        rw e.1 (count_fits (ticks_of start_of_time ∷ []) d (omega arith), rw f (put d h) ∙ table_fits (ticks_of start_of_time ∷ []) d (omega arith))
      where
        put : (l : List ℤ) → (length l ≡ 0 → ⊥) → set l 0 (ticks_of 0) ≡ over (ticks_of start_of_time ∷ []) l
        put [] h = absurd (h refl)
        put (x ∷ l) h = refl

  -- a zone with intervals
  pub listed_at : (h : Parsed ℕ) (r : ZoneFront) → FrontOf pool s zone h r → (id n a : ℕ) → r ≡ Listed id n a → ListedAt pool s n a
  listed_at h r f id n a e = let k = listed-front pool s zone h r f id n a e in record { id = id; goes = k.0; inside = k.1; most = k.3 }

  pub verdict-bad : (k : Refusal) → Err k ≡ verdict_of zone → zone ≡ bad k
  verdict-bad k e = go zone refl e
    where
      go : (p : Parsed Zone) → zone ≡ p → Err k ≡ verdict_of p → zone ≡ bad k
      go (got z q) f g = clash cc
      go (bad n) f g = let x : n ≡ k = cc in f ∙ ap bad x

  module _ (n at : ℕ) (l : ListedAt pool s n at) (i : ℕ) (v : Ok i ≡ verdict_of zone) where
    -- the zone, and its intervals as they are read
    record ReadAs : Type 0 where
      content : Zone
      rest : List ℕ
      is : zone ≡ got content rest
      list : List Interval
      behind-list : List ℕ
      read : intervals_at pool s n at ≡ got list behind-list
      starts : starts_of content.body ≡ list_starts list

    read_as : ReadAs
    read_as = go zone refl v
      where
        go : (p : Parsed Zone) → zone ≡ p → Ok i ≡ verdict_of p → ReadAs
        go (bad k) f g = clash cc
        go (got z q) f g =
            let x = bind-good (intervals_at pool s n at) (after_intervals pool l.id) z q (sym l.goes ∙ f) in
            record {
              content = z;
              rest = q;
              is = f;
              list = x.first;
              behind-list = x.rest;
              read = x.is;
              starts = after-starts pool l.id x.first z q x.rest x.on;
            }

    pub checked-at : CheckedAt pool s n at
    checked-at = record { list = read_as.list; rest = read_as.behind-list; read = read_as.read; inside = l.inside; most = l.most }

    starts-are : list_of pool s n at ≡ starts_of read_as.content.body
    unfolding list_of
    starts-are = rw read_as.read (sym read_as.starts)

    many-starts : length (list_of pool s n at) ≡ n
    unfolding list_of
    many-starts = rw read_as.read (starts-length read_as.list ∙ list_length pool n _ _ read_as.list _ read_as.read)

    pub listed-length : n ≤ length d → (e : List ℤ) → e ≡ over (list_of pool s n at) d → length e ≡ length d
    listed-length h e f = ap length f ∙ over-length (list_of pool s n at) d (omega (arith, many-starts))

    pub listed-short : length d < n → Fills zone d Short d
    listed-short h =
        rw (read_as.is, sym starts-are)
        (count-short (list_of pool s n at) d (omega (arith, many-starts)), table-short (list_of pool s n at) d (omega (arith, many-starts)))

    pub listed-filled : n ≤ length d → (e : List ℤ) → e ≡ over (list_of pool s n at) d → Fills zone d (Filled n) e
    listed-filled h e f =
        rw (read_as.is, sym starts-are) (
          ap Filled (sym many-starts) ∙ count_fits (list_of pool s n at) d (omega (arith, many-starts)),
          f ∙ table_fits (list_of pool s n at) d (omega (arith, many-starts)),
        )
