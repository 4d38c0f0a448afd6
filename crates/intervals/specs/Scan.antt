-- What one walk over the intervals keeps for an instant. The code's way, tied to the zone's intervals by lookups' `answer-is` (proofs/LookupLaws.antt).
use Rattle.base.specs.declared.Refusal.{Refusal}
use Rattle.base.specs.Coded.{Coded}
use Rattle.std.specs.Prelude.{ℕ, suc, ◌≡◌, Bool, List, [], ◌∷◌, ltb, drop, Err, Ok, Result}
use Rattle.base.specs.Pick.{pick, both}
use Rattle.base.specs.Parsed.{Parsed, got, bind}
use Rattle.base.specs.Moment.{end_of_time}
use Rattle.places.specs.Placed.{Placed, at, no}
use Rattle.pieces.specs.Form.{pieces_preferred}
use Rattle.intervals.specs.declared.Interval.{Interval}
use Rattle.intervals.specs.declared.Scan.{Scan}

abbrev pub of_interval : Coded Interval → Placed Interval
of_interval (Ok (i, e)) = at i e
of_interval (Err n) = no n

abbrev pub of_scan : Result (Scan × ℕ × Bool) Refusal → Placed Scan
of_scan (Ok (c, e, b)) = at c e
of_scan (Err n) = no n

-- What one walk over the intervals keeps for the instant t: the last start, the interval that holds t so far, and the first start
-- after t, or end of time while there is none.
unfoldable pub advance : ℕ → Scan → Interval → Scan
advance t c i =
    pick (ltb c.end end_of_time) (record { held = c.held; end = c.end; last = i.start })
    (pick (ltb t i.start) (record { held = c.held; end = i.start; last = i.start })
    (record { held = i; end = end_of_time; last = i.start }))

unfoldable pub scan_from : ℕ → Scan → List Interval → Scan
scan_from t c [] = c
scan_from t c (i ∷ is) = scan_from t (advance t c i) is

-- before the first interval
abbrev pub unscanned : Scan
unscanned = record { held = record { start = 0; name = 0; wall = 0; savings = 0 }; end = end_of_time; last = end_of_time }

unfoldable pub scanned : ℕ → List Interval → Scan
scanned t is = scan_from t unscanned is

unfoldable pub scan_of : ℕ → Parsed (List Interval) → Parsed Scan
scan_of t p = bind p (λ is r. got (scanned t is) r)

-- n intervals of s from a place on, and the end transition behind them, are in their preferred form where b says so and they are: with what is
-- said of the intervals, the end transition is left to be looked at
abbrev pub FormTo : List ℕ → ℕ → ℕ → Bool → Result (Scan × ℕ × Bool) Refusal → Type 0
FormTo s n from b (Ok (c, e, form)) = both b (pieces_preferred (suc n) end_of_time (drop from s)) ≡ both form (pieces_preferred 1 c.last (drop e s))
FormTo s n from b (Err k) = Unit {0}

pub record FormOf (s : List ℕ) (n from : ℕ) (b : Bool) (r : Result (Scan × ℕ × Bool) Refusal) : Type 0 where
  pub means : FormTo s n from b r
