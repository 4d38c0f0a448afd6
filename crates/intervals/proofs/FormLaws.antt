-- Whether the starts of intervals are in the writer's form: where the loop over them stands. Assumes nothing.
use Rattle.base.specs.declared.Refusal.TheVariants.{BadInterval, BadText}
use Rattle.std.specs.Prelude.{Ok}
use mathlib.Core.Path.{◌≡◌, refl, sym, ap, ◌∙◌}
use mathlib.Core.Bool.{Bool}
use mathlib.Core.List.{List}
use Prim.Native.Nat.{ℕ, zero, suc, ◌-◌, ◌<◌}
use native.Mathlib.Omega.{arith}
use lib.Dec.{ltb}
use lib.ListN.{drop}
use Rattle.base.specs.Pick.{both}
use Rattle.base.specs.Parsed.{got, parse}
use Rattle.base.specs.Moment.{end_of_time}
use Rattle.base.proofs.ParseLaws.{got-value, got-rest, bind-good, pick_good}
use Rattle.counts.specs.Count.{read_count}
use Rattle.offsets.specs.Offset.{in_day, read_sum}
use Rattle.transitions.specs.Transition.{read_moment}
use Rattle.places.specs.Name.{judge_name, parse_name}
use Rattle.places.specs.Placed.{at, Stands}
use Rattle.pieces.specs.Content.{Piece, bytes_up_to, parse_wall, piece_end, after_moment, parse_piece}
use Rattle.pieces.specs.Form.{code_preferred, pieces_preferred}
use Rattle.pieces.proofs.CodeLaws.{both-in}
use Rattle.intervals.specs.declared.Interval.{Interval}
use Rattle.intervals.specs.declared.Scan.{Scan}
use Rattle.intervals.specs.Interval.{standard_sum, judge_standard, after_wall, after_name, parse_details, rises, after_start, parse_interval, start_of}
use Rattle.intervals.specs.Scan.{advance, unscanned, FormOf}
use Rattle.intervals.proofs.ScanLaws.{advance-last}

-- a code, then details, are a piece
piece-of : (n prev m k w v : ℕ) (s q q₁ q₂ r : List ℕ) → parse (read_moment prev) s ≡ got m q → parse read_count q ≡ got k q₁
    → parse read_sum q₁ ≡ got w q₂ → parse read_sum q₂ ≡ got v r → parse_piece (suc n) prev s ≡ got (record { moment = m; copied = bytes_up_to q r }) r
unfolding parse_piece after_moment piece_end parse_wall
piece-of n prev m k w v s q q₁ q₂ r e f g h = rw (e, f, g, h)

pub name-count : (pool : ℕ) (s : List ℕ) (k : ℕ) (r : List ℕ) → parse_name pool s ≡ got k r → parse read_count s ≡ got k r
unfolding parse_name judge_name
name-count pool s k r e =
    let a = bind-good (parse read_count s) (judge_name pool) k r e in
    a.is ∙ (pick_good (ltb a.first pool) (got a.first a.rest) BadText k r a.on).1

-- an interval is a piece
interval-piece : (pool n prev : ℕ) (s : List ℕ) (i : Interval) (r : List ℕ) → parse_interval pool prev s ≡ got i r
    → (xs : List ℕ) × (parse_piece (suc n) prev s ≡ got (record { moment = i.start; copied = xs }) r)
unfolding parse_interval after_start parse_details after_name after_wall judge_standard
interval-piece pool n prev s i r e =
    let a = bind-good (parse (read_moment prev) s) (after_start pool prev) i r e in
    let m : ℕ = a.first in
    let b = pick_good (rises prev m) (parse_details pool m a.rest) BadInterval i r a.on in
    let k = bind-good (parse_name pool a.rest) (after_name m) i r b.1 in
    let w = bind-good (parse read_sum k.rest) (after_wall m k.first) i r k.on in
    let v = bind-good (parse read_sum w.rest) (judge_standard m k.first w.first) i r w.on in
    let o = pick_good (in_day (standard_sum w.first v.first)) (got (record { start = m; name = k.first; wall = w.first; savings = v.first }) v.rest) BadInterval i r v.on in
    let f : m ≡ i.start = ap start_of (got-value o.1) in
    let p = piece-of n prev m k.first w.first v.first s a.rest k.rest w.rest r a.is (name-count pool a.rest k.first k.rest k.is) w.is (v.is ∙ ap (got v.first) (got-rest o.1)) in
    (bytes_up_to a.rest r, p ∙ ap (λ (x : ℕ). got (record { moment = x; copied = bytes_up_to a.rest r }) r) f)

piece-form : (n prev : ℕ) (s : List ℕ) (p : Piece) (r : List ℕ) → parse_piece n prev s ≡ got p r
    → pieces_preferred (suc n) prev s ≡ both (code_preferred prev s) (pieces_preferred n p.moment r)
unfolding pieces_preferred
piece-form n prev s p r e = rw e

interval-form : (pool n prev : ℕ) (s : List ℕ) (i : Interval) (r : List ℕ) → parse_interval pool prev s ≡ got i r
    → pieces_preferred (suc (suc n)) prev s ≡ both (code_preferred prev s) (pieces_preferred (suc n) i.start r)
interval-form pool n prev s i r e = let p = interval-piece pool n prev s i r e in piece-form (suc n) prev s _ r p.1

-- `left` of n intervals are still to be read, from `place` on, and `form` says whether the starts before are in the writer's form
module _ (pool t : ℕ) (s : List ℕ) (from n : ℕ) (b : Bool) where
  pub record Forming (left place : ℕ) (c : Scan) (form : Bool) : Type 0 where
    pub means : both b (pieces_preferred (suc n) end_of_time (drop from s)) ≡ both form (pieces_preferred (suc left) c.last (drop place s))

  pub forming-start : Forming n from unscanned b
  forming-start = record { means = refl }

  module _ (left place : ℕ) (c : Scan) (form : Bool) (g : Forming left place c form) where
    pub forming-next : (i : Interval) (e : ℕ) (after : Bool) → 0 < left → Stands s (parse_interval pool c.last (drop place s)) (at i e)
        → after ≡ both form (code_preferred c.last (drop place s)) → Forming (left - 1) e (advance t c i) after
    forming-next i e after l h f = go left l g.means
      where
        go : (k : ℕ) → 0 < k → both b (pieces_preferred (suc n) end_of_time (drop from s)) ≡ both form (pieces_preferred (suc k) c.last (drop place s))
            → Forming (k - 1) e (advance t c i) after
        go zero o m = absurd (omega arith)
        go (suc k) o m =
            let one : suc k - 1 ≡ k = omega arith in
            rw one
            (record {
              means =
                  m
                  ∙ ap (both form) (interval-form pool k c.last (drop place s) i (drop e s) h.means)
                  ∙ both-in form _ _
                  ∙ ap (λ (x : Bool). both x (pieces_preferred (suc k) i.start (drop e s))) (sym f)
                  ∙ ap (λ (x : ℕ). both after (pieces_preferred (suc k) x (drop e s))) (sym (advance-last t c i));
            })

    pub forming-done : left ≡ 0 → FormOf s n from b (Ok (c, place, form))
    forming-done z = record { means = g.means ∙ ap (λ (x : ℕ). both form (pieces_preferred (suc x) c.last (drop place s))) z }
