-- Whether a start is in the writer's form, by its first bytes. Assumes nothing.
use Rattle.std.specs.Prelude.{Err, Ok}
use Rattle.base.specs.Coded.{Coded}
use Rattle.base.specs.declared.Refusal.TheVariants.{BadCode, BadInterval}
use mathlib.Core.Path.{◌≡◌, refl, sym, ap, ◌∙◌}
use mathlib.Core.Bool.{Bool, true, false}
use mathlib.Core.List.{List, [], ◌∷◌}
use Prim.Native.Nat.{ℕ, zero, suc, ◌+◌, ◌-◌, ◌*◌, ◌%◌, ◌≤◌, ◌<◌}
use native.Mathlib.Omega.{arith}
use lib.Dec.{ltb, leb, eqb}
use lib.ListN.{length, drop, get_or, length-drop}
use lib.Seq.{get_or-drop}
use borrow.Author.Tests.{lt-ltb, eq-eqb}
use Rattle.base.specs.Pick.{pick, both}
use Rattle.base.specs.Parsed.{got, parse}
use Rattle.base.proofs.Tests.{clash}
use Rattle.base.proofs.PairLaws.{ok_parts}
use Rattle.base.proofs.Parts.{Bytes}
use Rattle.base.proofs.ByteLaws.{drop-bytes}
use Rattle.base.proofs.ParseLaws.{bind-good, pick_good, got-value}
use Rattle.counts.specs.Groups.{read_groups, more}
use Rattle.counts.specs.Count.{read_count}
use Rattle.counts.proofs.CountLaws.{byte-count, counted}
use Rattle.offsets.specs.Offset.{in_day, read_sum}
use Rattle.transitions.specs.Transition.{read_moment, write_moment}
use Rattle.transitions.proofs.MomentLaws.{moment-holds}
use Rattle.transitions.proofs.LaterLaws.{first_two}
use Rattle.places.specs.Placed.{at, Stands}
use Rattle.places.specs.Name.{parse_name}
use Rattle.pieces.specs.Form.{code_preferred}
use Rattle.pieces.proofs.CodeLaws.{Code, code_read, code-few}
use Rattle.intervals.specs.declared.Interval.{Interval}
use Rattle.intervals.specs.Interval.{standard_sum, judge_standard, after_wall, after_name, parse_details, rises, after_start, parse_interval, start_of}
use Rattle.interval_scans.specs.Start.{StartAt}

-- groups end at a byte below 128
groups-few : (k : ℕ) (s : List ℕ) (v n i : ℕ) → Ok (v, n) ≡ read_groups k 7 s → get_or s i 0 < 128 → n ≤ i + 1
unfolding read_groups
groups-few k [] v n i e l = clash cc
groups-few zero (b ∷ s) v n i e l = go (leb b 7) e
  where
    go : (t : Bool) → Ok (v, n) ≡ pick {A = Coded ℕ} t (Ok (b, 1)) (Err BadCode) → n ≤ i + 1
    go true q = let z : n ≡ 1 = (ok_parts q).1 in omega arith
    go false q = clash cc
groups-few (suc k) (b ∷ s) v n zero e l = let z : ◌≡◌ {A = Coded ℕ} (Ok (v, n)) (Ok (b, 1)) = rw (lt-ltb b 128 l) at e in let y : n ≡ 1 = (ok_parts z).1 in omega arith
groups-few (suc k) (b ∷ s) v n (suc i) e l = go (λ w a h. groups-few k s w a i h l) (ltb b 128) (read_groups k 7 s) refl e
  where
    two : (t : Bool) (w a : ℕ) → a ≤ i + 1 → Ok (v, n) ≡ pick {A = Coded ℕ} t (Err BadCode) (Ok (b % 128 + 128 * w, a + 1)) → n ≤ suc i + 1
    two true w a h q = clash cc
    two false w a h q = let z : n ≡ a + 1 = (ok_parts q).1 in omega arith

    go : ((w a : ℕ) → Ok (w, a) ≡ read_groups k 7 s → a ≤ i + 1) → (t : Bool) (x : Coded ℕ) → x ≡ read_groups k 7 s → Ok (v, n) ≡ pick {A = Coded ℕ} t (Ok (b, 1)) (more b x) → n ≤ suc i + 1
    go f true x h q = let z : n ≡ 1 = (ok_parts q).1 in omega arith
    go f false (Ok (w, a)) h q = two (eqb w 0) w a (f w a h) q
    go f false (Err j) h q = clash cc

-- the length of a moment's code
module _ (prev : ℕ) (s : List ℕ) (m size : ℕ) (e : Ok (m, size) ≡ read_moment prev s) where
  ends : (v n i : ℕ) → Ok (v, n) ≡ read_count s → get_or s i 0 < 128 → n ≡ size → size ≤ i + 1
  ends v n i k l q = omega (arith, groups-few 4 s v n i k l)

  size_few : (i : ℕ) → get_or s i 0 < 128 → (get_or s 0 0 ≡ 2 → ⊥) → size ≤ i + 1
  size_few i l z =
      moment-holds prev s (λ r. Ok (m, size) ≡ r → size ≤ i + 1)
      (record {
        refused = λ k q. clash cc;
        start = λ n k q. ends 0 n i k l (sym (ok_parts q).1);
        end = λ n k q. ends 1 n i k l (sym (ok_parts q).1);
        hours = λ v n k a b c d q. ends v n i k l (sym (ok_parts q).1);
        minutes = λ v n k a b q. ends v n i k l (sym (ok_parts q).1);
        ticks = λ n k a b q. absurd (z (first_two s n k));
      }) e

  size-ticks : 0 < length s → get_or s 0 0 ≡ 2 → size ≡ 9
  size-ticks h z =
      moment-holds prev s (λ r. Ok (m, size) ≡ r → size ≡ 9)
      (record {
        refused = λ k q. clash cc;
        start = λ n k q. absurd (other 0 n k (λ o. omega arith));
        end = λ n k q. absurd (other 1 n k (λ o. omega arith));
        hours = λ v n k a b c d q. absurd (other v n k (λ o. omega arith));
        minutes = λ v n k a b q. absurd (other v n k (λ o. omega arith));
        ticks = λ n k a b q. let o : n ≡ 1 = (counted s k).single (omega arith) in let y : size ≡ n + 8 = (ok_parts q).1 in omega arith;
      }) e
    where
      two : read_count s ≡ Ok (2, 1)
      two = rw z at (byte-count s 0 h (omega arith))

      other : (v n : ℕ) → Ok (v, n) ≡ read_count s → (v ≡ 2 → ⊥) → ⊥
      other v n k o = let y : ◌≡◌ {A = Coded ℕ} (Ok (v, n)) (Ok (2, 1)) = k ∙ two in o (ok_parts y).0

-- a start at a place
module _ (s : List ℕ) (place prev m : ℕ) (b : Bytes s) (x : StartAt s place prev m) (w : 3 ≤ length s - place) where
  code : Code prev (drop place s) m x.rest
  code = code_read prev (drop place s) m x.rest x.means

  byte : (i : ℕ) → get_or (drop place s) i 0 ≡ get_or s (place + i) 0
  byte i = get_or-drop place s i 0

  first : get_or (drop place s) 0 0 ≡ get_or s place 0
  first = let k : place + 0 ≡ place = omega arith in rw k at (byte 0)

  -- one of at most three bytes
  pub few-preferred : (i : ℕ) → i ≤ 2 → get_or s (place + i) 0 < 128 → (get_or s place 0 ≡ 2 → ⊥) → true ≡ both true (code_preferred prev (drop place s))
  few-preferred i h l z =
      let f = size_few prev (drop place s) m code.size code.is i (rw (byte i) l) (λ q. z (sym first ∙ q)) in
      sym (code.told ∙ eq-eqb _ _ (code-few prev (drop place s) m x.rest code (drop-bytes place s b) (omega arith)))

  pub first-preferred : get_or s place 0 < 128 → (get_or s place 0 ≡ 2 → ⊥) → true ≡ both true (code_preferred prev (drop place s))
  first-preferred l z = let k : place + 0 ≡ place = omega arith in few-preferred 0 (omega arith) (rw k l) z

  pub ticks-preferred : get_or s place 0 ≡ 2 → (n : ℕ) → n ≡ length (write_moment prev m) → eqb n 9 ≡ both true (code_preferred prev (drop place s))
  ticks-preferred z n e =
      let f = size-ticks prev (drop place s) m code.size code.is (rw length-drop (omega arith)) (first ∙ z) in
      sym (code.told ∙ ap (eqb (length (write_moment prev m))) f ∙ ap (λ (y : ℕ). eqb y 9) (sym e))

-- where an interval stands, so does its start
pub start-stands : (pool prev : ℕ) (s : List ℕ) (place : ℕ) (i : Interval) (a : ℕ) → place ≤ length s
    → Stands s (parse_interval pool prev (drop place s)) (at i a) → StartAt s place prev i.start
unfolding parse_interval after_start parse_details after_name after_wall judge_standard
start-stands pool prev s place i a l h =
    let r = drop a s in
    let c = bind-good (parse (read_moment prev) (drop place s)) (after_start pool prev) i r h.means in
    let m : ℕ = c.first in
    let b = pick_good (rises prev m) (parse_details pool m c.rest) BadInterval i r c.on in
    let k = bind-good (parse_name pool c.rest) (after_name m) i r b.1 in
    let w = bind-good (parse read_sum k.rest) (after_wall m k.first) i r k.on in
    let v = bind-good (parse read_sum w.rest) (judge_standard m k.first w.first) i r w.on in
    let o = pick_good (in_day (standard_sum w.first v.first)) (got (record { start = m; name = k.first; wall = w.first; savings = v.first }) v.rest) BadInterval i r v.on in
    let f : m ≡ i.start = ap start_of (got-value o.1) in
    record { inside = l; rest = c.rest; means = c.is ∙ ap (λ (y : ℕ). got y c.rest) f }
