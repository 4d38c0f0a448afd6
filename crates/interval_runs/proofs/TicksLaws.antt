-- Intervals in ticks in a row. Assumes nothing.
use mathlib.Core.Path.{◌≡◌, refl, sym, ap, ◌∙◌}
use mathlib.Core.Bool.{Bool, true, false}
use mathlib.Core.List.{List}
use Prim.Native.Nat.{ℕ, ◌+◌, ◌-◌, ◌*◌, ◌/◌, ◌%◌, ◌≤◌, ◌<◌}
use native.Mathlib.Nat.{mul-le-mul_left, div-add-mod', mod-lt}
use native.Mathlib.Omega.{arith}
use lib.ListN.{length, take, drop, get_or, length-drop}
use lib.Seq.{drop-drop, get_or-drop}
use Rattle.base.specs.Parsed.{parse}
use Rattle.base.specs.Moment.{Finite, last_instant}
use Rattle.base.proofs.Tests.{both_left, both_right}
use Rattle.base.proofs.Parts.{part-from}
use Rattle.counts.specs.Fixed.{fixed_from}
use Rattle.signed.specs.Instant.{from_raw}
use Rattle.signed.proofs.IntegerLaws.{raw-late, raw-early}
use Rattle.counts.proofs.FixedLaws.{eight_is}
use Rattle.transitions.specs.Transition.{read_moment}
use Rattle.transitions.specs.Later.{later_in}
use Rattle.transitions.proofs.LaterLaws.{later-is}
use Rattle.transitions.proofs.MomentLaws.{ticks-read}
use Rattle.places.specs.Placed.{at, Stands}
use Rattle.places.specs.Short.{short_details}
use Rattle.places.proofs.ShortLaws.{reads}
use Rattle.intervals.specs.Short.{short_ok}
use Rattle.places.specs.Long.{start_size}
use Rattle.interval_runs.specs.declared.Run.{Run}
use Rattle.interval_runs.specs.Run.{details_at, SameDetails, long_step_of, run_at, Passed, Fitting, TicksAt, TicksStep}
use Rattle.interval_runs.proofs.StepLaws.{long-unasked, passed_start, passed-long}

-- how many there may be
module _ (n room size : ℕ) (z : 0 < size) where
  whole : size * (room / size) ≤ room
  whole = omega (arith, div-add-mod' room size)

  pub fitting-few : n < room / size → Fitting n room size n
  fitting-few l =
      let y : n ≤ room / size = omega arith in
      record { most = omega arith; fits = omega (arith, mul-le-mul_left size y, whole); all = λ x. absurd (omega arith) }

  pub fitting-all : room / size ≤ n → Fitting n room size (room / size)
  fitting-all l = record { most = l; fits = whole; all = λ _. omega (arith, div-add-mod' room size, mod-lt room z) }

-- the instant in eight bytes, by the number of four and four
module _ (s : List ℕ) (place high low : ℕ) (w : place + 8 ≤ length s) (e : high ≡ fixed_from 4 0 (drop place s)) (f : low ≡ fixed_from 4 0 (drop (place + 4) s)) where
  pub ticks-after : high * 4294967296 + low < 17699160297709551616 → TicksAt s place (high * 4294967296 + low + 747583776000000000)
  ticks-after l = record { to = λ i. raw-late (high * 4294967296 + low) (omega (arith, i.high)) ∙ ap from_raw (eight_is s place w high low e f) }

  pub ticks-before : high < 4294967296 → low < 4294967296 → 17699160297709551616 ≤ high * 4294967296 + low
      → TicksAt s place (high * 4294967296 + low - 17699160297709551616)
  ticks-before a b l =
      record { to = λ i. raw-early (high * 4294967296 + low) (omega arith) (omega (arith, i.low)) ∙ ap from_raw (eight_is s place w high low e f) }

-- a transition in ticks at a place
pub ticks-stand : (prev : ℕ) (s : List ℕ) (place t : ℕ) → place ≤ length s → 9 ≤ length s - place → get_or s place 0 ≡ 2 → TicksAt s (place + 1) t → Finite t
    → Stands s (parse (read_moment prev) (drop place s)) (at t (place + 9))
ticks-stand prev s place t p w b a f =
    let k : place + 0 ≡ place = omega arith in
    let e : t ≡ from_raw (fixed_from 8 0 (drop 1 (drop place s))) = rw drop-drop (a.to f) in
    reads (read_moment prev) s place t 9
    (ticks-read prev (drop place s) t (rw length-drop w) (rw (get_or-drop place s 0 0, k) b) e (λ z. omega (arith, f.low))) (omega arith)

-- a step
pub no-ticks : (s : List ℕ) (pool place prev : ℕ) → TicksStep s pool place prev 0
no-ticks s pool place prev = record { size = λ l. absurd (omega arith); details = λ l. absurd (omega arith); start = λ l. absurd (omega arith) }

module _ (s : List ℕ) (pool place prev t : ℕ) (w : place + 12 ≤ length s) (f : Finite prev) (two : get_or s place 0 ≡ 2) (a : TicksAt s (place + 1) t)
    (later : prev < t) where
  instant : t ≤ last_instant → t ≡ later_in prev 9 (read_moment prev (drop place s))
  instant l =
      let i : Finite t = record { low = omega (arith, f.low); high = l } in
      let k : place + 0 ≡ place = omega arith in
      let u : fixed_from 8 0 (drop (place + 1) s) ≡ fixed_from 8 0 (take (length (drop place s) - 1) (drop 1 (drop place s))) = rw (part-from 1 (drop place s), drop-drop) refl in
      later-is prev (drop place s) (fixed_from 8 0 (drop (place + 1) s)) t (rw length-drop (omega arith)) (rw (get_or-drop place s 0 0, k) two) u (a.to i) f.low later

  pub ticks-taken : details_at s pool (place + 9) ≡ true → TicksStep s pool place prev t
  unfolding start_size
  ticks-taken d = record {
    size = λ _. rw two refl;
    details = λ _. d;
    start = λ _ l.
        long-unasked s pool false place 9 prev true (sym (both_left (short_details s (place + 9)) _ d)) refl true (sym (both_right (short_details s (place + 9)) _ d)) refl t
        (instant l) refl;
  }

  pub ticks-same : (old : ℕ) → details_at s pool old ≡ true → (b : Bool) → SameDetails s (place + 9) old b → b ≡ true → TicksStep s pool place prev t
  ticks-same old j b x e = ticks-taken (x.to e pool ∙ j)

-- where the loop over them stands: `left` of those for which there are bytes are to be read, and `rest` others; the details at `old` and those of the
-- last were judged
module _ (s : List ℕ) (pool stop : ℕ) (from : Run) where
  pub record Ticking (rest left place old last : ℕ) : Type 0 where
    pub passed : Passed s pool false stop from (run_at (rest + left) place last)
    pub fits : 12 * left ≤ length s - place
    pub far : 3 ≤ place
    pub inside : old + 3 ≤ length s
    pub judged : details_at s pool old ≡ true
    pub judged-last : details_at s pool (place - 3) ≡ true

  module _ (rest left place old last : ℕ) (g : Ticking rest left place old last) where
    pub ticking-room : 0 < left → place + 12 ≤ length s
    ticking-room l = omega (arith, g.fits, g.passed.inside)

    pub ticking-next : 0 < left → (m : ℕ) → TicksStep s pool place last m → (m ≡ 0 → ⊥) → m ≤ stop → stop ≤ last_instant
        → Ticking rest (left - 1) (place + 12) (place - 3) m
    ticking-next l m x z h t =
        let o : 0 < m = omega arith in
        let w = ticking-room l in
        let p = passed-long s pool stop from false (rest + left) place last g.passed 9 (sym (x.size o)) (λ q. omega arith) w m (x.start o (omega arith)) z (omega arith) h in
        let q : rest + left - 1 ≡ rest + (left - 1) = omega arith in
        let y : place + 12 - 3 ≡ place + 9 = omega arith in
        record {
          passed = rw q at p;
          fits = omega (arith, g.fits);
          far = omega arith;
          inside = omega (arith, g.far);
          judged = g.judged-last;
          judged-last = rw y (x.details o);
        }

pub ticking-start : (s : List ℕ) (pool stop left n place last : ℕ) → place ≤ length s → Finite last → 3 ≤ place → details_at s pool (place - 3) ≡ true
    → Fitting left (length s - place) 12 n → Ticking s pool stop (run_at (left - n + n) place last) (left - n) n place (place - 3) last
ticking-start s pool stop left n place last i f far d x =
    record {
      passed = passed_start s pool stop (run_at (left - n + n) place last) i f false;
      fits = x.fits;
      far = far;
      inside = omega arith;
      judged = d;
      judged-last = d;
    }

pub passed-whole : (s : List ℕ) (pool : ℕ) (form : Bool) (stop left n place last : ℕ) (r : Run) → n ≤ left
    → Passed s pool form stop (run_at (left - n + n) place last) r → Passed s pool form stop (run_at left place last) r
passed-whole s pool form stop left n place last r l x = let e : left - n + n ≡ left = omega arith in rw e at x
