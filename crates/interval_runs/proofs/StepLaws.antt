-- The ways of a step and of a run. Assumes nothing.
use mathlib.Core.Path.{◌≡◌, refl, sym, ap, ◌∙◌}
use mathlib.Core.Bool.{Bool, true, false}
use mathlib.Core.List.{List}
use mathlib.Core.Logic.{◌⊎◌, inl, inr}
use Prim.Native.Nat.{ℕ, zero, suc, ◌+◌, ◌-◌, ◌*◌, ◌%◌, ◌≤◌, ◌<◌}
use native.Mathlib.Omega.{arith}
use lib.Dec.{ltb, leb, eqb}
use lib.ListN.{length, drop, get_or}
use borrow.Author.Tests.{le-leb, lt-leb, lt-ltb, le-ltb, ltb-true, leb-true, eq-eqb, ne_eqb}
use Rattle.base.specs.Pick.{pick, both}
use Rattle.base.specs.Moment.{Finite, first_instant, last_instant}
use Rattle.base.proofs.Tests.{never, by_order, both_left, both_right, pick-holds, pick_same}
use Rattle.base.proofs.Parts.{Bytes}
use Rattle.base.proofs.ByteLaws.{drop-bytes}
use Rattle.base.proofs.MomentLaws.{finite-yes, finite-low, finite-high}
use Rattle.transitions.specs.Transition.{hour, read_moment, write_moment}
use Rattle.transitions.specs.Later.{Later, later_in}
use Rattle.transitions.proofs.MomentLaws.{renewed, Preferred, Longer}
use Rattle.transitions.proofs.LaterLaws.{later_of}
use Rattle.places.specs.Short.{two_bytes, short_details}
use Rattle.places.specs.Long.{start_size}
use Rattle.places.proofs.LongLaws.{size-least, size-two}
use Rattle.pieces.specs.Form.{code_preferred}
use Rattle.intervals.specs.Short.{short_ok}
use Rattle.interval_runs.specs.declared.Run.{Run}
use Rattle.interval_runs.specs.Run.{hours_at, details_at, SameDetails, step_of, Behind, long_step_of, next_of, behind, goes_on, run_at, run_from, run_of, Passed, Stopped, Fitting}

pub two-bytes-most : (s : List ℕ) (place : ℕ) → Bytes s → two_bytes s place ≤ 16383
unfolding two_bytes
two-bytes-most s place h =
    pick-holds (λ (v : ℕ). v ≤ 16383) (both (leb 128 (get_or s place 0)) (ltb (get_or s (place + 1) 0) 128))
    (λ e. omega (arith, ltb-true (get_or s (place + 1) 0) 128 (both_right (leb 128 (get_or s place 0)) _ e)))
    (λ _. omega arith)

-- the hours of a start
module _ (s : List ℕ) (place : ℕ) where
  no-hours : two_bytes s place < 128 → 0 ≡ hours_at s place
  unfolding hours_at
  no-hours h = rw (lt-leb 128 (two_bytes s place) h)

  pub hours-one : get_or s place 0 < 128 → 0 ≡ hours_at s place
  unfolding two_bytes
  hours-one h = no-hours (rw (lt-leb 128 (get_or s place 0) h) (omega arith))

  module _ (l : 128 ≤ get_or s place 0) where
    pub hours-padded : get_or s (place + 1) 0 ≡ 0 → 0 ≡ hours_at s place
    unfolding two_bytes
    hours-padded z = no-hours (rw (le-leb 128 (get_or s place 0) l, z) (omega arith))

    pub hours-longer : 127 < get_or s (place + 1) 0 → 0 ≡ hours_at s place
    unfolding two_bytes
    hours-longer h = no-hours (rw (le-leb 128 (get_or s place 0) l, le-ltb (get_or s (place + 1) 0) 128 (omega arith)) (omega arith))

    module _ (z : get_or s (place + 1) 0 ≡ 0 → ⊥) (h : get_or s (place + 1) 0 ≤ 127) where
      two : two_bytes s place ≡ get_or s place 0 % 128 + 128 * get_or s (place + 1) 0
      unfolding two_bytes
      two = rw (le-leb 128 (get_or s place 0) l, lt-ltb (get_or s (place + 1) 0) 128 (omega arith))

      pub hours-two : get_or s place 0 % 128 + 128 * get_or s (place + 1) 0 ≡ hours_at s place
      unfolding hours_at
      hours-two = rw (le-leb 128 (two_bytes s place) (omega (arith, two))) (sym two)

-- the same three bytes are details of the same pools
pub same-details : (s : List ℕ) (a b : ℕ) → get_or s a 0 < 256 → get_or s b 0 < 256
    → get_or s a 0 + 256 * get_or s (a + 1) 0 ≡ get_or s b 0 + 256 * get_or s (b + 1) 0 → get_or s (a + 2) 0 ≡ get_or s (b + 2) 0 → SameDetails s a b true
unfolding short_details short_ok
same-details s a b l h e g =
    let x : get_or s a 0 ≡ get_or s b 0 = omega arith in
    let y : get_or s (a + 1) 0 ≡ get_or s (b + 1) 0 = omega arith in
    record { to = λ _ pool. rw (x, y, g) }

pub no_same : (s : List ℕ) (a b : ℕ) → SameDetails s a b false
no_same s a b = record { to = λ e. never e refl }

-- a step, by the hours v
module _ (s : List ℕ) (pool place prev v : ℕ) (e : v ≡ hours_at s place) where
  pub step-none : v ≡ 0 → 0 ≡ step_of s pool place prev
  unfolding hours_at step_of
  step-none z = go (leb 128 (two_bytes s place)) refl e
    where
      go : (t : Bool) → leb 128 (two_bytes s place) ≡ t → v ≡ pick t (two_bytes s place) 0
          → 0 ≡ pick (both t (details_at s pool (place + 2))) (prev + two_bytes s place * hour) 0
      go true q k = absurd (omega (arith, leb-true 128 (two_bytes s place) q))
      go false q k = refl

  module _ (z : v ≡ 0 → ⊥) (t : Bool) (d : t ≡ details_at s pool (place + 2)) where
    step_by : pick t (prev + v * hour) 0 ≡ step_of s pool place prev
    unfolding hours_at step_of
    step_by = go (leb 128 (two_bytes s place)) refl e
      where
        go : (u : Bool) → leb 128 (two_bytes s place) ≡ u → v ≡ pick u (two_bytes s place) 0
            → pick t (prev + v * hour) 0 ≡ pick (both u (details_at s pool (place + 2))) (prev + two_bytes s place * hour) 0
        go true q k = rw (← d, k)
        go false q k = absurd (z k)

    pub step_is : t ≡ true → prev + v * hour ≡ step_of s pool place prev
    step_is k = rw k at step_by

    pub step-refused : t ≡ false → 0 ≡ step_of s pool place prev
    step-refused k = rw k at step_by

  pub step_same : (z : v ≡ 0 → ⊥) → Behind s pool place → (t : Bool) → SameDetails s (place + 2) (place - 8) t → t ≡ true
      → prev + v * hour ≡ step_of s pool place prev
  step_same z b t d k = step_is z true (sym (d.to k pool ∙ b.before_last)) refl

-- a step that was taken
module _ (s : List ℕ) (pool place prev m : ℕ) where
  pub record Stepped : Type 0 where
    pub two : 128 ≤ two_bytes s place
    pub details : short_details s (place + 2) ≡ true
    pub ok : short_ok s pool (place + 2) ≡ true
    pub sum : m ≡ prev + two_bytes s place * hour

  pub stepped : m ≡ step_of s pool place prev → (m ≡ 0 → ⊥) → Stepped
  unfolding step_of
  stepped e z = go (both (leb 128 (two_bytes s place)) (both (short_details s (place + 2)) (short_ok s pool (place + 2)))) refl e
    where
      go : (t : Bool) → both (leb 128 (two_bytes s place)) (both (short_details s (place + 2)) (short_ok s pool (place + 2))) ≡ t
          → m ≡ pick t (prev + two_bytes s place * hour) 0 → Stepped
      go true q k =
          let b = both_right (leb 128 (two_bytes s place)) _ q in
          record {
            two = leb-true 128 (two_bytes s place) (both_left (leb 128 (two_bytes s place)) _ q);
            details = both_left (short_details s (place + 2)) _ b;
            ok = both_right (short_details s (place + 2)) _ b;
            sum = k;
          }
      go false q k = absurd (z k)

pub stepped-details : (s : List ℕ) (pool place prev m : ℕ) → Stepped s pool place prev m → details_at s pool (place + 2) ≡ true
stepped-details s pool place prev m x = rw (x.details, x.ok)

-- behind two intervals of five bytes and one more
pub behind-next : (s : List ℕ) (pool place : ℕ) → Behind s pool place → details_at s pool (place + 2) ≡ true → Behind s pool (place + 5)
behind-next s pool place b d =
    let f = b.far in
    let x : place + 5 - 8 ≡ place - 3 = omega arith in
    let y : place + 5 - 3 ≡ place + 2 = omega arith in
    record { far = omega arith; before_last = rw x b.last; last = rw y d }

-- behind so many intervals of five bytes, of which the first two count
pub record Front (s : List ℕ) (pool place i : ℕ) : Type 0 where
  pub one : 0 < i → (5 ≤ place) × (details_at s pool (place - 3) ≡ true)
  pub two : 1 < i → Behind s pool place

pub front-none : (s : List ℕ) (pool place : ℕ) → Front s pool place 0
front-none s pool place = record { one = λ l. absurd (omega arith); two = λ l. absurd (omega arith) }

pub front-next : (s : List ℕ) (pool place i : ℕ) → Front s pool place i → details_at s pool (place + 2) ≡ true → Front s pool (place + 5) (i + 1)
front-next s pool place i f d =
    let y : place + 5 - 3 ≡ place + 2 = omega arith in
    record {
      one = λ _. (omega arith, rw y d);
      two = λ l.
          let o = f.one (omega arith) in
          let x : place + 5 - 8 ≡ place - 3 = omega (arith, o.0) in
          record { far = omega (arith, o.0); before_last = rw x o.1; last = rw y d };
    }

two_size : (s : List ℕ) (place : ℕ) → 128 ≤ two_bytes s place → start_size s place ≡ 2
unfolding two_bytes
two_size s place = go (both (leb 128 (get_or s place 0)) (ltb (get_or s (place + 1) 0) 128)) refl
  where
    go : (t : Bool) → both (leb 128 (get_or s place 0)) (ltb (get_or s (place + 1) 0) 128) ≡ t
        → 128 ≤ pick t (get_or s place 0 % 128 + 128 * get_or s (place + 1) 0) 0 → start_size s place ≡ 2
    go true q k =
        size-two s place (leb-true 128 (get_or s place 0) (both_left (leb 128 (get_or s place 0)) _ q))
        (ltb-true (get_or s (place + 1) 0) 128 (both_right (leb 128 (get_or s place 0)) _ q))
    go false q k = absurd (omega arith)

-- a step by the size of the start
module _ (s : List ℕ) (pool : ℕ) (form : Bool) (place prev : ℕ) where
  pub next-two : start_size s place ≡ 2 → next_of s pool form place prev ≡ step_of s pool place prev
  unfolding next_of
  next-two e = rw e

  pub next-long : (n : ℕ) → n ≡ start_size s place → (n ≡ 2 → ⊥) → next_of s pool form place prev ≡ long_step_of s pool form place n prev
  unfolding next_of
  next-long n e z = rw (← e, ne_eqb n 2 z)

-- a longer start: one of at most three bytes is in the writer's form
pub long-few : (s : List ℕ) (place n prev m : ℕ) → m ≡ later_in prev n (read_moment prev (drop place s)) → (m ≡ 0 → ⊥) → Bytes s → n ≤ 3
    → length (write_moment prev m) ≡ n
long-few s place n prev m l z b h = go (renewed prev (drop place s) (drop-bytes place s b) (sym ((later_of prev n m (drop place s) l).moment (omega arith))))
  where
    go : Preferred prev (drop place s) m n ⊎ Longer prev m n → length (write_moment prev m) ≡ n
    go (inl x) = x.size
    go (inr x) = absurd (omega (arith, x.long))

-- a step of a longer start
module _ (s : List ℕ) (pool : ℕ) (form : Bool) (place n prev : ℕ) where
  module _ (t : Bool) (d : t ≡ short_details s (place + n)) where
    pub long-other : t ≡ false → 0 ≡ long_step_of s pool form place n prev
    unfolding long_step_of
    long-other k = rw (← d, k)

    module _ (k : t ≡ true) (u : Bool) (o : u ≡ short_ok s pool (place + n)) where
      pub long-refused : u ≡ false → 0 ≡ long_step_of s pool form place n prev
      unfolding long_step_of
      long-refused q = rw (← d, k, ← o, q)

      module _ (q : u ≡ true) (m : ℕ) (l : m ≡ later_in prev n (read_moment prev (drop place s))) where
        pub long-none : m ≡ 0 → 0 ≡ long_step_of s pool form place n prev
        unfolding long_step_of
        long-none z = rw (← d, k, ← o, q, ← l, z) (sym (pick_same (pick form (code_preferred prev (drop place s)) true) 0))

        pub long-unasked : form ≡ false → m ≡ long_step_of s pool form place n prev
        unfolding long_step_of
        long-unasked f = rw (← d, k, ← o, q, f) l

        module _ (z : m ≡ 0 → ⊥) where
          module _ (f : form ≡ true) (size : ℕ) (c : size ≡ length (write_moment prev m)) where
            told : code_preferred prev (drop place s) ≡ eqb size n
            unfolding code_preferred
            told = rw ((later_of prev n m (drop place s) l).moment (omega arith), ← c)

            pub long-left : (size ≡ n → ⊥) → 0 ≡ long_step_of s pool form place n prev
            unfolding long_step_of
            long-left x = rw (← d, k, ← o, q, f, told, ne_eqb size n x)

            pub long-is : size ≡ n → m ≡ long_step_of s pool form place n prev
            unfolding long_step_of
            long-is x = rw (← d, k, ← o, q, f, told, eq-eqb size n x) l

  -- one that was taken
  module _ (m : ℕ) where
    pub record LongStepped : Type 0 where
      pub details : short_details s (place + n) ≡ true
      pub ok : short_ok s pool (place + n) ≡ true
      pub form-kept : form ≡ both form (code_preferred prev (drop place s))
      pub later : Later prev (drop place s) n m

    pub long-stepped : m ≡ long_step_of s pool form place n prev → (m ≡ 0 → ⊥) → LongStepped
    unfolding long_step_of
    long-stepped e z = go (both (both (short_details s (place + n)) (short_ok s pool (place + n))) (pick form (code_preferred prev (drop place s)) true)) refl e
      where
        keeps : (a b : Bool) → pick a b true ≡ true → a ≡ both a b
        keeps true b q = sym q
        keeps false b q = refl

        go : (t : Bool) → both (both (short_details s (place + n)) (short_ok s pool (place + n))) (pick form (code_preferred prev (drop place s)) true) ≡ t
            → m ≡ pick t (later_in prev n (read_moment prev (drop place s))) 0 → LongStepped
        go true q k =
            let a = both_left (both (short_details s (place + n)) (short_ok s pool (place + n))) _ q in
            record {
              details = both_left (short_details s (place + n)) _ a;
              ok = both_right (short_details s (place + n)) _ a;
              form-kept = keeps form _ (both_right (both (short_details s (place + n)) (short_ok s pool (place + n))) _ q);
              later = later_of prev n m (drop place s) k;
            }
        go false q k = absurd (z k)

-- a run
module _ (s : List ℕ) (pool : ℕ) (form : Bool) (stop : ℕ) where
  run_ends : (left place last : ℕ) → goes_on s pool form stop place last ≡ false → run_at left place last ≡ run_from s pool form stop left place last
  unfolding run_from
  run_ends zero place last e = refl
  run_ends (suc k) place last e = rw e

  run-next : (left place last : ℕ) → 0 < left → goes_on s pool form stop place last ≡ true
      → run_from s pool form stop left place last ≡ run_from s pool form stop (left - 1) (behind s place) (next_of s pool form place last)
  unfolding run_from
  run-next zero place last h e = absurd (omega arith)
  run-next (suc k) place last h e = let one : suc k - 1 ≡ k = omega arith in rw (e, one)

  run_none : (left place last : ℕ) → left ≡ 0 → run_at left place last ≡ run_from s pool form stop left place last
  unfolding run_from
  run_none left place last e = rw e

  run-cut : (left place last : ℕ) → length s < behind s place → run_at left place last ≡ run_from s pool form stop left place last
  run-cut left place last h = run_ends left place last (rw (lt-leb (behind s place) (length s) h))

  module _ (left place last : ℕ) (w : behind s place ≤ length s) (m : ℕ) (e : next_of s pool form place last ≡ m) where
    run-other : m ≡ 0 → run_at left place last ≡ run_from s pool form stop left place last
    run-other z = run_ends left place last (rw (le-leb (behind s place) (length s) w, e, z))

    module _ (z : m ≡ 0 → ⊥) where
      run-late : stop < m → run_at left place last ≡ run_from s pool form stop left place last
      run-late l = run_ends left place last (rw (le-leb (behind s place) (length s) w, e, lt-ltb 0 m (omega arith), lt-leb m stop l))

      run-goes : 0 < left → m ≤ stop
          → run_from s pool form stop left place last ≡ run_from s pool form stop (left - 1) (behind s place) m
      run-goes k l =
          run-next left place last k (rw (le-leb (behind s place) (length s) w, e, lt-ltb 0 m (omega arith), le-leb m stop l))
          ∙ ap (λ (x : ℕ). run_from s pool form stop (left - 1) (behind s place) x) e

-- where the loop over intervals of five bytes stands
module _ (s : List ℕ) (pool stop : ℕ) (from : Run) where
  pub passed_start : from.place ≤ length s → Finite from.last → (form : Bool) → Passed s pool form stop from (run_at from.left from.place from.last)
  passed_start i f form = record { fewer = omega arith; inside = i; instant = f; same = refl }

  -- behind a longer start
  pub passed-long : (form : Bool) (left place last : ℕ) → Passed s pool form stop from (run_at left place last) → (k : ℕ) → k ≡ start_size s place
      → (k ≡ 2 → ⊥) → place + (k + 3) ≤ length s → (m : ℕ) → m ≡ long_step_of s pool form place k last → (m ≡ 0 → ⊥) → 0 < left → m ≤ stop
      → Passed s pool form stop from (run_at (left - 1) (place + (k + 3)) m)
  passed-long form left place last g k e z w m f o p l =
      let x = long-stepped s pool form place k last m f o in
      let y : behind s place ≡ place + (k + 3) = omega arith in
      record {
        fewer = omega (arith, g.fewer);
        inside = w;
        instant = x.later.instant (omega arith);
        same =
            g.same
            ∙ run-goes s pool form stop left place last (omega arith) m (next-long s pool form place last k e z ∙ sym f) o p l
            ∙ ap (λ (q : ℕ). run_from s pool form stop (left - 1) q m) y;
      }

  module _ (left place last : ℕ) (g : (form : Bool) → Passed s pool form stop from (run_at left place last)) where
    stopped : (start_size s place ≡ 2 → (form : Bool) → run_at left place last ≡ run_from s pool form stop left place last)
        → Stopped s pool stop from (run_at left place last)
    stopped h = record { passed = g; ends = h }

    pub stopped-done : left ≡ 0 → Stopped s pool stop from (run_at left place last)
    stopped-done z = stopped (λ _ form. run_none s pool form stop left place last z)

    pub stopped-cut : length s - place < 5 → Stopped s pool stop from (run_at left place last)
    stopped-cut h = stopped (λ e form. run-cut s pool form stop left place last (omega (arith, (g true).inside)))

    module _ (h : 5 ≤ length s - place) (m : ℕ) (e : m ≡ step_of s pool place last) where
      end-two : start_size s place ≡ 2 → behind s place ≤ length s
      end-two k = omega (arith, (g true).inside)

      pub stopped-other : m ≡ 0 → Stopped s pool stop from (run_at left place last)
      stopped-other z =
          stopped (λ k form. run-other s pool form stop left place last (end-two k) m (next-two s pool form place last k ∙ sym e) z)

      module _ (z : m ≡ 0 → ⊥) where
        pub stopped-late : stop < m → Stopped s pool stop from (run_at left place last)
        stopped-late l =
            stopped (λ k form. run-late s pool form stop left place last (end-two k) m (next-two s pool form place last k ∙ sym e) z l)

        pub passed-next : 0 < left → m ≤ stop → stop ≤ last_instant → (form : Bool) → Passed s pool form stop from (run_at (left - 1) (place + 5) m)
        passed-next k l t form =
            let x = stepped s pool place last m e z in
            let two = two_size s place x.two in
            let five : behind s place ≡ place + 5 = omega arith in
            record {
              fewer = omega (arith, (g form).fewer);
              inside = omega (arith, (g form).inside);
              instant = record { low = omega (arith, (g form).instant.low, x.sum); high = omega arith };
              same =
                  (g form).same
                  ∙ run-goes s pool form stop left place last (end-two two) m (next-two s pool form place last two ∙ sym e) z k l
                  ∙ ap (λ (q : ℕ). run_from s pool form stop (left - 1) q m) five;
            }

pub passed_on : (s : List ℕ) (pool : ℕ) (form : Bool) (stop : ℕ) (from q r : Run) → Passed s pool form stop from q → Passed s pool form stop q r
    → Passed s pool form stop from r
passed_on s pool form stop from q r g y =
    record { fewer = omega (arith, g.fewer, y.fewer); inside = y.inside; instant = y.instant; same = g.same ∙ y.same }

pub stopped-on : (s : List ℕ) (pool stop : ℕ) (from q r : Run) → ((form : Bool) → Passed s pool form stop from q) → Stopped s pool stop q r
    → Stopped s pool stop from r
stopped-on s pool stop from q r g x = record { passed = λ form. passed_on s pool form stop from q r (g form) (x.passed form); ends = x.ends }

-- where the loop behind two intervals stands: `left` of those for which there are bytes are to be read, and `rest` others
module _ (s : List ℕ) (pool stop : ℕ) (from : Run) where
  pub record More (rest left place last : ℕ) : Type 0 where
    pub passed : (form : Bool) → Passed s pool form stop from (run_at (rest + left) place last)
    pub two : Behind s pool place
    pub fits : 5 * left ≤ length s - place
    pub cut : 0 < rest → length s - place < 5 * left + 5

  module _ (rest left place last : ℕ) (g : More rest left place last) where
    pub more_room : 0 < left → 5 ≤ length s - place
    more_room l = omega (arith, g.fits)

    pub more-done : left ≡ 0 → Stopped s pool stop from (run_at (rest + left) place last)
    more-done z =
        by_order 0 rest
        (λ l. stopped-cut s pool stop from (rest + left) place last g.passed (omega (arith, g.cut l)))
        (λ h. stopped-done s pool stop from (rest + left) place last g.passed (omega arith))

    module _ (l : 0 < left) (m : ℕ) (e : m ≡ step_of s pool place last) where
      pub more-other : m ≡ 0 → Stopped s pool stop from (run_at (rest + left) place last)
      more-other z = stopped-other s pool stop from (rest + left) place last g.passed (more_room l) m e z

      module _ (z : m ≡ 0 → ⊥) where
        pub more-late : stop < m → Stopped s pool stop from (run_at (rest + left) place last)
        more-late h = stopped-late s pool stop from (rest + left) place last g.passed (more_room l) m e z h

        pub more-next : m ≤ stop → stop ≤ last_instant → More rest (left - 1) (place + 5) m
        more-next h t =
            let p = passed-next s pool stop from (rest + left) place last g.passed (more_room l) m e z (omega arith) h t in
            let q : rest + left - 1 ≡ rest + (left - 1) = omega arith in
            record {
              passed = rw q at p;
              two = behind-next s pool place g.two (stepped-details s pool place last m (stepped s pool place last m e z));
              fits = omega (arith, g.fits);
              cut = λ r. omega (arith, g.cut r, g.fits);
            }

pub more-start : (s : List ℕ) (pool stop left n place last : ℕ) → place ≤ length s → Finite last → Behind s pool place
    → Fitting left (length s - place) 5 n → More s pool stop (run_at (left - n + n) place last) (left - n) n place last
more-start s pool stop left n place last i f b x =
    record {
      passed = passed_start s pool stop (run_at (left - n + n) place last) i f;
      two = b;
      fits = x.fits;
      cut = λ l. x.all (omega arith);
    }

pub stopped-whole : (s : List ℕ) (pool stop left n place last : ℕ) (r : Run) → n ≤ left
    → Stopped s pool stop (run_at (left - n + n) place last) r → Stopped s pool stop (run_at left place last) r
stopped-whole s pool stop left n place last r l x = let e : left - n + n ≡ left = omega arith in rw e at x

-- where the loop over all stands
module _ (s : List ℕ) (pool : ℕ) (form : Bool) (stop n from prev : ℕ) where
  pub record Going (r : Run) : Type 0 where
    pub inside : r.place ≤ length s
    pub instant : Finite r.last
    pub same : run_of s pool form stop n from prev ≡ run_from s pool form stop r.left r.place r.last

  pub none-early : prev < first_instant → run_at n from prev ≡ run_of s pool form stop n from prev
  unfolding run_of
  none-early h = rw (finite-low prev h)

  pub none-late : last_instant < prev → run_at n from prev ≡ run_of s pool form stop n from prev
  unfolding run_of
  none-late h = rw (finite-high prev h)

  pub going_start : from ≤ length s → first_instant ≤ prev → prev ≤ last_instant → Going (run_at n from prev)
  unfolding run_of
  going_start i l h =
      let f : Finite prev = record { low = l; high = h } in
      record { inside = i; instant = f; same = rw (finite-yes prev f) }

  pub going-passed : (q r : Run) → Going q → Passed s pool form stop q r → Going r
  going-passed q r g x = record { inside = x.inside; instant = x.instant; same = g.same ∙ x.same }

  pub going-unasked : (q r : Run) → Going q → form ≡ false → Passed s pool false stop q r → Going r
  going-unasked q r g e x = record { inside = x.inside; instant = x.instant; same = g.same ∙ rw e x.same }

  module _ (r : Run) (g : Going r) where
    pub ends-done : r.left ≡ 0 → r ≡ run_of s pool form stop n from prev
    ends-done z = run_none s pool form stop r.left r.place r.last z ∙ sym g.same

    pub ends-cut : length s - r.place < 5 → r ≡ run_of s pool form stop n from prev
    ends-cut h = run-cut s pool form stop r.left r.place r.last (omega (arith, g.inside, size-least s r.place)) ∙ sym g.same

    module _ (k : ℕ) (e : k ≡ start_size s r.place) where
      pub ends-two : (q : Run) → Stopped s pool stop q r → k ≡ 2 → r ≡ run_of s pool form stop n from prev
      ends-two q x z = x.ends (sym e ∙ z) form ∙ sym g.same

      pub ends-short : length s - r.place < k + 3 → r ≡ run_of s pool form stop n from prev
      ends-short h = run-cut s pool form stop r.left r.place r.last (omega (arith, g.inside)) ∙ sym g.same

      module _ (h : k + 3 ≤ length s - r.place) (z : k ≡ 2 → ⊥) (m : ℕ) (f : m ≡ long_step_of s pool form r.place k r.last) where
        room : behind s r.place ≤ length s
        room = omega (arith, g.inside)

        next : next_of s pool form r.place r.last ≡ m
        next = next-long s pool form r.place r.last k e z ∙ sym f

        pub ends-other : m ≡ 0 → r ≡ run_of s pool form stop n from prev
        ends-other o = run-other s pool form stop r.left r.place r.last room m next o ∙ sym g.same

        module _ (o : m ≡ 0 → ⊥) where
          pub ends-late : stop < m → r ≡ run_of s pool form stop n from prev
          ends-late l = run-late s pool form stop r.left r.place r.last room m next o l ∙ sym g.same

          -- its details were judged
          pub judged : details_at s pool (r.place + (k + 3) - 3) ≡ true
          judged =
              let x = long-stepped s pool form r.place k r.last m f o in
              let y : r.place + (k + 3) - 3 ≡ r.place + k = omega arith in
              rw (y, x.details, x.ok)

          pub going_next : 0 < r.left → m ≤ stop → Going (run_at (r.left - 1) (r.place + (k + 3)) m)
          going_next p l =
              let q = passed_start s pool stop r g.inside g.instant form in
              going-passed r (run_at (r.left - 1) (r.place + (k + 3)) m) g
              (passed-long s pool stop r form r.left r.place r.last q k e z (omega (arith, g.inside)) m f o p l)
