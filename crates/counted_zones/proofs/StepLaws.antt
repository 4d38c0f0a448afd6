-- Where codes end, by their first bytes. Assumes nothing.
use mathlib.Core.Path.{◌≡◌, refl, sym, ◌∙◌}
use mathlib.Core.Bool.{Bool, true, false}
use mathlib.Core.List.{List}
use Prim.Native.Nat.{ℕ, ◌+◌, ◌*◌, ◌%◌, ◌≤◌, ◌<◌}
use native.Mathlib.Omega.{arith}
use lib.Dec.{ltb, eqb}
use lib.ListN.{get_or}
use borrow.Author.Tests.{lt-ltb, le-ltb, ne_eqb}
use Rattle.base.specs.Pick.{pick}
use Rattle.counted_zones.specs.Steps.{count_end, moment_end, sum_end, number_at, number_end, interval_end}

-- a choice of places is no less than the least
module _ (p : ℕ) where
  from-four : (t : Bool) → p + 4 ≤ pick t (p + 4) (p + 5)
  from-four true = omega arith
  from-four false = omega arith

  from-three : (t u : Bool) → p + 3 ≤ pick t (p + 3) (pick u (p + 4) (p + 5))
  from-three true u = omega arith
  from-three false u = let h = from-four u in omega arith

  from-two : (t u v : Bool) → p + 2 ≤ pick t (p + 2) (pick u (p + 3) (pick v (p + 4) (p + 5)))
  from-two true u v = omega arith
  from-two false u v = let h = from-three u v in omega arith

  from_one : (t u v w : Bool) → p + 1 ≤ pick t (p + 1) (pick u (p + 2) (pick v (p + 3) (pick w (p + 4) (p + 5))))
  from_one true u v w = omega arith
  from_one false u v w = let h = from-two u v w in omega arith

  of_four : (t u v : Bool) → p + 1 ≤ pick t (p + 1) (pick u (p + 2) (pick v (p + 3) (p + 4)))
  of_four true u v = omega arith
  of_four false true v = omega arith
  of_four false false true = omega arith
  of_four false false false = omega arith

module _ (s : List ℕ) (p : ℕ) where
  -- a count
  pub count-rises : p + 1 ≤ count_end s p
  unfolding count_end
  count-rises = from_one p (ltb (get_or s p 0) 128) (ltb (get_or s (p + 1) 0) 128) (ltb (get_or s (p + 2) 0) 128) (ltb (get_or s (p + 3) 0) 128)

  pub count-1 : get_or s p 0 < 128 → p + 1 ≡ count_end s p
  unfolding count_end
  count-1 h = rw (lt-ltb (get_or s p 0) 128 h)

  module _ (a : 128 ≤ get_or s p 0) where
    pub count-second : p + 2 ≤ count_end s p
    unfolding count_end
    count-second = rw (le-ltb (get_or s p 0) 128 a) (from-two p (ltb (get_or s (p + 1) 0) 128) (ltb (get_or s (p + 2) 0) 128) (ltb (get_or s (p + 3) 0) 128))

    pub count-2 : get_or s (p + 1) 0 < 128 → p + 2 ≡ count_end s p
    unfolding count_end
    count-2 h = rw (le-ltb (get_or s p 0) 128 a, lt-ltb (get_or s (p + 1) 0) 128 h)

    module _ (b : 128 ≤ get_or s (p + 1) 0) where
      pub count-third : p + 3 ≤ count_end s p
      unfolding count_end
      count-third = rw (le-ltb (get_or s p 0) 128 a, le-ltb (get_or s (p + 1) 0) 128 b) (from-three p (ltb (get_or s (p + 2) 0) 128) (ltb (get_or s (p + 3) 0) 128))

      pub count-3 : get_or s (p + 2) 0 < 128 → p + 3 ≡ count_end s p
      unfolding count_end
      count-3 h = rw (le-ltb (get_or s p 0) 128 a, le-ltb (get_or s (p + 1) 0) 128 b, lt-ltb (get_or s (p + 2) 0) 128 h)

      module _ (c : 128 ≤ get_or s (p + 2) 0) where
        pub count-fourth : p + 4 ≤ count_end s p
        unfolding count_end
        count-fourth = rw (le-ltb (get_or s p 0) 128 a, le-ltb (get_or s (p + 1) 0) 128 b, le-ltb (get_or s (p + 2) 0) 128 c) (from-four p (ltb (get_or s (p + 3) 0) 128))

        pub count-4 : get_or s (p + 3) 0 < 128 → p + 4 ≡ count_end s p
        unfolding count_end
        count-4 h = rw (le-ltb (get_or s p 0) 128 a, le-ltb (get_or s (p + 1) 0) 128 b, le-ltb (get_or s (p + 2) 0) 128 c, lt-ltb (get_or s (p + 3) 0) 128 h)

        pub count-5 : 128 ≤ get_or s (p + 3) 0 → p + 5 ≡ count_end s p
        unfolding count_end
        count-5 h = rw (le-ltb (get_or s p 0) 128 a, le-ltb (get_or s (p + 1) 0) 128 b, le-ltb (get_or s (p + 2) 0) 128 c, le-ltb (get_or s (p + 3) 0) 128 h)

  -- a transition
  pub moment-rises : p + 1 ≤ moment_end s p
  unfolding moment_end
  moment-rises = go (eqb (get_or s p 0) 2)
    where
      go : (t : Bool) → p + 1 ≤ pick t (p + 9) (count_end s p)
      go true = omega arith
      go false = count-rises

  pub moment-ticks : get_or s p 0 ≡ 2 → p + 9 ≡ moment_end s p
  unfolding moment_end
  moment-ticks h = rw h

  pub moment-count : (get_or s p 0 ≡ 2 → ⊥) → count_end s p ≡ moment_end s p
  unfolding moment_end
  moment-count h = rw (ne_eqb (get_or s p 0) 2 h)

  -- an offset
  pub sum-rises : p + 1 ≤ sum_end s p
  unfolding sum_end
  sum-rises = of_four p (ltb (get_or s p 0) 128) (ltb (get_or s p 0) 160) (ltb (get_or s p 0) 192)

  pub sum-1 : get_or s p 0 < 128 → p + 1 ≡ sum_end s p
  unfolding sum_end
  sum-1 h = rw (lt-ltb (get_or s p 0) 128 h)

  pub sum-2 : 128 ≤ get_or s p 0 → get_or s p 0 < 160 → p + 2 ≡ sum_end s p
  unfolding sum_end
  sum-2 a h = rw (le-ltb (get_or s p 0) 128 a, lt-ltb (get_or s p 0) 160 h)

  pub sum-3 : 160 ≤ get_or s p 0 → get_or s p 0 < 192 → p + 3 ≡ sum_end s p
  unfolding sum_end
  sum-3 a h = rw (le-ltb (get_or s p 0) 128 (omega arith), le-ltb (get_or s p 0) 160 a, lt-ltb (get_or s p 0) 192 h)

  pub sum-4 : 192 ≤ get_or s p 0 → p + 4 ≡ sum_end s p
  unfolding sum_end
  sum-4 a = rw (le-ltb (get_or s p 0) 128 (omega arith), le-ltb (get_or s p 0) 160 (omega arith), le-ltb (get_or s p 0) 192 a)

  -- a number of one or two bytes
  pub number-rises : p + 1 ≤ number_end s p
  unfolding number_end
  number-rises = go (ltb (get_or s p 0) 128)
    where
      go : (t : Bool) → p + 1 ≤ pick t (p + 1) (p + 2)
      go true = omega arith
      go false = omega arith

  module _ (h : get_or s p 0 < 128) where
    pub number-one : get_or s p 0 ≡ number_at s p
    unfolding number_at
    number-one = rw (lt-ltb (get_or s p 0) 128 h)

    pub number-end-one : p + 1 ≡ number_end s p
    unfolding number_end
    number-end-one = rw (lt-ltb (get_or s p 0) 128 h)

  module _ (h : 128 ≤ get_or s p 0) where
    pub number-two : get_or s p 0 % 128 + 128 * get_or s (p + 1) 0 ≡ number_at s p
    unfolding number_at
    number-two = rw (le-ltb (get_or s p 0) 128 h)

    pub number-end-two : p + 2 ≡ number_end s p
    unfolding number_end
    number-end-two = rw (le-ltb (get_or s p 0) 128 h)

-- an interval of five bytes
module _ (s : List ℕ) (p : ℕ) where
  pub five-ends : 128 ≤ get_or s p 0 → get_or s (p + 1) 0 < 128 → get_or s (p + 2) 0 < 128 → get_or s (p + 3) 0 < 128 → get_or s (p + 4) 0 < 128
      → (moment_end s p ≡ p + 2) × (interval_end s p ≡ p + 5)
  unfolding interval_end
  five-ends a b c d e =
      let m : moment_end s p ≡ p + 2 = sym (moment-count s p (λ z. omega arith)) ∙ sym (count-2 s p a b) in
      let n : number_end s (p + 2) ≡ p + 3 = sym (number-end-one s (p + 2) c) ∙ (let z : p + 2 + 1 ≡ p + 3 = omega arith in z) in
      let w : sum_end s (p + 3) ≡ p + 4 = sym (sum-1 s (p + 3) d) ∙ (let z : p + 3 + 1 ≡ p + 4 = omega arith in z) in
      let v : sum_end s (p + 4) ≡ p + 5 = sym (sum-1 s (p + 4) e) ∙ (let z : p + 4 + 1 ≡ p + 5 = omega arith in z) in
      (m, rw (m, n, w, v) refl)

  -- and one in ticks
  pub tick-ends : get_or s p 0 ≡ 2 → get_or s (p + 9) 0 < 128 → get_or s (p + 10) 0 < 128 → get_or s (p + 11) 0 < 128 → (moment_end s p ≡ p + 9) × (interval_end s p ≡ p + 12)
  unfolding interval_end
  tick-ends a c d e =
      let m : moment_end s p ≡ p + 9 = sym (moment-ticks s p a) in
      let n : number_end s (p + 9) ≡ p + 10 = sym (number-end-one s (p + 9) c) ∙ (let z : p + 9 + 1 ≡ p + 10 = omega arith in z) in
      let w : sum_end s (p + 10) ≡ p + 11 = sym (sum-1 s (p + 10) d) ∙ (let z : p + 10 + 1 ≡ p + 11 = omega arith in z) in
      let v : sum_end s (p + 11) ≡ p + 12 = sym (sum-1 s (p + 11) e) ∙ (let z : p + 11 + 1 ≡ p + 12 = omega arith in z) in
      (m, rw (m, n, w, v) refl)
