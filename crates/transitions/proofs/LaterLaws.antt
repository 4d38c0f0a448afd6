-- The instant in ticks after another: each way out of the reader, and what one that is not 0 is. Assumes nothing.
use Rattle.base.specs.declared.Refusal.{Refusal}
use Rattle.std.specs.Prelude.{Err, Ok}
use Rattle.base.specs.Coded.{Coded}
use Rattle.base.specs.declared.Refusal.TheVariants.{BadCode}
use mathlib.Core.Path.{◌≡◌, refl, ap, sym, ◌∙◌}
use mathlib.Core.List.{List, [], ◌∷◌}
use mathlib.Core.Bool.{Bool, true, false}
use Prim.Native.Nat.{ℕ, ◌+◌, ◌*◌, ◌-◌, ◌%◌, ◌≤◌, ◌<◌}
use native.Mathlib.Omega.{arith}
use lib.Dec.{ltb, eqb}
use lib.ListN.{length, take, drop, get_or, length-drop}
use borrow.Author.Tests.{le-leb, lt-ltb, le-ltb, ne_eqb, eqb-true, eqb-false, ltb-true}
use Rattle.base.specs.Pick.{pick, both}
use Rattle.base.specs.Moment.{Finite, finite, first_instant, start_of_time, end_of_time}
use Rattle.base.proofs.Tests.{both_left, both_right, by_order, clash}
use Rattle.base.proofs.PairLaws.{ok_parts}
use Rattle.base.proofs.Parts.{part-from}
use Rattle.base.proofs.MomentLaws.{finite-true, finite-yes, finite-low}
use Rattle.counts.specs.Groups.{read_groups, more}
use Rattle.counts.specs.Count.{read_count}
use Rattle.counts.specs.Fixed.{fixed_from}
use Rattle.counts.proofs.CountLaws.{byte-count, counted}
use Rattle.signed.specs.Instant.{from_raw}
use Rattle.signed.proofs.IntegerLaws.{instant-finite}
use Rattle.transitions.specs.Later.{Later, later_in}
use Rattle.transitions.specs.Transition.{read_moment}
use Rattle.transitions.proofs.MomentLaws.{moment-holds, moment-read, ticks-read, ticks-none}

-- a count of 2 is the byte 2
pub first_two : (s : List ℕ) (n : ℕ) → Ok (2, n) ≡ read_count s → get_or s 0 0 ≡ 2
unfolding read_groups
first_two [] n e = clash cc
first_two (b ∷ r) n e = go (ltb b 128) (read_groups 3 7 r) e
  where
    two : (t : Bool) (v m : ℕ) → eqb v 0 ≡ t → ◌≡◌ {A = Coded ℕ} (Ok (2, n)) (pick t (Err BadCode) (Ok (b % 128 + 128 * v, m + 1))) → b ≡ 2
    two true v m q k = clash cc
    two false v m q k =
        let z : 2 ≡ b % 128 + 128 * v = (ok_parts k).0 in
        let w : v ≡ 0 → ⊥ = eqb-false v 0 q in
        absurd (w (omega arith))

    go : (t : Bool) (x : Coded ℕ) → Ok (2, n) ≡ pick t (Ok (b, 1)) (more b x) → b ≡ 2
    go true x k = sym (ok_parts k).0
    go false (Ok (v, m)) k = two (eqb v 0) v m refl k
    go false (Err j) k = clash cc

other-size : (prev n t m : ℕ) → (m ≡ n → ⊥) → 0 ≡ later_in prev n (Ok (t, m))
unfolding later_in
other-size prev n t m h = rw (ne_eqb m n h)

none : (prev n : ℕ) (k : Refusal) → 0 ≡ later_in prev n (Err k)
unfolding later_in
none prev n k = refl

module _ (prev : ℕ) (s : List ℕ) where
  pub later-short : length s < 9 → 0 ≡ later_in prev 9 (read_moment prev s)
  later-short h = go (read_moment prev s) refl
    where
      go : (r : Coded ℕ) → r ≡ read_moment prev s → 0 ≡ later_in prev 9 r
      go (Ok (t, m)) e = other-size prev 9 t m (λ q. omega (arith, (moment-read prev s e).within))
      go (Err k) e = none prev 9 k

  pub later-other : (get_or s 0 0 ≡ 2 → ⊥) → 0 ≡ later_in prev 9 (read_moment prev s)
  later-other h =
      moment-holds prev s (λ r. 0 ≡ later_in prev 9 r)
      (record {
        refused = λ k. none prev 9 k;
        start = λ n e. other-size prev 9 start_of_time n (λ q. omega (arith, (counted s e).size));
        end = λ n e. other-size prev 9 end_of_time n (λ q. omega (arith, (counted s e).size));
        hours = λ v n e a b c d. other-size prev 9 _ n (λ q. omega (arith, (counted s e).size));
        minutes = λ v n e a b. other-size prev 9 _ n (λ q. omega (arith, (counted s e).size));
        ticks = λ n e a b. absurd (h (first_two s n e));
      })

  pub later-early : prev < first_instant → 0 ≡ later_in prev 9 (read_moment prev s)
  unfolding later_in
  later-early h = go (read_moment prev s)
    where
      two : (t : Bool) (x : Bool) (v : ℕ) → 0 ≡ pick (both t (both false x)) v 0
      two true x v = refl
      two false x v = refl

      go : (r : Coded ℕ) → 0 ≡ later_in prev 9 r
      go (Ok (t, m)) = rw (finite-low prev h) (two (eqb m 9) (both (ltb prev t) (finite t)) t)
      go (Err k) = refl

  module _ (raw t : ℕ) (l : 9 ≤ length s) (e : get_or s 0 0 ≡ 2) (g : raw ≡ fixed_from 8 0 (take (length s - 1) (drop 1 s))) (u : t ≡ from_raw raw) where
    named : t ≡ from_raw (fixed_from 8 0 (drop 1 s))
    named = u ∙ ap from_raw (rw (part-from 1 s) at g)

    pub later-is : first_instant ≤ prev → prev < t → t ≡ later_in prev 9 (read_moment prev s)
    unfolding later_in
    later-is p h =
        let n : t ≡ 0 → ⊥ = λ z. omega arith in
        let i : Finite t = instant-finite t _ named n in
        let f : Finite prev = record { low = p; high = omega (arith, i.high) } in
        rw (ticks-read prev s t l e named n, finite-yes prev f, finite-yes t i, lt-ltb prev t h)

    pub later-not : t ≤ prev → 0 ≡ later_in prev 9 (read_moment prev s)
    unfolding later_in read_moment
    later-not h = by_order 0 t some zeroed
      where
        two : (x : Bool) (v : ℕ) → 0 ≡ pick (both x (both false (finite t))) v 0
        two true v = refl
        two false v = refl

        some : 0 < t → 0 ≡ later_in prev 9 (read_moment prev s)
        some k =
            let n : t ≡ 0 → ⊥ = λ z. omega arith in
            rw (ticks-read prev s t l e named n, le-ltb prev t h) (two (finite prev) t)

        zeroed : t ≤ 0 → 0 ≡ later_in prev 9 (read_moment prev s)
        zeroed k =
            let z : t ≡ 0 = omega arith in
            rw (byte-count s 0 (omega arith) (omega arith), e, le-leb 8 (length (drop 1 s)) (rw length-drop (omega arith)), ← ticks-none 9 (fixed_from 8 0 (drop 1 s)) t named z)

-- 0 is none
pub not-later : (prev n : ℕ) (s : List ℕ) → Later prev s n 0
not-later prev n s =
    record { previous = λ h. absurd (omega arith); rises = λ h. absurd (omega arith); instant = λ h. absurd (omega arith); moment = λ h. absurd (omega arith) }

-- where it is not 0 it is an instant after the instant prev, and stands at the front of s in n bytes
pub later_of : (prev n t : ℕ) (s : List ℕ) → t ≡ later_in prev n (read_moment prev s) → Later prev s n t
unfolding later_in
later_of prev n t s e = go (read_moment prev s) refl e
  where
    none_of : t ≡ 0 → Later prev s n t
    none_of z = rw z (not-later prev n s)

    two : (x : Bool) (u m : ℕ) → both (eqb m n) (both (finite prev) (both (ltb prev u) (finite u))) ≡ x → Ok (u, m) ≡ read_moment prev s → t ≡ pick x u 0 → Later prev s n t
    two true u m q k z =
        let a = both_right (eqb m n) _ q in
        let b = both_right (finite prev) _ a in
        let w : t ≡ u = z in
        let v : m ≡ n = eqb-true m n (both_left (eqb m n) _ q) in
        record {
          previous = λ h. finite-true prev (both_left (finite prev) _ a);
          rises = λ h. rw w (ltb-true prev u (both_left (ltb prev u) _ b));
          instant = λ h. rw w (finite-true u (both_right (ltb prev u) _ b));
          moment = λ h. rw (w, ← v) (sym k);
        }
    two false u m q k z = none_of z

    go : (r : Coded ℕ) → r ≡ read_moment prev s → t ≡ later_in prev n r → Later prev s n t
    go (Ok (u, m)) k z = two (both (eqb m n) (both (finite prev) (both (ltb prev u) (finite u)))) u m refl k z
    go (Err j) k z = none_of z
