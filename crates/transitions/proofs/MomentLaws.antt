-- Laws of the transition code's reader, over moments: its ways out, what a moment that reads is, the counts that name an instant,
-- that a moment that was written is read back, and that its written form is shorter than any other. Assumes nothing.
use Rattle.base.specs.declared.Refusal.{Refusal}
use Rattle.std.specs.Prelude.{Err, Ok}
use Rattle.base.specs.Coded.{Coded}
use Rattle.base.specs.declared.Refusal.TheVariants.{BadCode, BadData}
use mathlib.Core.Path.{◌≡◌, refl, ap, sym, ◌∙◌, subst, subst⁻¹}
use mathlib.Core.List.{List, [], ◌∷◌, ◌++◌}
use mathlib.Core.Bool.{Bool, true, false}
use mathlib.Core.Logic.{◌⊎◌, inl, inr}
use Prim.Native.Nat.{ℕ, ◌+◌, ◌*◌, ◌-◌, ◌/◌, ◌%◌, ◌≤◌, ◌<◌}
use native.Mathlib.Omega.{arith}
use native.Mathlib.Nat.{div-add-mod', mul-div_cancel, mul-mod_left}
use lib.Dec.{ltb, leb, eqb}
use lib.ListN.{length, take, drop, get_or, length-drop}
use lib.Seq.{drop-drop}
use mir.Syntax.{w64}
use mir.Val.{to_z}
use borrow.Author.Tests.{le-leb, lt-leb, lt-ltb, le-ltb, eq-eqb, ne_eqb, leb-true, ltb-true, ltb-false, eqb-true, eqb-false}
use Rattle.base.specs.Pick.{pick, both}
use Rattle.base.specs.Moment.{Finite, finite, first_instant, last_instant, start_of_time, end_of_time}
use Rattle.base.proofs.Tests.{pick-holds, both_left, both_right}
use Rattle.base.proofs.Parts.{Bytes, part-from}
use Rattle.base.proofs.ByteLaws.{cons-bytes, drop-bytes}
use Rattle.base.proofs.MomentLaws.{Moment, finite-true, finite-yes, finite-low, finite-high}
use Rattle.counts.specs.Groups.{read_groups, write_groups}
use Rattle.counts.specs.Count.{read_count, write_count}
use Rattle.counts.specs.Fixed.{fixed_from, read_fixed, fixed_bytes}
use Rattle.counts.proofs.GroupWriteLaws.{write-most, write-least}
use Rattle.counts.proofs.CountLaws.{byte-count, Counted, counted, count-written, count-form, count-size, count-bytes}
use Rattle.counts.proofs.FixedLaws.{fixed-between, fixed-form, length-fixed, fixed-bytes, read-fixed-written}
use Rattle.signed.specs.Instant.{from_raw, raw_of}
use Rattle.signed.proofs.IntegerLaws.{instant-finite, raw-fits, instant-raw, raw-instant}
use Rattle.transitions.specs.Transition.{hour, minute, year1800, in_range, hours_after, from_count, from_ticks, after_count, read_moment, units_to, hours_to, minutes_to, count_to, write_moment}
pub use Rattle.transitions.specs.Facts.{MomentRead, MomentSize, Preferred, Longer}

-- ways out of the reader
pub range-in : (n t : ℕ) → Finite t → Ok (t, n) ≡ in_range n t
range-in n t h = rw (finite-yes t h)

pub range-out : (n t : ℕ) → last_instant < t → Err BadCode ≡ in_range n t
range-out n t h = rw (finite-high t h)

pub hours-early : (p v n : ℕ) → p < first_instant → Err BadCode ≡ hours_after p v n
hours-early p v n h = rw (finite-low p h)

pub hours-late : (p v n : ℕ) → last_instant < p → Err BadCode ≡ hours_after p v n
hours-late p v n h = rw (finite-high p h)

pub hours-from : (p v n : ℕ) (r : Coded ℕ) → Finite p → r ≡ in_range n (p + v * hour) → r ≡ hours_after p v n
hours-from p v n r h e = rw (finite-yes p h) e

pub ticks-none : (n raw t : ℕ) → t ≡ from_raw raw → t ≡ 0 → Err BadCode ≡ in_range n (from_raw raw)
ticks-none n raw t e z = let q : from_raw raw ≡ 0 = sym e ∙ z in rw q

pub ticks-some : (n raw t : ℕ) → t ≡ from_raw raw → (t ≡ 0 → ⊥) → Ok (t, n) ≡ in_range n (from_raw raw)
ticks-some n raw t e z = ap (λ (x : ℕ). Ok (x, n)) e ∙ range-in n (from_raw raw) (subst Finite e (instant-finite t (to_z w64 raw) e z))

-- where the count is 2 and eight bytes follow
module _ (prev : ℕ) (s : List ℕ) where
  pub ticks-read : (t : ℕ) → 9 ≤ length s → get_or s 0 0 ≡ 2 → t ≡ from_raw (fixed_from 8 0 (drop 1 s)) → (t ≡ 0 → ⊥) → read_moment prev s ≡ Ok (t, 9)
  unfolding read_moment
  ticks-read t l e f z =
      rw (byte-count s 0 (omega arith) (omega arith), e, le-leb 8 (length (drop 1 s)) (rw length-drop (omega arith)))
      (sym (ticks-some 9 (fixed_from 8 0 (drop 1 s)) t f z))

pub by-start : (p v n : ℕ) → v ≡ 0 → Ok (start_of_time, n) ≡ from_count p v n
unfolding from_count
by-start p v n e = rw (eq-eqb v 0 e)

pub by_end : (p v n : ℕ) → v ≡ 1 → Ok (end_of_time, n) ≡ from_count p v n
unfolding from_count
by_end p v n e = rw e

pub by-none : (p v n : ℕ) → (v ≡ 0 → ⊥) → (v ≡ 1 → ⊥) → v < 128 → Err BadCode ≡ from_count p v n
unfolding from_count
by-none p v n a b h = rw (ne_eqb v 0 a, ne_eqb v 1 b, lt-ltb v 128 h)

pub by-hours : (p v n : ℕ) (r : Coded ℕ) → 128 ≤ v → v < 2097152 → r ≡ hours_after p v n → r ≡ from_count p v n
unfolding from_count
by-hours p v n r l h e = rw (ne_eqb v 0 (omega arith), ne_eqb v 1 (omega arith), le-ltb v 128 l, lt-ltb v 2097152 h) e

pub by-minutes : (p v n : ℕ) (r : Coded ℕ) → 2097152 ≤ v → r ≡ in_range n (year1800 + v * minute) → r ≡ from_count p v n
unfolding from_count
by-minutes p v n r l e = rw (ne_eqb v 0 (omega arith), ne_eqb v 1 (omega arith), le-ltb v 128 (omega arith), le-ltb v 2097152 l) e

-- what the count g gives is what the whole gives
pub after : (p : ℕ) (s : List ℕ) (g : Coded ℕ) → g ≡ read_count s → after_count p s g ≡ read_moment p s
unfolding read_moment
after p s g e = ap (after_count p s) e

pub after_two : (p : ℕ) (s : List ℕ) (v n : ℕ) (r : Coded ℕ) → Ok (v, n) ≡ read_count s → v ≡ 2
    → r ≡ from_ticks n (read_fixed 8 0 (take (length s - n) (drop n s))) → r ≡ read_moment p s
after_two p s v n r e t h =
    h ∙ ap (λ (l : List ℕ). from_ticks n (read_fixed 8 0 l)) (part-from n s) ∙ (rw (eq-eqb v 2 t) at (after p s (Ok (v, n)) e))

pub after-other : (p : ℕ) (s : List ℕ) (v n : ℕ) (r : Coded ℕ) → Ok (v, n) ≡ read_count s → (v ≡ 2 → ⊥)
    → r ≡ from_count p v n → r ≡ read_moment p s
after-other p s v n r e t h = h ∙ (rw (ne_eqb v 2 t) at (after p s (Ok (v, n)) e))

-- P of the moment that s gives after p, from P of each form
module _ (p : ℕ) (s : List ℕ) (P : Coded ℕ → Type 0) where
  -- the ways in which s gives a moment
  pub record Ways : Type 0 where
    pub refused : (k : Refusal) → P (Err k)
    pub start : (n : ℕ) → Ok (0, n) ≡ read_count s → P (Ok (start_of_time, n))
    pub end : (n : ℕ) → Ok (1, n) ≡ read_count s → P (Ok (end_of_time, n))
    pub hours : (v n : ℕ) → Ok (v, n) ≡ read_count s → 128 ≤ v → v < 2097152 → Finite p → Finite (p + v * hour) → P (Ok (p + v * hour, n))
    pub minutes : (v n : ℕ) → Ok (v, n) ≡ read_count s → 2097152 ≤ v → Finite (year1800 + v * minute) → P (Ok (year1800 + v * minute, n))
    pub ticks : (n : ℕ) → Ok (2, n) ≡ read_count s → 8 ≤ length (drop n s) → Finite (from_raw (fixed_from 8 0 (drop n s)))
        → P (Ok (from_raw (fixed_from 8 0 (drop n s)), n + 8))

  in-range-holds : Ways → (n t : ℕ) → (Finite t → P (Ok (t, n))) → P (in_range n t)
  in-range-holds w n t f = pick-holds P (finite t) (λ e. f (finite-true t e)) (λ _. w.refused BadCode)

  count-holds : Ways → (v n : ℕ) → Ok (v, n) ≡ read_count s → P (from_count p v n)
  unfolding from_count
  count-holds w v n e =
      pick-holds P (eqb v 0) (λ t. w.start n (rw (eqb-true v 0 t) at e)) (λ _.
      pick-holds P (eqb v 1) (λ t. w.end n (rw (eqb-true v 1 t) at e)) (λ _.
      pick-holds P (ltb v 128) (λ _. w.refused BadCode) (λ l.
      pick-holds P (ltb v 2097152)
      (λ h. pick-holds P (finite p)
      (λ f. in-range-holds w n (p + v * hour) (w.hours v n e (ltb-false v 128 l) (ltb-true v 2097152 h) (finite-true p f)))
      (λ _. w.refused BadCode))
      (λ h. in-range-holds w n (year1800 + v * minute) (w.minutes v n e (ltb-false v 2097152 h))))))

  ticks-holds : Ways → (n : ℕ) → Ok (2, n) ≡ read_count s → P (from_ticks n (read_fixed 8 0 (drop n s)))
  ticks-holds w n e =
      pick-holds (λ (r : Coded ℕ). P (from_ticks n r)) (leb 8 (length (drop n s)))
      (λ t. in-range-holds w (n + 8) (from_raw (fixed_from 8 0 (drop n s))) (w.ticks n e (leb-true 8 (length (drop n s)) t)))
      (λ _. w.refused BadData)

  pub moment-holds : Ways → P (read_moment p s)
  unfolding read_moment
  moment-holds w = go (read_count s) refl
    where
      go : (g : Coded ℕ) → g ≡ read_count s → P (after_count p s g)
      go (Ok (v, n)) e =
          pick-holds P (eqb v 2) (λ t. ticks-holds w n (rw (eqb-true v 2 t) at e)) (λ _. count-holds w v n e)
      go (Err k) e = w.refused k

abbrev IsMoment : List ℕ → Coded ℕ → Type 0
IsMoment s (Ok (m, n)) = MomentRead s m n
IsMoment s (Err k) = Unit

by_count : (s : List ℕ) (v n m : ℕ) → Ok (v, n) ≡ read_count s → Moment m → MomentRead s m n
by_count s v n m e h =
    let c : Counted s v n = counted s e in
    record { is = h; some = c.some; size = omega (arith, c.size); within = c.within }

is-moment : (p : ℕ) (s : List ℕ) → IsMoment s (read_moment p s)
is-moment p s = moment-holds p s (IsMoment s) (record {
  refused = λ k. tt;
  start = λ n e. by_count s 0 n 0 e (inl refl);
  end = λ n e. by_count s 1 n end_of_time e (inr (inl refl));
  hours = λ v n e l h f g. by_count s v n (p + v * hour) e (inr (inr g));
  minutes = λ v n e l g. by_count s v n (year1800 + v * minute) e (inr (inr g));
  ticks = λ n e l g.
      let c : Counted s 2 n = counted s e in
      let d : length (drop n s) ≡ length s - n = length-drop n s in
      record { is = inr (inr g); some = omega arith; size = omega (arith, c.single (omega arith)); within = omega (arith, c.within) };
})

pub moment-read : (p : ℕ) (s : List ℕ) {m n : ℕ} → Ok (m, n) ≡ read_moment p s → MomentRead s m n
moment-read p s e = subst⁻¹ (IsMoment s) e (is-moment p s)

-- a count v of units from one instant to another
pub record Units (unit least limit from t v : ℕ) : Type 0 where
  pub sum : from + v * unit ≡ t
  pub low : least ≤ v
  pub below : v < limit

module _ (unit least limit from t : ℕ) where
  pub units_of : 0 < units_to unit least limit from t → Units unit least limit from t (units_to unit least limit from t)
  unfolding units_to
  units_of h = go (both (leb from t) (both (eqb ((t - from) % unit) 0) (both (leb least ((t - from) / unit)) (ltb ((t - from) / unit) limit)))) refl h
    where
      go : (x : Bool)
          → both (leb from t) (both (eqb ((t - from) % unit) 0) (both (leb least ((t - from) / unit)) (ltb ((t - from) / unit) limit))) ≡ x
          → 0 < pick x ((t - from) / unit) 0 → Units unit least limit from t (pick x ((t - from) / unit) 0)
      go true e k =
          let e₁ = both_right (leb from t) _ e in
          let e₂ = both_right (eqb ((t - from) % unit) 0) _ e₁ in
          let a : from ≤ t = leb-true from t (both_left (leb from t) _ e) in
          let b : (t - from) % unit ≡ 0 = eqb-true _ 0 (both_left (eqb ((t - from) % unit) 0) _ e₁) in
          record {
            sum = omega (arith, div-add-mod' (t - from) unit);
            low = leb-true least ((t - from) / unit) (both_left (leb least ((t - from) / unit)) _ e₂);
            below = ltb-true ((t - from) / unit) limit (both_right (leb least ((t - from) / unit)) _ e₂);
          }
      go false e k = absurd (omega arith)

  pub units-back : (v : ℕ) → 0 < unit → Units unit least limit from t v → units_to unit least limit from t ≡ v
  unfolding units_to
  units-back v h u =
      let d : t - from ≡ v * unit = omega (arith, u.sum) in
      rw (
        d,
        mul-div_cancel v h,
        le-leb from t (omega (arith, u.sum)),
        eq-eqb (v * unit % unit) 0 (mul-mod_left v unit),
        le-leb least v u.low,
        lt-ltb v limit u.below,
      )

  -- ways out of the count
  pub units-before : t < from → 0 ≡ units_to unit least limit from t
  unfolding units_to
  units-before h = rw (lt-leb from t h)

  pub units-part : from ≤ t → ((t - from) % unit ≡ 0 → ⊥) → 0 ≡ units_to unit least limit from t
  unfolding units_to
  units-part h n = rw (le-leb from t h, ne_eqb ((t - from) % unit) 0 n)

  pub units-few : from ≤ t → (t - from) % unit ≡ 0 → (t - from) / unit < least → 0 ≡ units_to unit least limit from t
  unfolding units_to
  units-few h e l = rw (le-leb from t h, eq-eqb ((t - from) % unit) 0 e, lt-leb least ((t - from) / unit) l)

  pub units-many : from ≤ t → (t - from) % unit ≡ 0 → least ≤ (t - from) / unit → limit ≤ (t - from) / unit → 0 ≡ units_to unit least limit from t
  unfolding units_to
  units-many h e l m = rw (le-leb from t h, eq-eqb ((t - from) % unit) 0 e, le-leb least ((t - from) / unit) l, le-ltb ((t - from) / unit) limit m)

  pub units-are : from ≤ t → (t - from) % unit ≡ 0 → least ≤ (t - from) / unit → (t - from) / unit < limit → (t - from) / unit ≡ units_to unit least limit from t
  unfolding units_to
  units-are h e l m = rw (le-leb from t h, eq-eqb ((t - from) % unit) 0 e, le-leb least ((t - from) / unit) l, lt-ltb ((t - from) / unit) limit m)

-- a count v that names the instant t after p
pub record Names (p t v : ℕ) : Type 0 where
  pub small : v ≤ 2147483647
  pub other : v ≡ 2 → ⊥
  pub is : (n : ℕ) → from_count p v n ≡ Ok (t, n)

hours-name : (p t v : ℕ) → Finite p → Finite t → Units hour 128 2097152 p t v → Names p t v
hours-name p t v hp ht u = record {
  small = omega (arith, u.below);
  other = λ e. omega (arith, u.low);
  is = λ n. sym (by-hours p v n (Ok (t, n)) u.low u.below (hours-from p v n (Ok (t, n)) hp (rw u.sum (range-in n t ht))));
}

minutes-name : (p t v : ℕ) → Finite t → Units minute 2097152 2147483648 year1800 t v → Names p t v
minutes-name p t v ht u = record {
  small = omega (arith, u.below);
  other = λ e. omega (arith, u.low);
  is = λ n. sym (by-minutes p v n (Ok (t, n)) u.low (rw u.sum (range-in n t ht)));
}

-- a positive number of hours
pub hours-to : (p t : ℕ) → (hours_to p t ≡ 0 → ⊥) → Finite p × Units hour 128 2097152 p t (hours_to p t)
hours-to p t h = go (finite p) refl h
  where
    go : (x : Bool) → finite p ≡ x → (pick x (units_to hour 128 2097152 p t) 0 ≡ 0 → ⊥)
        → Finite p × Units hour 128 2097152 p t (pick x (units_to hour 128 2097152 p t) 0)
    go true e k = (finite-true p e, units_of hour 128 2097152 p t (omega arith))
    go false e k = absurd (k refl)

pub count-names : (p t : ℕ) → Finite t → (count_to p t ≡ 0 → ⊥) → Names p t (count_to p t)
count-names p t ht h = go (eqb (hours_to p t) 0) refl h
  where
    go : (x : Bool) → eqb (hours_to p t) 0 ≡ x → (pick x (minutes_to t) (hours_to p t) ≡ 0 → ⊥) → Names p t (pick x (minutes_to t) (hours_to p t))
    go true e k = minutes-name p t (minutes_to t) ht (units_of minute 2097152 2147483648 year1800 t (omega arith))
    go false e k = let u = hours-to p t k in hours-name p t (hours_to p t) u.0 ht u.1

-- ways out of the choice of a count
pub count-minutes : (p t h r : ℕ) → h ≡ hours_to p t → h ≡ 0 → r ≡ minutes_to t → r ≡ count_to p t
count-minutes p t h r e z q = let k : hours_to p t ≡ 0 = sym e ∙ z in rw (eq-eqb (hours_to p t) 0 k) q

pub count-hours : (p t h : ℕ) → h ≡ hours_to p t → (h ≡ 0 → ⊥) → h ≡ count_to p t
count-hours p t h e z = rw (ne_eqb (hours_to p t) 0 (λ k. z (e ∙ k))) e

-- the form of an instant
pub write-instant : (p t : ℕ) → Finite t → write_moment p t ≡ pick (eqb (count_to p t) 0) (2 ∷ fixed_bytes 8 (raw_of t)) (write_count (count_to p t))
unfolding write_moment
write-instant p t h = rw (ne_eqb t 0 (omega arith), ne_eqb t end_of_time (omega arith))

-- a moment that was written is read back, whatever follows
by_name : (p t v : ℕ) (rest : List ℕ) → v ≤ 2147483647 → (v ≡ 2 → ⊥) → ((n : ℕ) → from_count p v n ≡ Ok (t, n))
    → read_moment p (write_count v ++ rest) ≡ Ok (t, length (write_count v))
by_name p t v rest h n f =
    sym (after-other p (write_count v ++ rest) v (length (write_count v)) (Ok (t, length (write_count v))) (sym (count-written v rest h)) n (sym (f (length (write_count v)))))

by-ticks : (p t : ℕ) (rest : List ℕ) → Finite t → read_moment p (2 ∷ (fixed_bytes 8 (raw_of t) ++ rest)) ≡ Ok (t, 9)
unfolding read_moment read_groups
by-ticks p t rest h =
    let m : 0 + raw_of t % 18446744073709551616 ≡ raw_of t = omega (arith, raw-fits t h) in
    ap (from_ticks 1) (read-fixed-written 8 0 (raw_of t) rest)
    ∙ ap (λ (r : ℕ). in_range 9 (from_raw r)) m
    ∙ ap (in_range 9) (instant-raw t h)
    ∙ sym (range-in 9 t h)

pub moment-written : (p m : ℕ) (rest : List ℕ) → Moment m → read_moment p (write_moment p m ++ rest) ≡ Ok (m, length (write_moment p m))
unfolding write_moment from_count
moment-written p m rest (inl e) = rw e (by_name p 0 0 rest (omega arith) (omega arith) (λ n. refl))
moment-written p m rest (inr (inl e)) = rw e (by_name p end_of_time 1 rest (omega arith) (omega arith) (λ n. refl))
moment-written p m rest (inr (inr h)) = rw (write-instant p m h) (go (eqb (count_to p m) 0) refl)
  where
    go : (x : Bool) → eqb (count_to p m) 0 ≡ x
        → read_moment p (pick x (2 ∷ fixed_bytes 8 (raw_of m)) (write_count (count_to p m)) ++ rest)
        ≡ Ok (m, length (pick x (2 ∷ fixed_bytes 8 (raw_of m)) (write_count (count_to p m))))
    go true e = by-ticks p m rest h ∙ ap (λ (k : ℕ). Ok (m, k)) (rw (length-fixed 8 (raw_of m)))
    go false e = let k = count-names p m h (eqb-false (count_to p m) 0 e) in by_name p m (count_to p m) rest k.small k.other k.is

pub moment-size : (p m : ℕ) → Moment m → MomentSize p m
moment-size p m h =
    let r = moment-read p (write_moment p m ++ []) (sym (moment-written p m [] h)) in
    record { some = r.some; most = r.size }

abbrev Renews : ℕ → List ℕ → Coded ℕ → Type 0
Renews p s (Ok (m, n)) = Preferred p s m n ⊎ Longer p m n
Renews p s (Err k) = Unit

-- the count v of s, where it is the form of m
of-count : (p : ℕ) (s : List ℕ) (m v n : ℕ) → Bytes s → Ok (v, n) ≡ read_count s → write_moment p m ≡ write_count v → Preferred p s m n
of-count p s m v n h e w = let f = count-form s h e in record { form = rw w f.form; size = rw w (sym f.size) }

-- the form of an instant by a count
instant-count : (p t : ℕ) → Finite t → (count_to p t ≡ 0 → ⊥) → write_moment p t ≡ write_count (count_to p t)
instant-count p t h k = rw (write-instant p t h, ne_eqb (count_to p t) 0 k)

hours-count : (p v : ℕ) → Finite p → 128 ≤ v → v < 2097152 → count_to p (p + v * hour) ≡ v
hours-count p v h l m =
    let e : hours_to p (p + v * hour) ≡ v = rw (finite-yes p h) (units-back hour 128 2097152 p (p + v * hour) v (omega arith) (record { sum = refl; low = l; below = m })) in
    rw (e, ne_eqb v 0 (omega arith))

-- the lengths of counts of hours and of minutes
count-short : (v : ℕ) → v < 2097152 → length (write_count v) ≤ 3
count-short v h = write-most 2 4 v h

count_long : (v : ℕ) → 2097152 ≤ v → 4 ≤ length (write_count v)
count_long v h = write-least 3 4 v (omega arith) h

-- minutes are said by their own count, or by one of hours
minutes-count : (p v : ℕ) → 2097152 ≤ v → v ≤ 2147483647
    → (count_to p (year1800 + v * minute) ≡ v) ⊎ ((count_to p (year1800 + v * minute) ≡ 0 → ⊥) × (count_to p (year1800 + v * minute) < 2097152))
minutes-count p v l m = go (eqb (hours_to p t) 0) refl
  where
    t : ℕ
    t = year1800 + v * minute

    go : (x : Bool) → eqb (hours_to p t) 0 ≡ x
        → (pick x (minutes_to t) (hours_to p t) ≡ v) ⊎ ((pick x (minutes_to t) (hours_to p t) ≡ 0 → ⊥) × (pick x (minutes_to t) (hours_to p t) < 2097152))
    go true e = inl (units-back minute 2097152 2147483648 year1800 t v (omega arith) (record { sum = refl; low = l; below = omega arith }))
    go false e =
        let k : hours_to p t ≡ 0 → ⊥ = eqb-false (hours_to p t) 0 e in
        inr (k, (hours-to p t k).1.below)

-- ticks in n + 8 bytes are the form of their instant, or a count is shorter
by-ticks-form : (p : ℕ) (s : List ℕ) (n : ℕ) → Bytes s → Ok (2, n) ≡ read_count s → 8 ≤ length (drop n s)
    → Finite (from_raw (fixed_from 8 0 (drop n s))) → Renews p s (Ok (from_raw (fixed_from 8 0 (drop n s)), n + 8))
unfolding write_groups
by-ticks-form p s n h e l g = go (eqb (count_to p t) 0) refl
  where
    raw : ℕ
    raw = fixed_from 8 0 (drop n s)

    t : ℕ
    t = from_raw raw

    one : n ≡ 1
    one = (counted s e).single (omega arith)

    go : (x : Bool) → eqb (count_to p t) 0 ≡ x → Renews p s (Ok (t, n + 8))
    go true z =
        let w : write_moment p t ≡ 2 ∷ fixed_bytes 8 (raw_of t) = rw (write-instant p t g, z) in
        let b : Bytes (drop n s) = drop-bytes n s h in
        let r : raw_of t ≡ raw = raw-instant raw (fixed-between 8 0 (drop n s) b l).below g in
        let c : s ≡ write_count 2 ++ drop n s = (count-form s h e).form in
        let f : drop n s ≡ fixed_bytes 8 raw ++ drop 8 (drop n s) = fixed-form 8 0 (drop n s) b l in
        inl (record {
          form = c ∙ ap (λ (x : List ℕ). 2 ∷ x) f ∙ rw (w, r, drop-drop 8 n s);
          size = rw (w, length-fixed 8 (raw_of t)) (omega (arith, one));
        })
    go false z =
        let k : count_to p t ≡ 0 → ⊥ = eqb-false (count_to p t) 0 z in
        inr (record { less = rw (instant-count p t g k) (omega (arith, (count-size (count_to p t)).most, one)); long = omega (arith, one) })

by-minutes-form : (p : ℕ) (s : List ℕ) (v n : ℕ) → Bytes s → Ok (v, n) ≡ read_count s → 2097152 ≤ v → Finite (year1800 + v * minute)
    → Renews p s (Ok (year1800 + v * minute, n))
by-minutes-form p s v n h e l g = go (minutes-count p v l (counted s e).small)
  where
    t : ℕ
    t = year1800 + v * minute

    go : (count_to p t ≡ v) ⊎ ((count_to p t ≡ 0 → ⊥) × (count_to p t < 2097152)) → Renews p s (Ok (t, n))
    go (inl q) = inl (of-count p s t v n h e (instant-count p t g (λ z. omega arith) ∙ ap write_count q))
    go (inr q) =
        let w : length (write_moment p t) ≤ 3 = rw (instant-count p t g q.0) (count-short (count_to p t) q.1) in
        let f : 3 < n = omega (arith, (count-form s h e).size, count_long v l) in
        inr (record { less = omega arith; long = f })

renews : (p : ℕ) (s : List ℕ) → Bytes s → Renews p s (read_moment p s)
unfolding write_moment
renews p s h = moment-holds p s (Renews p s) (record {
  refused = λ k. tt;
  start = λ n e. inl (of-count p s start_of_time 0 n h e refl);
  end = λ n e. inl (of-count p s end_of_time 1 n h e refl);
  hours = λ v n e l m f g.
      let q : count_to p (p + v * hour) ≡ v = hours-count p v f l m in
      inl (of-count p s (p + v * hour) v n h e (instant-count p (p + v * hour) g (λ z. omega arith) ∙ ap write_count q));
  minutes = λ v n e l g. by-minutes-form p s v n h e l g;
  ticks = λ n e l g. by-ticks-form p s n h e l g;
})

pub renewed : (p : ℕ) (s : List ℕ) {m n : ℕ} → Bytes s → Ok (m, n) ≡ read_moment p s → Preferred p s m n ⊎ Longer p m n
renewed p s h e = subst⁻¹ (Renews p s) e (renews p s h)

-- so it is never longer
pub never-longer : (p : ℕ) (s : List ℕ) {m n : ℕ} → Bytes s → Ok (m, n) ≡ read_moment p s → length (write_moment p m) ≤ n
never-longer p s {m} {n} h e = go (renewed p s h e)
  where
    go : Preferred p s m n ⊎ Longer p m n → length (write_moment p m) ≤ n
    go (inl k) = omega (arith, k.size)
    go (inr k) = omega (arith, k.less)

-- the written form is bytes
pub moment-bytes : (p m : ℕ) → Bytes (write_moment p m)
unfolding write_moment
moment-bytes p m =
    pick-holds Bytes (eqb m start_of_time) (λ _. count-bytes 0) (λ _.
    pick-holds Bytes (eqb m end_of_time) (λ _. count-bytes 1) (λ _.
    pick-holds Bytes (eqb (count_to p m) 0) (λ _. cons-bytes 2 (fixed_bytes 8 (raw_of m)) (omega arith) (fixed-bytes 8 (raw_of m)))
    (λ _. count-bytes (count_to p m))))
