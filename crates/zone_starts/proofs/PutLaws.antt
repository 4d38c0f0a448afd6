-- Where the loop over the intervals stands, and how it goes on. Assumes nothing.
use Rattle.base.specs.declared.Refusal.{Refusal}
use mathlib.Core.Path.{◌≡◌, refl, sym, ap, ◌∙◌}
use mathlib.Core.List.{List, [], ◌∷◌, ◌++◌, append_assoc}
use Prim.Native.Nat.{ℕ, suc, ◌+◌, ◌-◌, ◌≤◌, ◌<◌}
use native.Mathlib.Omega.{arith}
use lib.IntN.{ℤ, pos}
use lib.ListN.{length, drop, get_or, set, length-append, length-drop}
use lib.Seq.{drop-cons, set_at}
use Rattle.base.specs.Parsed.{Parsed, got, bad, bind}
use Rattle.base.specs.Moment.{end_of_time}
use Rattle.base.proofs.ParseLaws.{bad-got}
use Rattle.base.proofs.ManyLaws.{Going, going_start, going-bad, going_next, going_done}
use Rattle.places.specs.Placed.{at, no, Stands}
use Rattle.signed.specs.Instant.{ticks_of}
use Rattle.intervals.specs.declared.Interval.{Interval}
use Rattle.intervals.specs.Interval.{parse_interval, start_of}
use Rattle.intervals.specs.Short.{short_interval}
use Rattle.next_intervals.specs.Next.{NextAt}
use Rattle.zone_starts.specs.Starts.{list_starts}
use Rattle.zone_starts.specs.View.{intervals_at, starts_in, list_of, over, CheckedAt}

pub starts-length : (is : List Interval) → length (list_starts is) ≡ length is
unfolding list_starts
starts-length [] = refl
starts-length (i ∷ is) = ap suc (starts-length is)

starts-snoc : (is : List Interval) (i : Interval) → list_starts (is ++ (i ∷ [])) ≡ list_starts is ++ (ticks_of i.start ∷ [])
unfolding list_starts
starts-snoc [] i = refl
starts-snoc (j ∷ is) i = ap (λ (r : List ℤ). ticks_of j.start ∷ r) (starts-snoc is i)

-- one entry more
over-next : (xs d : List ℤ) (z : ℤ) → length xs < length d → set (over xs d) (length xs) z ≡ over (xs ++ (z ∷ [])) d
unfolding over
over-next xs d z h =
    ap (λ (r : List ℤ). set (xs ++ r) (length xs) z) (drop-cons d (length xs) (pos 0) h)
    ∙ set_at xs (get_or d (length xs) (pos 0)) (drop (suc (length xs)) d) z (length xs) refl
    ∙ (let e : suc (length xs) ≡ length (xs ++ (z ∷ [])) = rw (length-append xs (z ∷ [])) (omega arith) in
    ap (λ (k : ℕ). xs ++ z ∷ drop k d) e ∙ sym (append_assoc xs (z ∷ []) (drop (length (xs ++ (z ∷ []))) d)))

pub over-length : (xs d : List ℤ) → length xs ≤ length d → length (over xs d) ≡ length d
unfolding over
over-length xs d h = rw (length-append xs (drop (length xs) d), length-drop (length xs) d) (omega arith)

over_none : (d : List ℤ) → d ≡ over [] d
unfolding over
over_none d = refl

module _ (pool : ℕ) (s : List ℕ) (n from : ℕ) (d : List ℤ) where
  -- where the loop stands: i entries are put, in a table that was d
  pub record Putting (left i place last : ℕ) (out : List ℤ) : Type 0 where
    pub pre : List Interval
    pub going : Going (parse_interval pool) start_of (intervals_at pool s n from) got s end_of_time n left place last pre
    pub count : i ≡ length pre
    pub out-is : out ≡ over (list_starts pre) d

  bind-got : (p : Parsed (List Interval)) → p ≡ bind p got
  bind-got (got is q) = refl
  bind-got (bad k) = refl

  pub putting-start : from ≤ length s → Putting n 0 from end_of_time d
  unfolding list_starts
  putting-start h = record {
    pre = [];
    going = going_start _ _ _ _ s _ n from h (bind-got (intervals_at pool s n from));
    count = refl;
    out-is = over_none d;
  }

  module _ (left i place last : ℕ) (out : List ℤ) (g : Putting left i place last out) where
    pub putting-in : place ≤ length s
    putting-in = g.going.place

    module _ (h : 0 < left) (l : n ≤ length d) where
      few : length (list_starts g.pre) < length d
      few = omega (arith, starts-length g.pre, g.going.count)

      pub putting-room : i < length out
      putting-room =
          let e : length out ≡ length d = ap length g.out-is ∙ over-length (list_starts g.pre) d (omega (arith, few)) in
          omega (arith, few, g.count, starts-length g.pre)

      pub putting-few : i < n
      putting-few = omega (arith, g.count, g.going.count)

      pub putting-next : (x : Interval) (e : ℕ) → Stands s (parse_interval pool last (drop place s)) (at x e) → (z : ℤ) → z ≡ ticks_of x.start
          → Putting (left - 1) (i + 1) e x.start (set out i z)
      putting-next x e b z f =
          let k : i ≡ length (list_starts g.pre) = g.count ∙ sym (starts-length g.pre) in
          record {
            pre = g.pre ++ (x ∷ []);
            going = going_next _ _ _ _ s _ n left place last g.pre x e g.going h b.means b.within;
            count = rw (length-append g.pre (x ∷ [])) (omega (arith, g.count));
            out-is =
                ap (λ (y : ℤ). set out i y) f
                ∙ ap (λ (o : List ℤ). set o i (ticks_of x.start)) g.out-is
                ∙ ap (λ (j : ℕ). set (over (list_starts g.pre) d) j (ticks_of x.start)) k
                ∙ over-next (list_starts g.pre) d (ticks_of x.start) few
                ∙ ap (λ (xs : List ℤ). over xs d) (sym (starts-snoc g.pre x));
          }

      -- an interval of five bytes
      pub putting-usual : (m : ℕ) → NextAt s pool place last m → (m ≡ 0 → ⊥) → (z : ℤ) → z ≡ ticks_of m
          → Putting (left - 1) (i + 1) (place + 5) m (set out i z)
      putting-usual m b y z f = putting-next (short_interval s (place + 2) m) (place + 5) (b.stands y) z f

    pub putting-length : n ≤ length d → length out ≡ length d
    putting-length l =
        ap length g.out-is ∙ over-length (list_starts g.pre) d (omega (arith, starts-length g.pre, g.going.count))

    -- what was checked is not refused
    pub putting-never : {G : Type 0} (k : Refusal) → 0 < left → CheckedAt pool s n from → Stands s (parse_interval pool last (drop place s)) (no k) → G
    putting-never k h c b = bad-got (sym (going-bad _ _ _ _ s _ n left place last g.pre k g.going h b.means) ∙ c.read)

    pub putting-done : left ≡ 0 → out ≡ over (list_of pool s n from) d
    unfolding list_of
    putting-done h =
        g.out-is
        ∙ ap (λ (p : Parsed (List Interval)). over (starts_in p) d) (sym (going_done _ _ _ _ s _ n left place last g.pre g.going h))
