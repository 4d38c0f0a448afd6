-- Each way out of the difference of two files. Assumes nothing.
use Rattle.base.specs.declared.Refusal.{Refusal}
use Rattle.base.specs.declared.Refusal.TheVariants.{OutOfRange, TooShort}
use Rattle.base.specs.Coded.{Fault}
use Rattle.std.specs.Prelude.{Err, Ok, Result}
use mathlib.Core.Path.{◌≡◌, refl, sym, ap, ◌∙◌, subst}
use mathlib.Core.List.{List, [], ◌∷◌}
use Prim.Native.Nat.{ℕ, ◌/◌, ◌≤◌, ◌<◌}
use native.Mathlib.Omega.{arith}
use native.Mathlib.Nat.{zero-add}
use lib.IntN.{ℤ}
use lib.ListN.{length}
use lib.Seq.{sets, sets-eq}
use borrow.Author.Tests.{le-leb, lt-leb, eq-eqb, ne_eqb}
use Rattle.base.specs.Moment.{Finite}
use Rattle.signed.specs.Instant.{instant_of, ticks_of, InRange}
use Rattle.signed.proofs.IntegerLaws.{instant-ticks, ticks-instant, instant-finite}
use Rattle.frames.specs.Machine.{walk}
use Rattle.answers.specs.Answers.{no_pool}
use Rattle.locate.specs.Asked.{holder}
use Rattle.stretches.specs.Stretches.{Stretch, stretches, numbers_of}
use Rattle.stretches.proofs.StepLaws.{numbers-length, same-stretches}
use Rattle.zone_differences.specs.Differ.{differ_at as zones_differ}
use Rattle.differences.specs.Difference.{ask_all, differ_at, differences, listed, after_both, difference, filled, Gives}
use Rattle.differences.specs.View.{pool_of, zone_of, SideIn, HeldBy, Refuses, side_stretches, Lists, GivesBetween}
use Rattle.differences.specs.declared.Side.{Side}
use Rattle.differences.proofs.AnswerLaws.{asks-refused, side-answers-at, differ-is}

-- a list that is too small, and one that is not
module _ (xs : List Stretch) (d : List ℤ) where
  pub lists-short : (n : ℕ) → n ≡ length xs → length d / 2 < n → Lists xs d (Err (TooShort, 0)) d
  unfolding listed filled
  lists-short n e h = record { result = rw (lt-leb (length xs) (length d / 2) (omega arith)); output = refl }

  pub lists-all : (n k : ℕ) (e : List ℤ) → n ≡ length xs → n ≤ length d / 2 → (k ≡ length xs) × (e ≡ sets d 0 (numbers_of xs)) → Lists xs d (Ok k) e
  unfolding listed filled
  lists-all n k e i h g = record {
    result = rw (le-leb (length xs) (length d / 2) (omega arith)) (ap Ok g.0);
    output = g.1 ∙ sets-eq (numbers_of xs) d 0 (omega (arith, numbers-length xs)) ∙ rw (zero-add (length (numbers_of xs)));
  }

  pub lists-none : (n : ℕ) → n ≡ length xs → n ≡ 0 → Lists xs d (Ok 0) d
  unfolding listed filled numbers_of
  lists-none n e z = go xs (sym e ∙ z)
    where
      go : (ys : List Stretch) → length ys ≡ 0 → Lists ys d (Ok 0) d
      go [] h = record { result = rw (le-leb 0 (length d / 2) (omega arith)); output = refl }
      go (y ∷ ys) h = absurd (omega arith)

-- two files, from the instant first to before the instant last
module _ (f g id : List ℕ) (first last : ℕ) (d : List ℤ) (l : Finite first) where
  abbrev all : List Stretch
  all = stretches (differ_at f g id) first last

  in-range : InRange (ticks_of first)
  in-range e = omega (arith, l.low, instant-ticks first l)

  -- a refusal writes nothing
  pub left-refused : (n : Refusal) (p : ℕ) → Refuses (walk (holder id) no_pool f) n p → GivesBetween f g id first last d (Err (n, p)) d
  unfolding filled
  left-refused n p r = record { result = rw (asks-refused f id (ticks_of first) in-range n p r); output = refl }

  module _ (sf : List ℕ) (x : Side) (a : SideIn f sf first x × HeldBy f (walk (holder id) no_pool f) x) where
    pub right-refused : (n : Refusal) (p : ℕ) → Refuses (walk (holder id) no_pool g) n p → GivesBetween f g id first last d (Err (n, p)) d
    unfolding filled
    right-refused n p r = record {
      result = rw (side-answers-at f id sf first x a.0 a.1 first l, asks-refused g id (ticks_of first) in-range n p r);
      output = refl;
    }

    pub both-listed : (sg : List ℕ) (y : Side) → SideIn g sg first y × HeldBy g (walk (holder id) no_pool g) y → Finite last
        → (r : Result ℕ Fault) (e : List ℤ) → Lists (side_stretches f x g y first last) d r e → GivesBetween f g id first last d r e
    both-listed sg y b m r e k =
        let same : side_stretches f x g y first last ≡ all =
        sym (same-stretches (differ_at f g id) (zones_differ (zone_of f x) (pool_of f x) (zone_of g y) (pool_of g y)) first last
        (λ u i j. differ-is f g id sf sg first x y a.0 a.1 b.0 b.1 u (record { low = omega (arith, l.low); high = omega (arith, m.high) }))) in
        record {
          result = k.result ∙ ap (λ (xs : List Stretch). listed xs (length d / 2)) same
              ∙ sym (rw (side-answers-at f id sf first x a.0 a.1 first l, side-answers-at g id sg first y b.0 b.1 first l));
          output = k.output ∙ ap (λ (xs : List Stretch). filled r xs d) same;
        }

-- their ticks
module _ (f g id : List ℕ) (first last : ℤ) (d : List ℤ) (a : ℕ) (h : a ≡ instant_of first) where
  pub gives-first : a ≡ 0 → Gives f g id first last d (Err (OutOfRange, 0)) d
  unfolding difference filled
  gives-first z = record { result = rw (eq-eqb (instant_of first) 0 (sym h ∙ z)); output = refl }

  module _ (i : a ≡ 0 → ⊥) (b : ℕ) (j : b ≡ instant_of last) where
    pub gives-last : b ≡ 0 → Gives f g id first last d (Err (OutOfRange, 0)) d
    unfolding difference filled
    gives-last z = record { result = rw (ne_eqb (instant_of first) 0 (λ e. i (h ∙ e)), eq-eqb (instant_of last) 0 (sym j ∙ z)); output = refl }

    pub gives-between : (b ≡ 0 → ⊥) → (r : Result ℕ Fault) (e : List ℤ) → GivesBetween f g id a b d r e → Gives f g id first last d r e
    unfolding difference
    gives-between k r e w =
        let t : ticks_of a ≡ first = ap (λ (m : ℕ). ticks_of m) h ∙ ticks-instant first (subst Finite h (instant-finite a first h i)) in
        let all : stretches (differ_at f g id) a b ≡ differences f g id first last =
        ap (λ (m : ℕ). stretches (differ_at f g id) m b) h ∙ ap (λ (m : ℕ). stretches (differ_at f g id) (instant_of first) m) j in
        record {
          result = rw (ne_eqb (instant_of first) 0 (λ e. i (h ∙ e)), ne_eqb (instant_of last) 0 (λ e. k (j ∙ e)))
              (w.result ∙ ap (λ (z : ℤ). after_both (ask_all f id z) (ask_all g id z) (listed (stretches (differ_at f g id) a b) (length d / 2))) t
              ∙ ap (λ (xs : List Stretch). after_both (ask_all f id first) (ask_all g id first) (listed xs (length d / 2))) all);
          output = w.output ∙ ap (λ (xs : List Stretch). filled r xs d) all;
        }
