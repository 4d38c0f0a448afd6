-- A tally of moments is a count of ticks. Assumes nothing.
use mathlib.Core.Path.{◌≡◌, refl, sym, ap, ◌∙◌, subst}
use mathlib.Core.Bool.{Bool, true}
use mathlib.Core.List.{List, [], ◌∷◌}
use mathlib.Core.Logic.{inl, inr}
use Prim.Native.Nat.{ℕ, suc}
use native.Mathlib.Omega.{arith}
use lib.Dec.{T}
use lib.IntN.{ℤ}
use lib.ListN.{length}
use borrow.Author.Tests.{lt-ltb, ne_eqb}
use Rattle.base.specs.Moment.{Finite}
use Rattle.signed.specs.Instant.{ticks_of, instant_of, InRange}
use Rattle.signed.proofs.IntegerLaws.{ticks-instant, instant-finite}
use Rattle.signed.proofs.TickLaws.{ticks-lt}
use Rattle.local_times.specs.Reads.{Among as AmongMoments, Rises, Lists as ListsMoments}
use Rattle.local_times.specs.Tally.{latest_of as latest_moment, tally_of}
use Rattle.wall_times.specs.WallTime.{Among, After, Ascending, latest_of, count_of, Counts}
use Rattle.wall_times.specs.View.{mapping_of}

-- the ticks of some moments
abbrev ticked : List ℕ → List ℤ
ticked [] = []
ticked (t ∷ ts) = ticks_of t ∷ ticked ts

ticked-length : (ts : List ℕ) → length (ticked ts) ≡ length ts
ticked-length [] = refl
ticked-length (t ∷ ts) = ap suc (ticked-length ts)

ticked-latest : (t : ℕ) (ts : List ℕ) → latest_of (ticks_of t) (ticked ts) ≡ ticks_of (latest_moment t ts)
unfolding latest_moment
ticked-latest t [] = refl
ticked-latest t (u ∷ us) = ticked-latest u us

ticked-count : (ts : List ℕ) → mapping_of (tally_of ts) ≡ count_of (ticked ts)
unfolding mapping_of
ticked-count [] = refl
ticked-count (t ∷ ts) =
    rw (ne_eqb (length (t ∷ ts)) 0 (omega arith), ticked-latest t ts, ticked-length ts)

told : {b : Bool} → b ≡ true → T b
told {b} e = rw e tt

ticked-after : (t : ℕ) (ts : List ℕ) → Finite t → ((u : ℕ) → AmongMoments u ts → Finite u) → Rises (suc t) ts → After (ticks_of t) (ticked ts)
ticked-after t [] f g r = tt
ticked-after t (u ∷ us) f g r =
    (record { lt = told (ticks-lt u t f ∙ lt-ltb t u (omega (arith, r.0))) }, ticked-after u us (g u (inl refl)) (λ v m. g v (inr m)) r.1)

ticked-rising : (ts : List ℕ) → ((u : ℕ) → AmongMoments u ts → Finite u) → Rises 0 ts → Ascending (ticked ts)
ticked-rising [] g r = tt
ticked-rising (t ∷ ts) g r = ticked-after t ts (g t (inl refl)) (λ v m. g v (inr m)) r.1

ticked-has : (t : ℕ) (ts : List ℕ) → AmongMoments t ts → Among (ticks_of t) (ticked ts)
ticked-has t [] m = m
ticked-has t (u ∷ us) (inl e) = inl (ap ticks_of e)
ticked-has t (u ∷ us) (inr m) = inr (ticked-has t us m)

ticked-from : (z : ℤ) (ts : List ℕ) {G : Type 0} → ((t : ℕ) → AmongMoments t ts → z ≡ ticks_of t → G) → Among z (ticked ts) → G
ticked-from z [] k m = absurd m
ticked-from z (u ∷ us) k (inl e) = k u (inl refl) e
ticked-from z (u ∷ us) k (inr m) = ticked-from z us (λ t n e. k t (inr n) e) m

-- A TALLY OF MOMENTS IS A COUNT OF TICKS, where Q of a tick is P of its moment
pub tally-counts : (P : ℕ → Type 0) (Q : ℤ → Type 0) → ((t : ℕ) → P t → Finite t) → ((z : ℤ) → Q z → InRange z)
    → ((t : ℕ) → P t → Q (ticks_of t)) → ((z : ℤ) → Q z → P (instant_of z)) → (ts : List ℕ) → ListsMoments P ts → Counts Q (mapping_of (tally_of ts))
tally-counts P Q f g to from ts i = record {
  instants = ticked ts;
  lists = record {
    rising = ticked-rising ts (λ t m. f t (i.sound t m)) i.rises;
    sound = λ z m. ticked-from z ts (λ t n e. subst Q (sym e) (to t (i.sound t n))) m;
    complete = λ z q.
        let e : ticks_of (instant_of z) ≡ z = ticks-instant z (instant-finite (instant_of z) z refl (g z q)) in
        subst (λ (y : ℤ). Among y (ticked ts)) e (ticked-has (instant_of z) ts (i.complete (instant_of z) (from z q)));
  };
  is = ticked-count ts;
}
