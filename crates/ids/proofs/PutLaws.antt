-- The list with one number more. Assumes nothing.
use mathlib.Core.Path.{◌≡◌, sym, ◌∙◌, ap, subst}
use mathlib.Core.List.{List}
use Prim.Native.Nat.{ℕ, suc, ◌+◌, ◌-◌, ◌≤◌, ◌<◌}
use native.Mathlib.Omega.{arith}
use lib.ListN.{length, get_or, set, length-set}
use lib.Seq.{get_or-set_same, get_or-set_other}
use Rattle.ids.specs.Layout.{main_number, ahead, buffer_size, number_in, number_at, Placed, Fits}
use Rattle.ids.specs.Parts.{Buffered, Merged}
use Rattle.ids.specs.Memory.{Roomy, Added}
use Rattle.ids.proofs.BufferLaws.{put-below, put-here, put-above, put-placed}

-- with nothing in the buffer the list is the main list
pub main-only : (od : List ℕ) (i : ℕ) → buffer_size od ≡ 0 → number_at od i ≡ main_number od i
unfolding number_in
main-only od i e = ap (λ (b : ℕ). number_in od b i) e

pub placed-none : (od : List ℕ) (n b : ℕ) → b ≡ 0 → Placed od n b
placed-none od n b e =
    record {
      few = omega arith;
      inside = omega arith;
      fits = λ j l. absurd (omega arith);
      rising = λ i j l m. absurd (omega arith);
    }

pub roomy-none : (od : List ℕ) (n : ℕ) → buffer_size od ≡ 0 → Roomy od n
roomy-none od n e = record { free = omega arith; placed = placed-none od n _ e }

module _ (od : List ℕ) (n i j k : ℕ) (r : Roomy od n) (f : Fits od n i j) (l : n + 257 < length od) where
  -- at the end of the main list
  module _ (none : buffer_size od ≡ 0) (last : i ≡ n) where
    abbrev put : List ℕ
    put = set od (257 + n) k

    none' : buffer_size put ≡ 0
    none' = get_or-set_other od (257 + n) 256 k 0 (λ e. omega arith) ∙ none

    end : i + j ≡ n
    end = omega (arith, f.few)

    pub added-last : Added od n (i + j) k put
    added-last =
        record {
          room = length-set od (257 + n) k;
          roomy = roomy-none put (suc n) none';
          below = λ q h.
              main-only put q none' ∙ get_or-set_other od (257 + n) (257 + q) k 0 (λ e. omega (arith, end)) ∙ sym (main-only od q none);
          here = main-only put (i + j) none' ∙ ap (main_number put) end ∙ get_or-set_same od (257 + n) k 0 (omega arith);
          above = λ q g h. absurd (omega (arith, end));
        }

  module _ (b : ℕ) (size : b ≡ buffer_size od) (od' : List ℕ) (w : Buffered od b i j k od') where
    lower : (t : ℕ) → t < j → ahead od t ≤ i
    lower = f.below

    upper : (t : ℕ) → j ≤ t → t < b → i ≤ ahead od t
    upper t g h = f.above t g (omega arith)

    placed : Placed od n b
    placed = rw size r.placed

    pub buffer_placed : Placed od' (suc n) (suc b)
    buffer_placed = put-placed od od' b i j k w lower upper n placed (omega (arith, r.free)) (omega (arith, f.inside)) (omega (arith, f.few))

    pub full-placed : b ≡ 127 → Placed od' (n - b + 128) 128
    full-placed full =
        let z : suc b ≡ 128 = omega arith in
        let y : suc n ≡ n - b + 128 = omega (arith, r.placed.inside) in
        subst (Placed od' (n - b + 128)) z (subst (λ (q : ℕ). Placed od' q (suc b)) y buffer_placed)

    -- whichever array holds the list with the fuller buffer
    module _ (od'' : List ℕ) (r'' : length od'' ≡ length od) (s : Roomy od'' (suc n)) (same : (q : ℕ) → q < suc n → number_at od'' q ≡ number_in od' (suc b) q) where
      before : (q : ℕ) → number_in od b q ≡ number_at od q
      before q = ap (λ (c : ℕ). number_in od c q) size

      added : Added od n (i + j) k od''
      added =
          record {
            room = r'';
            roomy = s;
            below = λ q h.
                same q (omega (arith, f.inside, f.few))
                ∙ put-below od od' b i j k w lower upper b q (omega (arith, f.few)) (omega arith) h
                ∙ before q;
            here =
                same (i + j) (omega (arith, f.inside, f.few))
                ∙ put-here od od' b i j k w lower upper b (omega (arith, f.few)) (omega arith);
            above = λ q g h.
                same (q + 1) (omega arith)
                ∙ put-above od od' b i j k w lower upper b q (omega (arith, f.few)) (omega arith) g
                ∙ before q;
          }

    pub added-buffered : (b ≡ 127 → ⊥) → Added od n (i + j) k od'
    added-buffered free =
        added od' w.room
        record {
          free = omega (arith, w.size, r.free);
          placed = rw w.size buffer_placed;
        }
        (λ q h. ap (λ (c : ℕ). number_in od' c q) w.size)

    pub added-merged : (od'' : List ℕ) → b ≡ 127 → Merged od' (n - b + 128) 128 od'' → Added od n (i + j) k od''
    added-merged od'' full g =
        let z : suc b ≡ 128 = omega arith in
        added od'' (g.room ∙ w.room) (roomy-none od'' (suc n) g.size)
        (λ q h. main-only od'' q g.size ∙ g.is q (omega (arith, r.placed.inside)) ∙ sym (ap (λ (c : ℕ). number_in od' c q) z))
