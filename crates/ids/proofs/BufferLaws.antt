-- A number put into the buffer. Assumes nothing.
use mathlib.Core.Path.{◌≡◌, refl, sym, ◌∙◌, ap}
use mathlib.Core.List.{List}
use Prim.Native.Nat.{ℕ, zero, suc, ◌+◌, ◌-◌, ◌≤◌, ◌<◌}
use native.Mathlib.Omega.{arith}
use lib.ListN.{length, get_or, set, length-set}
use lib.Seq.{get_or-set_same, get_or-set_other}
use Rattle.base.proofs.Tests.{by_order}
use Rattle.ids.specs.Layout.{main_number, buffered, ahead, number_in, Placed}
use Rattle.ids.specs.Parts.{Shifted, Inserted, Buffered}
use Rattle.ids.proofs.LayoutLaws.{in-front, in-place, behind, behind-all}

-- moving up, from the last place down
pub shifted_none : (od : List ℕ) (e many : ℕ) → Shifted od e e many od
shifted_none od e many = record { room = refl; moved = λ i h l. absurd (omega arith); below = λ i h. refl; above = λ i h. refl }

pub shifted-more : (od od' : List ℕ) (i e many : ℕ) → Shifted od i e many od' → 0 < i → i ≤ e → e + many ≤ length od
    → Shifted od (i - 1) e many (set od' (i - 1 + many) (get_or od' (i - 1) 0))
shifted-more od od' i e many s p l r =
    record {
      room = length-set od' (i - 1 + many) _ ∙ s.room;
      moved = λ q g h.
          by_order q i
          (λ b. let z : q ≡ i - 1 = omega arith in
          rw z (get_or-set_same od' (i - 1 + many) _ 0 (omega (arith, s.room)) ∙ s.below (i - 1) (omega arith)))
          (λ b. get_or-set_other od' (i - 1 + many) (q + many) _ 0 (λ e. omega arith) ∙ s.moved q b h);
      below = λ q h. get_or-set_other od' (i - 1 + many) q _ 0 (λ e. omega arith) ∙ s.below q (omega arith);
      above = λ q h. get_or-set_other od' (i - 1 + many) q _ 0 (λ e. omega arith) ∙ s.above q h;
    }

pub shifted-inserted : (od od' : List ℕ) (n p k : ℕ) → Shifted od p n 1 od' → p ≤ n → n < length od → Inserted od n p k (set od' p k)
shifted-inserted od od' n p k s l r =
    record {
      room = length-set od' p k ∙ s.room;
      below = λ i h. get_or-set_other od' p i k 0 (λ e. omega arith) ∙ s.below i (omega arith);
      here = get_or-set_same od' p k 0 (omega (arith, s.room));
      moved = λ i g h. get_or-set_other od' p (i + 1) k 0 (λ e. omega arith) ∙ s.moved i g h;
      above = λ i h. get_or-set_other od' p i k 0 (λ e. omega arith) ∙ s.above i (omega arith);
    }

-- two insertions, of a number and of its place, and the new size
module _ (od od₁ od₂ : List ℕ) (b i j k : ℕ) (l : b < 128) (h : j ≤ b) (room : 257 ≤ length od)
    (s : Inserted od b j k od₁) (t : Inserted od₁ (128 + b) (128 + j) i od₂) where
  two-room : length od₂ ≡ length od
  two-room = t.room ∙ s.room

  other : (q : ℕ) → (q ≡ 256 → ⊥) → get_or (set od₂ 256 (b + 1)) q 0 ≡ get_or od₂ q 0
  other q m = get_or-set_other od₂ 256 q (b + 1) 0 m

  pub inserted-buffered : Buffered od b i j k (set od₂ 256 (b + 1))
  unfolding buffered ahead
  inserted-buffered =
      record {
        room = length-set od₂ 256 (b + 1) ∙ two-room;
        size = get_or-set_same od₂ 256 (b + 1) 0 (omega (arith, two-room)) ∙ (let e : b + 1 ≡ suc b = omega arith in e);
        main = λ q. other (257 + q) (λ e. omega arith) ∙ t.above (257 + q) (omega arith) ∙ s.above (257 + q) (omega arith);
        numbers =
            record {
              below = λ q m. other q (λ e. omega arith) ∙ t.below q (omega arith) ∙ s.below q m;
              here = other j (λ e. omega arith) ∙ t.below j (omega arith) ∙ s.here;
              above = λ q g m.
                  let e : suc q ≡ q + 1 = omega arith in
                  ap (λ (p : ℕ). get_or (set od₂ 256 (b + 1)) p 0) e
                  ∙ other (q + 1) (λ e. omega arith)
                  ∙ t.below (q + 1) (omega arith)
                  ∙ s.moved q g m;
            };
        places =
            record {
              below = λ q m. other (128 + q) (λ e. omega arith) ∙ t.below (128 + q) (omega arith) ∙ s.above (128 + q) (omega arith);
              here = other (128 + j) (λ e. omega arith) ∙ t.here;
              above = λ q g m.
                  let e : 128 + suc q ≡ 128 + q + 1 = omega arith in
                  ap (λ (p : ℕ). get_or (set od₂ 256 (b + 1)) p 0) e
                  ∙ other (128 + q + 1) (λ e. omega arith)
                  ∙ t.moved (128 + q) (omega arith) (omega arith)
                  ∙ s.above (128 + q) (omega arith);
            };
      }

-- the list with a number more in the buffer
module _ (od od' : List ℕ) (b i j k : ℕ) (w : Buffered od b i j k od') (below : (t : ℕ) → t < j → ahead od t ≤ i)
    (above : (t : ℕ) → j ≤ t → t < b → i ≤ ahead od t) where
  same_first : (t q : ℕ) → t ≤ j → number_in od' t q ≡ number_in od t q
  unfolding number_in
  same_first zero q l = w.main q
  same_first (suc t) q l =
      rw (w.places.below t l, w.numbers.below t l, same_first t q (omega arith), w.main (q - suc t))

  -- the place of a number that went up
  up : (t : ℕ) → j ≤ t → t < b → ahead od' (suc t) + suc t ≡ ahead od t + t + 1
  up t g h = let e = w.places.above t g h in omega arith

  pub put-below : (t q : ℕ) → j ≤ t → t ≤ b → q < i + j → number_in od' (suc t) q ≡ number_in od t q
  put-below zero q g h m =
      let z : 0 ≡ j = omega arith in
      in-front od' zero q (omega (arith, ap (ahead od') z, w.places.here)) ∙ same_first zero q (omega arith)
  put-below (suc t) q g h m =
      by_order j (suc t)
      (λ s. in-front od' (suc t) q (omega (arith, up t (omega arith) (omega arith), above t (omega arith) (omega arith)))
      ∙ put-below t q (omega arith) (omega arith) m
      ∙ sym (in-front od t q (omega (arith, above t (omega arith) (omega arith)))))
      (λ s. let z : suc t ≡ j = omega arith in
      in-front od' (suc t) q (omega (arith, ap (ahead od') z, w.places.here)) ∙ same_first (suc t) q (omega arith))

  pub put-here : (t : ℕ) → j ≤ t → t ≤ b → number_in od' (suc t) (i + j) ≡ k
  put-here zero g h =
      let z : 0 ≡ j = omega arith in
      in-place od' zero (i + j) (omega (arith, ap (ahead od') z, w.places.here)) ∙ ap (buffered od') z ∙ w.numbers.here
  put-here (suc t) g h =
      by_order j (suc t)
      (λ s. in-front od' (suc t) (i + j) (omega (arith, up t (omega arith) (omega arith), above t (omega arith) (omega arith)))
      ∙ put-here t (omega arith) (omega arith))
      (λ s. let z : suc t ≡ j = omega arith in
      in-place od' (suc t) (i + j) (omega (arith, ap (ahead od') z, w.places.here)) ∙ ap (buffered od') z ∙ w.numbers.here)

  -- behind the number that was put where no other of the buffer is behind it
  last-above : (q : ℕ) → i + j ≤ q → number_in od' (suc j) (q + 1) ≡ number_in od j q
  last-above q m =
      let e : q + 1 - suc j ≡ q - j = omega arith in
      behind od' j (q + 1) (omega (arith, w.places.here))
      ∙ ap (main_number od') e
      ∙ w.main (q - j)
      ∙ sym (behind-all od j q (λ t h. omega (arith, below t h)))

  pub put-above : (t q : ℕ) → j ≤ t → t ≤ b → i + j ≤ q → number_in od' (suc t) (q + 1) ≡ number_in od t q
  put-above zero q g h m =
      let z : j ≡ 0 = omega arith in
      ap (λ (p : ℕ). number_in od' (suc p) (q + 1)) (sym z) ∙ last-above q m ∙ ap (λ (p : ℕ). number_in od p q) z
  put-above (suc t) q g h m =
      by_order j (suc t)
      (λ s. by_order q (ahead od t + t)
      (λ a. in-front od' (suc t) (q + 1) (omega (arith, up t (omega arith) (omega arith)))
      ∙ put-above t q (omega arith) (omega arith) m
      ∙ sym (in-front od t q a))
      (λ a. by_order (ahead od t + t) q
      (λ c. let e : q + 1 - suc (suc t) ≡ q - suc t = omega arith in
      behind od' (suc t) (q + 1) (omega (arith, up t (omega arith) (omega arith)))
      ∙ ap (main_number od') e
      ∙ w.main (q - suc t)
      ∙ sym (behind od t q c))
      (λ c. in-place od' (suc t) (q + 1) (omega (arith, up t (omega arith) (omega arith)))
      ∙ w.numbers.above t (omega arith) (omega arith)
      ∙ sym (in-place od t q (omega arith)))))
      (λ s. let z : j ≡ suc t = omega arith in
      ap (λ (p : ℕ). number_in od' (suc p) (q + 1)) (sym z) ∙ last-above q m ∙ ap (λ (p : ℕ). number_in od p q) z)

  -- the places in the new buffer
  module _ (n : ℕ) (p : Placed od n b) (g : b < 128) (h : i + b ≤ n) (r : j ≤ b) where
    by_place : (G : ℕ → Type 0) (t : ℕ) → t < suc b → (t < j → G (ahead od t)) → (t ≡ j → G i) → (j < t → G (ahead od (t - 1))) → G (ahead od' t)
    by_place G t l x y z =
        by_order t j
        (λ q. rw (w.places.below t q) (x q))
        (λ q. by_order j t
        (λ s. let e : suc (t - 1) ≡ t = omega arith in rw (← e, w.places.above (t - 1) (omega arith) (omega arith)) (z s))
        (λ s. let e : t ≡ j = omega arith in rw (e, w.places.here) (y e)))

    pub put-placed : Placed od' (suc n) (suc b)
    put-placed =
        record {
          few = g;
          inside = omega (arith, p.inside);
          fits = λ t l.
              by_place (λ a. a + suc b ≤ suc n) t l
              (λ q. omega (arith, below t q))
              (λ q. omega arith)
              (λ q. omega (arith, p.fits (t - 1) (omega arith)));
          rising = λ s t l m.
              by_place (λ a. a ≤ ahead od' t) s (omega arith)
              (λ q. by_place (λ a. ahead od s ≤ a) t m
              (λ u. p.rising s t l (omega arith))
              (λ u. below s q)
              (λ u. omega (arith, below s q, above (t - 1) (omega arith) (omega arith))))
              (λ q. by_place (λ a. i ≤ a) t m
              (λ u. absurd (omega arith))
              (λ u. omega arith)
              (λ u. above (t - 1) (omega arith) (omega arith)))
              (λ q. by_place (λ a. ahead od (s - 1) ≤ a) t m
              (λ u. absurd (omega arith))
              (λ u. absurd (omega arith))
              (λ u. p.rising (s - 1) (t - 1) (omega arith) (omega arith)));
        }
