-- The buffer merged into the main list, from the last number of both on. Assumes nothing.
use mathlib.Core.Path.{◌≡◌, refl, sym, ◌∙◌, ap}
use mathlib.Core.List.{List}
use Prim.Native.Nat.{ℕ, suc, ◌+◌, ◌-◌, ◌≤◌, ◌<◌}
use native.Mathlib.Omega.{arith}
use lib.ListN.{length, get_or, set, length-set}
use lib.Seq.{get_or-set_same, get_or-set_other}
use Rattle.base.proofs.Tests.{by_order}
use Rattle.ids.specs.Layout.{main_number, buffered, ahead, number_in, Placed}
use Rattle.ids.specs.Parts.{Shifted, Merged}
use Rattle.ids.proofs.LayoutLaws.{in-front, in-place, behind}

-- od₀ is the array before; the numbers of the main list before the place e and the first t of the buffer are still to be merged
pub record Merging (od₀ : List ℕ) (n b : ℕ) (od : List ℕ) (t e : ℕ) : Type 0 where
  pub room : length od ≡ length od₀
  pub left : t ≤ b
  pub inside : e + b ≤ n
  pub most : (s : ℕ) → s < t → ahead od₀ s ≤ e
  pub low : (i : ℕ) → i < e → main_number od i ≡ main_number od₀ i
  pub rest : (i : ℕ) → i < 257 → get_or od i 0 ≡ get_or od₀ i 0
  pub done : (i : ℕ) → e + t ≤ i → i < n → main_number od i ≡ number_in od₀ b i
  pub todo : (i : ℕ) → i < e + t → number_in od₀ b i ≡ number_in od₀ t i

pub merging_start : (od : List ℕ) (m b : ℕ) → Placed od (m + b) b → Merging od (m + b) b od b m
merging_start od m b p =
    record {
      room = refl;
      left = omega arith;
      inside = omega arith;
      most = λ s l. omega (arith, p.fits s l);
      low = λ i h. refl;
      rest = λ i h. refl;
      done = λ i g h. absurd (omega arith);
      todo = λ i h. refl;
    }

module _ (od₀ : List ℕ) (n b : ℕ) (od : List ℕ) (t e : ℕ) (g : Merging od₀ n b od t e) (few : b ≤ 128) (fits : n + 257 ≤ length od₀) where
  -- j is the last of those in the buffer that are left, behind a of the main list
  module _ (j a : ℕ) (next : t ≡ suc j) (place : a ≡ get_or od (128 + j) 0) where
    pub place_is : a ≡ ahead od₀ j
    unfolding ahead
    place_is = place ∙ g.rest (128 + j) (omega (arith, g.left))

    pub place-most : a ≤ e
    place-most = omega (arith, place_is, g.most j (omega arith))

    pub ends : e + t ≤ n
    ends = omega (arith, g.inside, g.left)

    last-is : (i : ℕ) → i < e + t → number_in od₀ b i ≡ number_in od₀ (suc j) i
    last-is i h = g.todo i h ∙ ap (λ (s : ℕ). number_in od₀ s i) next

    module _ (od₁ : List ℕ) (s : Shifted od (257 + a) (257 + e) t od₁) (ordered : (s : ℕ) → s < j → ahead od₀ s ≤ ahead od₀ j) where
      abbrev put : List ℕ
      put = set od₁ (257 + (a + j)) (get_or od₁ j 0)

      value-is : get_or od₁ j 0 ≡ buffered od₀ j
      unfolding buffered
      value-is = s.below j (omega (arith, g.left)) ∙ g.rest j (omega (arith, g.left))

      other : (i : ℕ) → (i ≡ a + j → ⊥) → main_number put i ≡ main_number od₁ i
      other i h = get_or-set_other od₁ (257 + (a + j)) (257 + i) _ 0 (λ e. h (omega arith))

      merged-here : (i : ℕ) → i ≡ a + j → main_number put i ≡ number_in od₀ b i
      merged-here i z =
          ap (main_number put) z
          ∙ get_or-set_same od₁ (257 + (a + j)) _ 0 (omega (arith, s.room, g.room, place-most, ends))
          ∙ value-is
          ∙ sym (last-is i (omega (arith, place-most)) ∙ in-place od₀ j i (omega (arith, place_is)))

      merged-moved : (i : ℕ) → a + j < i → i < e + t → main_number od₁ i ≡ number_in od₀ b i
      merged-moved i l h =
          let z : 257 + i ≡ 257 + (i - suc j) + t = omega arith in
          ap (λ (q : ℕ). get_or od₁ q 0) z
          ∙ s.moved (257 + (i - suc j)) (omega arith) (omega arith)
          ∙ g.low (i - suc j) (omega arith)
          ∙ sym (last-is i h ∙ behind od₀ j i (omega (arith, place_is)))

      pub merging-next : Merging od₀ n b put j a
      merging-next =
          record {
            room = length-set od₁ (257 + (a + j)) _ ∙ s.room ∙ g.room;
            left = omega (arith, g.left);
            inside = omega (arith, g.inside, place-most);
            most = λ q l. omega (arith, place_is, ordered q l);
            low = λ i h. other i (λ z. omega arith) ∙ s.below (257 + i) (omega arith) ∙ g.low i (omega (arith, place-most));
            rest = λ i h.
                get_or-set_other od₁ (257 + (a + j)) i _ 0 (λ z. omega arith) ∙ s.below i (omega arith) ∙ g.rest i h;
            done = λ i l h.
                by_order (a + j) i
                (λ x. other i (λ z. omega arith)
                ∙ by_order i (e + t) (λ y. merged-moved i x y) (λ y. s.above (257 + i) (omega arith) ∙ g.done i y h))
                (λ x. merged-here i (omega arith));
            todo = λ i h. last-is i (omega (arith, place-most)) ∙ in-front od₀ j i (omega (arith, place_is));
          }

  pub merging-done : t ≡ 0 → Merged od₀ n b (set od 256 0)
  unfolding number_in
  merging-done z =
      record {
        room = length-set od 256 0 ∙ g.room;
        size = get_or-set_same od 256 0 0 (omega (arith, g.room));
        is = λ i h.
            get_or-set_other od 256 (257 + i) 0 0 (λ e. omega arith)
            ∙ by_order i e
            (λ l. g.low i l ∙ sym (g.todo i (omega arith) ∙ ap (λ (q : ℕ). number_in od₀ q i) z))
            (λ l. g.done i (omega arith) h);
      }
