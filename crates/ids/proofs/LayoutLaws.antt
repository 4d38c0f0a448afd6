-- Laws of the list that an array holds: where the numbers of the main list and of the buffer stand in it. Assumes nothing.
use mathlib.Core.Path.{◌≡◌, refl, sym, ◌∙◌, ap}
use mathlib.Core.List.{List}
use Prim.Native.Nat.{ℕ, zero, suc, ◌+◌, ◌-◌, ◌≤◌, ◌<◌}
use native.Mathlib.Omega.{arith}
use native.Mathlib.Nat.{not-suc-le-zero}
use lib.ListN.{get_or}
use borrow.Author.Tests.{lt-ltb, le-ltb, eq-eqb, ne_eqb}
use Rattle.base.proofs.Tests.{by_order}
use Rattle.ids.specs.Layout.{main_number, buffered, ahead, number_in, Placed, low_of, high_of}

-- the last of the buffer's first numbers, and what stands before and behind it
module _ (od : List ℕ) (j i : ℕ) where
  pub in-front : i < ahead od j + j → number_in od (suc j) i ≡ number_in od j i
  unfolding number_in
  in-front h = rw (lt-ltb i (ahead od j + j) h)

  pub in-place : i ≡ ahead od j + j → number_in od (suc j) i ≡ buffered od j
  unfolding number_in
  in-place h = rw (le-ltb i (ahead od j + j) (omega arith), eq-eqb i (ahead od j + j) h)

  pub behind : ahead od j + j < i → number_in od (suc j) i ≡ main_number od (i - suc j)
  unfolding number_in
  behind h = rw (le-ltb i (ahead od j + j) (omega arith), ne_eqb i (ahead od j + j) (λ e. omega arith))

-- behind all of the first j
pub behind-all : (od : List ℕ) (j i : ℕ) → ((t : ℕ) → t < j → ahead od t + t < i) → number_in od j i ≡ main_number od (i - j)
unfolding number_in
behind-all od zero i h = let e : i ≡ i - 0 = omega arith in ap (main_number od) e
behind-all od (suc j) i h = behind od j i (h j (omega arith))

-- before all of those from j on
pub in-front-all : (od : List ℕ) (b j i : ℕ) → j ≤ b → ((t : ℕ) → j ≤ t → t < b → i < ahead od t + t) → number_in od b i ≡ number_in od j i
in-front-all od zero j i l h = let e : 0 ≡ j = omega arith in ap (λ (q : ℕ). number_in od q i) e
in-front-all od (suc b) j i l h =
    by_order j (suc b)
    (λ m. in-front od b i (h b (omega arith) (omega arith)) ∙ in-front-all od b j i (omega arith) (λ t p q. h t p (omega arith)))
    (λ m. let e : suc b ≡ j = omega arith in ap (λ (q : ℕ). number_in od q i) e)

module _ (od : List ℕ) (n b : ℕ) (p : Placed od n b) where
  -- a number of the buffer
  pub buffer-at : (j : ℕ) → j < b → number_in od b (ahead od j + j) ≡ buffered od j
  buffer-at j l =
      in-front-all od b (suc j) (ahead od j + j) l (λ t g h. omega (arith, p.rising j t (omega arith) h))
      ∙ in-place od j (ahead od j + j) refl

  -- a number of the main list, behind j of the buffer
  pub main-at : (i j : ℕ) → j ≤ b → ((t : ℕ) → t < j → ahead od t ≤ i) → ((t : ℕ) → j ≤ t → t < b → i < ahead od t)
      → number_in od b (i + j) ≡ main_number od i
  main-at i j l lo hi =
      let e : i + j - j ≡ i = omega arith in
      in-front-all od b j (i + j) l (λ t g h. omega (arith, hi t g h))
      ∙ behind-all od j (i + j) (λ t h. omega (arith, lo t h))
      ∙ ap (main_number od) e

  -- the places of the main list between two of the buffer
  pub low-above : (j t : ℕ) → j ≤ b → t < j → ahead od t ≤ low_of od j
  unfolding low_of
  low-above zero t l h = absurd (not-suc-le-zero h)
  low-above (suc j) t l h = p.rising t j (omega arith) l

  pub high-inner : (j : ℕ) → j < b → high_of od (n - b) b j ≡ ahead od j
  unfolding high_of
  high-inner j l = rw (ne_eqb j b (λ e. omega arith))

  pub high-outer : (j : ℕ) → j ≡ b → high_of od (n - b) b j ≡ n - b
  unfolding high_of
  high-outer j e = rw (eq-eqb j b e)

  pub high-below : (j t : ℕ) → j ≤ t → t < b → high_of od (n - b) b j ≤ ahead od t
  high-below j t g h = omega (arith, high-inner j (omega arith), p.rising j t g h)

  pub high-most : (j : ℕ) → j ≤ b → high_of od (n - b) b j ≤ n - b
  high-most j l =
      by_order j b
      (λ h. omega (arith, high-inner j h, p.fits j h))
      (λ h. omega (arith, high-outer j (omega arith)))

  pub low-high : (j : ℕ) → j ≤ b → low_of od j ≤ high_of od (n - b) b j
  unfolding low_of
  low-high zero l = omega arith
  low-high (suc j) l =
      by_order (suc j) b
      (λ h. omega (arith, high-inner (suc j) h, p.rising j (suc j) (omega arith) h))
      (λ h. omega (arith, high-outer (suc j) (omega arith), p.fits j (omega arith)))

  -- a number of the main list between two of the buffer
  pub main-between : (i j : ℕ) → j ≤ b → low_of od j ≤ i → i < high_of od (n - b) b j → number_in od b (i + j) ≡ main_number od i
  main-between i j l lo hi = main-at i j l (λ t h. omega (arith, low-above j t l h)) (λ t g h. omega (arith, high-below j t g h))

-- what the code reads
pub low-none : (od : List ℕ) (j : ℕ) → j ≡ 0 → 0 ≡ low_of od j
unfolding low_of
low-none od j e = ap (low_of od) (sym e)

pub low_read : (od : List ℕ) (j : ℕ) → (j ≡ 0 → ⊥) → get_or od (127 + j) 0 ≡ low_of od j
unfolding low_of ahead
low_read od zero n = absurd (n refl)
low_read od (suc j) n = let e : 127 + suc j ≡ 128 + j = omega arith in ap (λ (q : ℕ). get_or od q 0) e

pub high_end : (od : List ℕ) (m b j : ℕ) → j ≡ b → m ≡ high_of od m b j
unfolding high_of
high_end od m b j e = rw (eq-eqb j b e)

pub high_read : (od : List ℕ) (m b j : ℕ) → (j ≡ b → ⊥) → get_or od (128 + j) 0 ≡ high_of od m b j
unfolding high_of ahead
high_read od m b j n = rw (ne_eqb j b n)
