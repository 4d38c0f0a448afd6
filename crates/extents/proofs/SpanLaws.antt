-- How far a field goes, by the bytes of its size. Assumes nothing.
use Rattle.base.specs.Coded.{Coded}
use mathlib.Core.Path.{◌≡◌, sym, ap, ◌∙◌}
use mathlib.Core.List.{List}
use Prim.Native.Nat.{ℕ, ◌+◌, ◌*◌, ◌%◌, ◌≤◌, ◌<◌}
use native.Mathlib.Omega.{arith}
use lib.ListN.{length, get_or}
use Rattle.frames.specs.Frame.{read_size}
use Rattle.counts.proofs.AnyGroupLaws.{Reading, reading-start, reading-cut, reading-last, reading-next, reading-fifth, reading-above}
use Rattle.extents.specs.Span.{span_of}

-- ways out of the code, where i bytes with the top bit set are read
module _ (r : List ℕ) (v unit i : ℕ) (g : Reading 7 r v unit i) where
  pub span-cut : length r ≤ i → 0 ≡ span_of (read_size r)
  span-cut l = ap span_of (reading-cut _ _ _ _ _ g l)

  pub span_last : i < 4 → i < length r → get_or r i 0 < 128 → (n : ℕ) → n ≡ i + 1 + (v + unit * get_or r i 0) → n ≡ span_of (read_size r)
  span_last m l b n e = e ∙ ap span_of (reading-last _ _ _ _ _ g m l b)

  module _ (four : 4 ≤ i) (here : 4 < length r) where
    pub span-fifth : get_or r 4 0 ≤ 7 → (n : ℕ) → n ≡ 5 + (v + unit * get_or r 4 0) → n ≡ span_of (read_size r)
    span-fifth b n e = e ∙ ap span_of (reading-fifth _ _ _ _ _ g four here b)

    pub span-above : 7 < get_or r 4 0 → 0 ≡ span_of (read_size r)
    span-above b = ap span_of (reading-above _ _ _ _ _ g four here b)

-- bytes with the top bit set, one behind the other
module _ (r : List ℕ) where
  pub none_read : Reading 7 r 0 1 0
  none_read = reading-start 7 r

  -- one more, with the sum that the code makes
  more-read : (v unit i : ℕ) → Reading 7 r v unit i → i < 4 → i < length r → 128 ≤ get_or r i 0
      → (w units : ℕ) → w ≡ v + unit * (get_or r i 0 % 128) → units ≡ unit * 128 → Reading 7 r w units (i + 1)
  more-read v unit i g m l b w units e f = rw (e, f) (reading-next _ _ _ _ _ g m l b)

  module _ (l₀ : 0 < length r) (b₀ : 128 ≤ get_or r 0 0) where
    pub one-read : Reading 7 r (get_or r 0 0 % 128) 128 1
    one-read = more-read 0 1 0 none_read (omega arith) l₀ b₀ _ _ (omega arith) (omega arith)

    module _ (l₁ : 1 < length r) (b₁ : 128 ≤ get_or r 1 0) where
      pub two-read : Reading 7 r (get_or r 0 0 % 128 + 128 * (get_or r 1 0 % 128)) 16384 2
      two-read = more-read _ _ 1 one-read (omega arith) l₁ b₁ _ _ (omega arith) (omega arith)

      module _ (l₂ : 2 < length r) (b₂ : 128 ≤ get_or r 2 0) where
        pub three-read : Reading 7 r (get_or r 0 0 % 128 + 128 * (get_or r 1 0 % 128) + 16384 * (get_or r 2 0 % 128)) 2097152 3
        three-read = more-read _ _ 2 two-read (omega arith) l₂ b₂ _ _ (omega arith) (omega arith)

        module _ (l₃ : 3 < length r) (b₃ : 128 ≤ get_or r 3 0) where
          pub four-read : Reading 7 r
              (get_or r 0 0 % 128 + 128 * (get_or r 1 0 % 128) + 16384 * (get_or r 2 0 % 128) + 2097152 * (get_or r 3 0 % 128)) 268435456 4
          four-read = more-read _ _ 3 three-read (omega arith) l₃ b₃ _ _ (omega arith) (omega arith)
