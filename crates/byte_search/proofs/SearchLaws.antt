-- Laws of the place of a byte in a part of a list. Assumes nothing.
use Rattle.std.specs.Prelude.{ℕ, ◌+◌, ◌<◌, ◌≤◌, ◌≡◌, List, [], ◌∷◌, length, take}
use Rattle.std.proofs.Common.{arith, add-one}
use Rattle.std.proofs.Math.ListN.{get_or}
use Rattle.std.proofs.Math.Seq.{drop-cons}
use Rattle.std.proofs.lemmas.List.{get_or-take, drop_all, length-take}
use borrow.Author.Tests.{eq-eqb, ne_eqb}
use Rattle.byte_search.specs.Bytes.{index_after, index_of, slice}

slice_none : (s : List ℕ) (i e : ℕ) → e ≤ i → slice i e s ≡ []
unfolding slice
slice_none s i e h = drop_all i (take e s) (simp length-take (omega arith))

slice_next : (s : List ℕ) (i e : ℕ) → i < e → e ≤ length s → slice i e s ≡ get_or s i 0 ∷ slice (i + 1) e s
unfolding slice
slice_next s i e h l =
    let m : i < length (take e s) = simp length-take (omega arith) in rw (drop-cons (take e s) i 0 m, get_or-take e s i 0 h, add-one i)

module _ (s : List ℕ) (b i e : ℕ) where
  pub found_none : e ≤ i → i + index_of b (slice i e s) ≡ i
  unfolding index_of
  found_none h = rw (slice_none s i e h) (omega arith)

  module _ (h : i < e) (l : e ≤ length s) where
    pub found_here : get_or s i 0 ≡ b → i + index_of b (slice i e s) ≡ i
    unfolding index_of index_after
    found_here q = rw (slice_next s i e h l, eq-eqb (get_or s i 0) b q) (omega arith)

    pub found_later : (get_or s i 0 ≡ b → ⊥) → i + index_of b (slice i e s) ≡ (i + 1) + index_of b (slice (i + 1) e s)
    unfolding index_of index_after
    found_later q = rw (slice_next s i e h l, ne_eqb (get_or s i 0) b q) (omega arith)
