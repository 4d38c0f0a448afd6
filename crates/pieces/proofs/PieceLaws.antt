-- A transition and what follows it, at a place of the data. Assumes nothing.
use Rattle.std.specs.Prelude.{Err, Ok}
use Rattle.base.specs.declared.Refusal.{Refusal}
use Rattle.base.specs.Coded.{Coded}
use mathlib.Core.Path.{◌≡◌, refl, sym, ap, ◌∙◌}
use mathlib.Core.List.{List, [], ◌++◌}
use Prim.Native.Nat.{ℕ, zero, suc, ◌+◌, ◌*◌, ◌-◌, ◌≤◌}
use native.Mathlib.Omega.{arith}
use lib.ListN.{length, take, drop, get_or, length-append, length-drop, drop_of_length-le}
use lib.Seq.{take-append_seam}
use borrow.Author.Tests.{ne_eqb, eq-eqb}
use Rattle.base.specs.Parsed.{got, behind_code, parse}
use Rattle.base.proofs.Parts.{Bytes}
use Rattle.base.proofs.ByteLaws.{no-bytes, drop-bytes}
use Rattle.base.proofs.ParseLaws.{bad-got, bind-good}
use Rattle.places.specs.Placed.{Placed, at, no, Stands}
use Rattle.places.specs.Short.{ShortDetails}
use Rattle.places.proofs.PlaceLaws.{code_holds, on, off, here}
use Rattle.counts.specs.Count.{read_count}
use Rattle.counts.proofs.CountLaws.{counted}
use Rattle.transitions.specs.Transition.{read_moment}
use Rattle.offsets.specs.Offset.{read_sum}
use Rattle.pieces.specs.Content.{bytes_up_to, parse_wall, piece_end, after_moment, parse_piece, after_flag, after_count}
use Rattle.pieces.specs.View.{PieceAt, EndAt}

-- behind the end transition stands all the rest
pub end-all : (s : List ℕ) (place n : ℕ) → n ≡ 0 → Stands s (piece_end n (drop place s)) (at 0 (length s))
unfolding piece_end
end-all s place n e = rw e (record { means = ap (got 0) (sym (drop_of_length-le s {i = length s} (omega arith))); within = omega arith })

pub end-details : (s : List ℕ) (place n : ℕ) (x : Placed ℕ) → (n ≡ 0 → ⊥) → Stands s (piece_end 1 (drop place s)) x → Stands s (piece_end n (drop place s)) x
unfolding piece_end
end-details s place zero x h k = absurd (h refl)
end-details s place (suc n) x h k = k

-- a reader leaves no more than it was given, and bytes of bytes
pub record Rest (s r : List ℕ) : Type 0 where
  pub shorter : length r ≤ length s
  pub bytes : Bytes s → Bytes r

pub parse-rest : (read : List ℕ → Coded ℕ) (s : List ℕ) (v : ℕ) (r : List ℕ) → parse read s ≡ got v r → Rest s r
parse-rest read s v r e = go (read s) e
  where
    go : (x : Coded ℕ) → behind_code s x ≡ got v r → Rest s r
    go (Ok (w, n)) k =
        let y : drop n s ≡ r = cc in
        rw (← y) (record { shorter = rw length-drop (omega arith); bytes = λ b. drop-bytes n s b })
    go (Err j) k = bad-got k

pub end_rest : (n : ℕ) (s : List ℕ) (v : ℕ) (r : List ℕ) → piece_end n s ≡ got v r → Rest s r
unfolding piece_end parse_wall
end_rest zero s v r e = let y : [] ≡ r = cc in rw (← y) (record { shorter = omega arith; bytes = λ b. no-bytes })
end_rest (suc n) s v r e =
    let a = bind-good (parse read_count s) parse_wall v r e in
    let b = bind-good (parse read_sum a.rest) (λ w q. parse read_sum q) v r a.on in
    let x = parse-rest read_count s a.first a.rest a.is in
    let y = parse-rest read_sum a.rest b.first b.rest b.is in
    let z = parse-rest read_sum b.rest v r b.on in
    record { shorter = omega (arith, x.shorter, y.shorter, z.shorter); bytes = λ h. z.bytes (y.bytes (x.bytes h)) }

-- what a reader of a piece's end gives
pub end-at : (s : List ℕ) (n place v e : ℕ) → Stands s (piece_end n (drop place s)) (at v e) → EndAt s n place e
end-at s n place v e h =
    record { within = h.within; means = λ w q k. let z : got v (drop e s) ≡ got w q = sym h.means ∙ k in cc }

pub end-no : (s : List ℕ) (n place : ℕ) (k : Refusal) → Stands s (piece_end n (drop place s)) (no k) → EndAt s n place (length s)
end-no s n place k h = record { within = omega arith; means = λ w q j. bad-got (sym h.means ∙ j) }

-- what stands before the last part
pub up-to-front : (xs ys : List ℕ) → bytes_up_to (xs ++ ys) ys ≡ xs
up-to-front xs ys =
    let n : length (xs ++ ys) - length ys ≡ length xs = rw length-append (omega arith) in
    rw n (take-append_seam xs ys)

-- the bytes between two places
pub up-to-places : (s : List ℕ) (a e : ℕ) → a ≤ length s → e ≤ length s → bytes_up_to (drop a s) (drop e s) ≡ take (e - a) (drop a s)
up-to-places s a e h k =
    let n : length (drop a s) - length (drop e s) ≡ e - a = rw (length-drop, length-drop) (omega arith) in
    rw n

-- the piece at a place: its moment, then what follows it
pub piece-got : (s : List ℕ) (n prev place m a v e : ℕ) → Stands s (parse (read_moment prev) (drop place s)) (at m a)
    → piece_end n (drop a s) ≡ got v (drop e s) → e ≤ length s → PieceAt s n prev place m a e
unfolding parse_piece after_moment
piece-got s n prev place m a v e h j k =
    let o : length s - e ≤ length s - a = rw (length-drop, length-drop) at (end_rest n (drop a s) v (drop e s) j).shorter in
    let i : a ≤ length s = h.within in
    record {
      piece = rw (h.means, j) (ap (λ (xs : List ℕ). got (record { moment = m; copied = xs }) (drop e s)) (up-to-places s a e i k));
      code = h.means;
      first = omega arith;
      last = k;
    }

-- a piece in five bytes
pub short-end : (s : List ℕ) (n place : ℕ) → (n ≡ 0 → ⊥) → ShortDetails s place
    → Stands s (piece_end n (drop place s)) (at (get_or s (place + 2) 0 * 1800000) (place + 3))
unfolding piece_end parse_wall
short-end s n place h d =
    end-details s place n _ h (on d.name parse_wall _ _ _ refl (on d.wall (λ w q. parse read_sum q) _ _ _ refl d.savings))

-- how many transitions a zone has, by its flag
module _ (s : List ℕ) (place flag : ℕ) where
  pub flag-other : (flag ≡ 2 → ⊥) → Stands s (after_flag flag (drop place s)) (at 0 (length s))
  unfolding after_flag
  flag-other h = rw (ne_eqb flag 2 h) (record { means = ap (got 0) (sym (drop_of_length-le s {i = length s} (omega arith))); within = omega arith })

  pub flag-cut : (k : Refusal) → flag ≡ 2 → Stands s (parse read_count (drop place s)) (no k) → Stands s (after_flag flag (drop place s)) (no k)
  unfolding after_flag
  flag-cut k h j = rw (eq-eqb flag 2 h) (off j after_count k refl)

  pub flag-listed : (n e : ℕ) → flag ≡ 2 → Stands s (parse read_count (drop place s)) (at n e)
      → Stands s (after_flag flag (drop place s)) (at (n + 1) e)
  unfolding after_flag after_count
  flag-listed n e h j = rw (eq-eqb flag 2 h) (on j after_count n e _ refl (here s (suc n) (n + 1) e (omega arith) j.within))

pub count_small : (q : List ℕ) (v : ℕ) (r : List ℕ) → parse read_count q ≡ got v r → v ≤ 2147483647
count_small q v r e = code_holds read_count (λ w. w ≤ 2147483647) (λ s w n h. (counted s h).small) q v r e
