-- The data of a zone in two parts: what stands before the first transition, and the transitions with what follows them.
-- Assumes nothing.
use Rattle.base.specs.declared.Refusal.{Refusal}
use mathlib.Core.Path.{◌≡◌, sym, ap, ◌∙◌, subst}
use mathlib.Core.List.{List, [], ◌++◌, append-nil}
use Prim.Native.Nat.{ℕ, suc, ◌+◌, ◌*◌, ◌-◌, ◌≤◌}
use native.Mathlib.Omega.{arith}
use lib.ListN.{length, take, drop, length-append, length-drop}
use mathlib.Core.Bool.{Bool, true, false}
use lib.Seq.{length-take-le}
use lib.Dec.{eqb}
use borrow.Author.Tests.{ne_eqb}
use Rattle.base.specs.Pick.{pick}
use Rattle.base.specs.Parsed.{got, bad, bind, parse, parse_byte}
use Rattle.base.specs.Moment.{end_of_time}
use Rattle.base.proofs.Parts.{Bytes}
use Rattle.base.proofs.ByteLaws.{drop-bytes}
use Rattle.base.proofs.ParseLaws.{bad-got, got-value, got-rest, bind-good}
use Rattle.counts.specs.Count.{read_count, write_count}
use Rattle.counts.proofs.CountLaws.{count-mono}
use Rattle.places.specs.Placed.{at, no, Stands}
use Rattle.pieces.specs.Content.{Piece, Content, bytes_up_to, content_with, after_head, after_id, after_flag, after_count, parse_head, parse_pieces, parse_content, content_of, print_pieces, print}
use Rattle.pieces.specs.View.{HasContent, HasPieces, pieces_at}
use Rattle.pieces.proofs.PieceLaws.{count_small}
use Rattle.pieces.proofs.PutLaws.{InTwo}
use Rattle.pieces.proofs.SizeLaws.{pieces-between}

-- n transitions stand from the place a on
module _ (d : List ℕ) (h : HasContent d) where
  pub content-is : content_of 1 d ≡ h.content
  unfolding content_of
  content-is = rw h.is

  pub head-good : (k : Refusal) → Stands d (parse_head d) (no k) → ⊥
  unfolding parse_content
  head-good k s = let e : parse_content d ≡ bad k = rw s.means in bad-got (sym e ∙ h.is)

  module _ (n a : ℕ) (s : Stands d (parse_head d) (at n a)) where
    front : bytes_up_to d (drop a d) ≡ take a d
    front =
        let l : a ≤ length d = s.within in
        let k : length d - length (drop a d) ≡ a = rw length-drop (omega arith) in
        ap (λ (i : ℕ). take i d) k

    -- what the parse of the data has read
    record Found : Type 0 where
      pieces : List Piece
      are : parse_pieces n end_of_time (drop a d) ≡ got pieces []
      whole : h.content ≡ record { head = take a d; pieces = pieces }

    found : Found
    unfolding parse_content after_head
    found =
        let e : parse_content d ≡ bind (parse_pieces n end_of_time (drop a d)) (content_with d (drop a d)) = rw s.means in
        let b = bind-good (parse_pieces n end_of_time (drop a d)) (content_with d (drop a d)) h.content [] (sym e ∙ h.is) in
        record {
          pieces = b.first;
          are = b.is ∙ ap (got b.first) (got-rest b.on);
          whole = sym (got-value b.on) ∙ ap (λ (xs : List ℕ). record { head = xs; pieces = b.first }) front;
        }

    pub head-pieces : HasPieces d n a
    unfolding print
    head-pieces =
        let f = found in
        let l = subst (λ (x : Content). length (print x) ≤ length d) f.whole h.shorter in
        let m : length (take a d) + length (print_pieces end_of_time f.pieces) ≤ length d = rw length-append at l in
        record { pieces = f.pieces; is = f.are; within = s.within; shorter = omega arith }

    pub head-print : print (content_of 1 d) ≡ take a d ++ print_pieces end_of_time (pieces_at d n a)
    unfolding print
    head-print =
        let f = found in
        ap print (content-is ∙ f.whole) ∙ rw f.are

    pub head-length : length (take a d) ≡ a
    head-length = length-take-le a d s.within

    pub size_is : (m : ℕ) → m ≡ length (print_pieces end_of_time (pieces_at d n a)) → a + m ≡ length (print (content_of 1 d))
    size_is m e = rw (head-print, length-append, head-length, e)

    pub size-most : (m : ℕ) → m ≡ length (print_pieces end_of_time (pieces_at d n a)) → a + m ≤ length d
    size-most m e = rw (size_is m e, content-is) h.shorter

    pub head-two : (o : List ℕ) → length (print (content_of 1 d)) ≤ length o
        → InTwo (print (content_of 1 d)) (take a d) (print_pieces end_of_time (pieces_at d n a)) o
    head-two o l = record { all = head-print; room = l }

    -- where the longest and the shortest that it can be have sizes of one length, that is its size's
    pub size-sure : Bytes d → (k : ℕ) → k ≡ length (write_count (length d)) → length (write_count (length d - 7 * n)) ≡ k
        → k ≡ length (write_count (length (print (content_of 1 d))))
    size-sure b k e f =
        let o = pieces-between n end_of_time (drop a d) found.pieces (drop-bytes a d b) found.are in
        let l : length d - a ≤ length (print_pieces end_of_time found.pieces) + 7 * n = rw length-drop at o.least in
        let m : a + length (print_pieces end_of_time found.pieces) ≡ length (print (content_of 1 d)) = size_is _ (rw found.are) in
        let i = count-mono (length d - 7 * n) (length (print (content_of 1 d))) (omega (arith, s.within)) in
        let j = count-mono (length (print (content_of 1 d))) (length d) (rw content-is h.shorter) in
        omega arith

-- a zone has at most 2,147,483,647 intervals, and an end
pub head_few : (d : List ℕ) (n a : ℕ) → Stands d (parse_head d) (at n a) → n ≤ 2147483648
unfolding parse_head after_id after_flag after_count
head_few d n a s =
    let x = bind-good (parse read_count d) after_id n (drop a d) s.means in
    let y = bind-good (parse_byte x.rest) after_flag n (drop a d) x.on in
    go (eqb y.first 2) y.rest y.on
  where
    go : (t : Bool) (r : List ℕ) → pick t (bind (parse read_count r) after_count) (got 0 []) ≡ got n (drop a d) → n ≤ 2147483648
    go true r e =
        let z = bind-good (parse read_count r) after_count n (drop a d) e in
        let w : suc z.first ≡ n = cc in
        omega (arith, count_small r z.first z.rest z.is)
    go false r e = let w : 0 ≡ n = cc in omega arith

-- a field that is no zone is copied
pub print-other : (i : ℕ) (d : List ℕ) → (i ≡ 1 → ⊥) → print (content_of i d) ≡ d
unfolding content_of print print_pieces
print-other i d h = rw (ne_eqb i 1 h) (append-nil d)
