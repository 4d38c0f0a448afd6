-- The loops over the transitions of a zone: where they stand, and how they go on. Assumes nothing.
use Rattle.base.specs.declared.Refusal.{Refusal}
use mathlib.Core.Path.{◌≡◌, refl, sym, ap, ◌∙◌}
use mathlib.Core.List.{List, [], ◌∷◌, ◌++◌, append-nil, append_assoc}
use Prim.Native.Nat.{ℕ, zero, suc, ◌+◌, ◌-◌, ◌≤◌, ◌<◌}
use native.Mathlib.Omega.{arith}
use lib.ListN.{length, take, drop, length-append, length-drop}
use lib.Seq.{length-take-le}
use Rattle.base.specs.Parsed.{Parsed, got, bad, bind, parse, prepend}
use Rattle.base.proofs.Parts.{Bytes}
use Rattle.base.specs.Moment.{end_of_time}
use Rattle.base.proofs.MomentLaws.{Moment}
use Rattle.base.proofs.ParseLaws.{bad-got, got-value, got-rest, bind-good}
use Rattle.transitions.specs.Transition.{read_moment, write_moment}
use Rattle.places.proofs.ValueLaws.{moment-is}
use Rattle.places.specs.Placed.{at, no, Stands}
use Rattle.pieces.specs.Content.{Piece, piece_end, piece_of, after_moment, parse_piece, parse_pieces, print_pieces}
use Rattle.pieces.specs.View.{PieceAt, EndAt, HasPieces, pieces_at}
use Rattle.pieces.proofs.PieceLaws.{piece-got}
use Rattle.pieces.proofs.CodeLaws.{code_forward, code-short}
use Rattle.pieces.proofs.PutLaws.{InTwo}

-- the piece whose moment is m, and whose other bytes stand from the place a to e, in its preferred form
abbrev pub printed : List ℕ → ℕ → ℕ → ℕ → ℕ → List ℕ
printed s prev m a e = write_moment prev m ++ take (e - a) (drop a s)

-- `left` pieces are still to be read, from `place` on, after `prev`; those before make `done` of the `whole`
pub record Going (s : List ℕ) (left place prev : ℕ) (whole done : List ℕ) : Type 0 where
  pub rest : List Piece
  pub is : parse_pieces left prev (drop place s) ≡ got rest []
  pub within : place ≤ length s
  pub all : whole ≡ done ++ print_pieces prev rest

module _ (s : List ℕ) where
  pub at-start : (n a : ℕ) (h : HasPieces s n a) → pieces_at s n a ≡ h.pieces
  at-start n a h = rw h.is

  pub going_start : (n a : ℕ) → HasPieces s n a → Going s n a end_of_time (print_pieces end_of_time (pieces_at s n a)) []
  going_start n a h = record { rest = h.pieces; is = h.is; within = h.within; all = ap (print_pieces end_of_time) (at-start n a h) }

  -- what is done so far is a first part of the whole
  pub going-sum : (left place prev : ℕ) (whole done : List ℕ) → Going s left place prev whole done → length done ≤ length whole
  going-sum left place prev whole done g = rw (g.all, length-append) (omega arith)

  -- every transition can be read, and what follows it
  pub going-bad : (left place prev : ℕ) (whole done : List ℕ) (k : Refusal) → Going s left place prev whole done → 0 < left
      → Stands s (parse (read_moment prev) (drop place s)) (no k) → ⊥
  unfolding parse_pieces parse_piece
  going-bad zero place prev whole done k g l e = absurd (omega arith)
  going-bad (suc left) place prev whole done k g l e =
      let b : parse_pieces (suc left) prev (drop place s) ≡ bad k = rw e.means in
      bad-got (sym b ∙ g.is)

  pub going-piece : (left place prev : ℕ) (whole done : List ℕ) (m a e : ℕ) → Going s left place prev whole done → 0 < left
      → Stands s (parse (read_moment prev) (drop place s)) (at m a) → EndAt s (left - 1) a e → PieceAt s (left - 1) prev place m a e
  unfolding parse_pieces parse_piece after_moment
  going-piece zero place prev whole done m a e g l h k = absurd (omega arith)
  going-piece (suc left) place prev whole done m a e g l h k =
      let one : suc left - 1 ≡ left = omega arith in
      let x = bind-good (parse_piece left prev (drop place s)) (λ p r. bind (parse_pieces left p.moment r) (prepend p)) g.rest [] g.is in
      let i : after_moment left m (drop a s) ≡ got x.first x.rest = sym (ap (λ (q : Parsed ℕ). bind q (after_moment left)) h.means) ∙ x.is in
      let y = bind-good (piece_end left (drop a s)) (piece_of m (drop a s)) x.first x.rest i in
      let z : y.rest ≡ drop e s = k.means y.first y.rest (rw one y.is) in
      rw one (piece-got s left prev place m a y.first e h (y.is ∙ ap (got y.first) z) k.within)

  module _ (left place prev : ℕ) (whole done : List ℕ) (m a e : ℕ) (g : Going s left place prev whole done) (l : 0 < left)
      (p : PieceAt s (left - 1) prev place m a e) where
    pub going_next : Going s (left - 1) e m whole (done ++ printed s prev m a e)
    unfolding parse_pieces print_pieces
    going_next = go left l g.is p
      where
        go : (n : ℕ) → 0 < n → parse_pieces n prev (drop place s) ≡ got g.rest [] → PieceAt s (n - 1) prev place m a e
            → Going s (n - 1) e m whole (done ++ printed s prev m a e)
        go zero h i q = absurd (omega arith)
        go (suc n) h i q =
            let one : suc n - 1 ≡ n = omega arith in
            let x : Piece = record { moment = m; copied = take (e - a) (drop a s) } in
            let k : parse_piece n prev (drop place s) ≡ got x (drop e s) = rw one at q.piece in
            let j : parse_pieces (suc n) prev (drop place s) ≡ bind (parse_pieces n m (drop e s)) (prepend x) = rw k in
            let b = bind-good (parse_pieces n m (drop e s)) (prepend x) g.rest [] (sym j ∙ i) in
            let y : x ∷ b.first ≡ g.rest = got-value b.on in
            rw one
            (record {
              rest = b.first;
              is = b.is ∙ ap (got b.first) (got-rest b.on);
              within = q.last;
              all =
                  g.all
                  ∙ ap (λ (xs : List Piece). done ++ print_pieces prev xs) (sym y)
                  ∙ sym (append_assoc done (printed s prev m a e) (print_pieces m b.first));
            })

    pub printed-length : length (printed s prev m a e) ≡ length (write_moment prev m) + (e - a)
    printed-length =
        let o : a ≤ e = p.first in
        let w : e ≤ length s = p.last in
        let k : length (take (e - a) (drop a s)) ≡ e - a = length-take-le (e - a) (drop a s) (rw length-drop (omega arith)) in
        rw (length-append, k)

    pub going-moment : Moment m
    going-moment = moment-is prev (drop place s) m (drop a s) p.code

    pub going-forward : place ≤ a
    going-forward = code_forward prev s place m a g.within (omega (arith, p.first, p.last)) p.code

    -- a code of at most three bytes is preferred
    pub going-short : Bytes s → a - place ≤ 3 → length (write_moment prev m) ≡ a - place
    going-short = code-short prev s place m a g.within (omega (arith, p.first, p.last)) p.code

    -- what is done and the piece that follows, in an output with room for the whole
    pub going-two : (d : List ℕ) → length whole ≤ length d → InTwo (done ++ printed s prev m a e) done (printed s prev m a e) d
    going-two d h = let n = going-sum (left - 1) e m whole (done ++ printed s prev m a e) going_next in record { all = refl; room = omega arith }

  pub going_done : (left place prev : ℕ) (whole done : List ℕ) → Going s left place prev whole done → left ≡ 0 → whole ≡ done
  unfolding parse_pieces print_pieces
  going_done zero place prev whole done g h = let z : [] ≡ g.rest = cc in g.all ∙ rw (← z) (append-nil done)
  going_done (suc left) place prev whole done g h = absurd (omega arith)
