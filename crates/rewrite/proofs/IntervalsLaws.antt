-- The listed intervals of a zone and its end transition, in their preferred form: they parse as the same. Assumes nothing.
use Rattle.base.specs.declared.Refusal.TheVariants.{BadInterval, BadText}
use mathlib.Core.Path.{◌≡◌, refl, sym, ap, ◌∙◌, subst}
use mathlib.Core.Bool.{true}
use mathlib.Core.List.{List, [], ◌∷◌, ◌++◌, append-nil, append_assoc}
use Prim.Native.Nat.{ℕ, zero, suc, ◌+◌, ◌≤◌}
use native.Mathlib.Omega.{arith}
use lib.ListN.{length, length-append}
use lib.Dec.{ltb}
use Rattle.base.specs.Parsed.{got, bind, parse, prepend, many, behind}
use Rattle.base.proofs.Parts.{Bytes}
use Rattle.base.proofs.ParseLaws.{got-value, got-rest, bind-good, pick_good}
use Rattle.counts.specs.Count.{read_count}
use Rattle.offsets.specs.Offset.{in_day, read_sum}
use Rattle.transitions.specs.Transition.{read_moment, write_moment}
use Rattle.places.specs.Name.{judge_name, parse_name}
use Rattle.intervals.specs.Interval.{standard_sum, judge_standard, after_wall, after_name, parse_details, rises, after_start, parse_interval, start_of}
use Rattle.intervals.specs.declared.Interval.{Interval}
use Rattle.pieces.specs.Content.{Piece, bytes_up_to, parse_wall, piece_end, after_moment, parse_piece, parse_pieces, print_pieces}
use Rattle.pieces.proofs.PieceLaws.{up-to-front}
use Rattle.rewrite.proofs.CodeLaws.{Front, count-front, sum-front, Renewed, moment-renewed}

-- a pool number that was read
pub record NameFront (pool : ℕ) (s : List ℕ) (k : ℕ) (r : List ℕ) : Type 0 where
  pub code : Front (parse read_count) s k r
  pub again : (x : List ℕ) → parse_name pool (code.used ++ x) ≡ got k x

pub name-front : (pool : ℕ) (s : List ℕ) (k : ℕ) (r : List ℕ) → Bytes s → parse_name pool s ≡ got k r → NameFront pool s k r
unfolding parse_name judge_name
name-front pool s k r b e =
    let a = bind-good (parse read_count s) (judge_name pool) k r e in
    let t = pick_good (ltb a.first pool) (got a.first a.rest) BadText k r a.on in
    let i : a.first ≡ k = got-value t.1 in
    let j : a.rest ≡ r = got-rest t.1 in
    let l : ltb k pool ≡ true = subst (λ (y : ℕ). ltb y pool ≡ true) i t.0 in
    let f = count-front s k r b (a.is ∙ ap (λ (y : ℕ). got y a.rest) i ∙ ap (got k) j) in
    record { code = f; again = λ x. rw (f.again x, l) }

-- name, wall offset and savings: they read the same in front of any bytes, for the zone's parse and for the rewriter's
pub record DetailsFront (pool m : ℕ) (s : List ℕ) (i : Interval) (r : List ℕ) : Type 0 where
  pub used : List ℕ
  pub splits : s ≡ used ++ r
  pub starts : i.start ≡ m
  pub again : (x : List ℕ) → parse_details pool m (used ++ x) ≡ got i x
  pub value : ℕ
  pub ends : (n : ℕ) (x : List ℕ) → piece_end (suc n) (used ++ x) ≡ got value x
  pub bytes : Bytes r

pub details-front : (pool m : ℕ) (s : List ℕ) (i : Interval) (r : List ℕ) → Bytes s → parse_details pool m s ≡ got i r → DetailsFront pool m s i r
unfolding parse_details after_name after_wall judge_standard piece_end parse_wall
details-front pool m s i r b e =
    let a = bind-good (parse_name pool s) (after_name m) i r e in
    let n = name-front pool s a.first a.rest b a.is in
    let c = bind-good (parse read_sum a.rest) (after_wall m a.first) i r a.on in
    let w = sum-front a.rest c.first c.rest n.code.bytes c.is in
    let d = bind-good (parse read_sum c.rest) (judge_standard m a.first c.first) i r c.on in
    let v = sum-front c.rest d.first d.rest w.bytes d.is in
    let o = pick_good (in_day (standard_sum c.first d.first)) (got (record { start = m; name = a.first; wall = c.first; savings = d.first }) d.rest) BadInterval i r d.on in
    let h : record { start = m; name = a.first; wall = c.first; savings = d.first } ≡ i = got-value o.1 in
    let j : d.rest ≡ r = got-rest o.1 in
    let u : List ℕ = n.code.used ++ (w.used ++ v.used) in
    let q : (x : List ℕ) → u ++ x ≡ n.code.used ++ (w.used ++ (v.used ++ x)) =
    λ x. append_assoc n.code.used (w.used ++ v.used) x ∙ ap (λ (y : List ℕ). n.code.used ++ y) (append_assoc w.used v.used x) in
    record {
      used = u;
      splits =
          n.code.splits
          ∙ ap (λ (y : List ℕ). n.code.used ++ y) (w.splits ∙ ap (λ (y : List ℕ). w.used ++ y) (v.splits ∙ ap (λ (y : List ℕ). v.used ++ y) j))
          ∙ sym (q r);
      starts = sym (ap start_of h);
      again = λ x. ap (parse_details pool m) (q x) ∙ rw (n.again (w.used ++ (v.used ++ x)), w.again (v.used ++ x), v.again x, o.0) (ap (λ (y : Interval). got y x) h);
      value = d.first;
      ends = λ k x. ap (piece_end (suc k)) (q x) ∙ rw (n.code.again (w.used ++ (v.used ++ x)), w.again (v.used ++ x), v.again x);
      bytes = subst Bytes j v.bytes;
    }

-- The intervals `is`, then the end transition at `end`, then r: what was read of s, after prev.
pub record Kept (pool n prev : ℕ) (s : List ℕ) (is : List Interval) (end : ℕ) (r : List ℕ) : Type 0 where
  pub pieces : List Piece
  pub read : parse_pieces (suc n) prev s ≡ got pieces []
  -- their preferred form has the same pieces, and the same intervals and end
  pub again : parse_pieces (suc n) prev (print_pieces prev pieces) ≡ got pieces []
  pub rest : List ℕ
  pub listed : many (parse_interval pool) start_of n prev (print_pieces prev pieces) ≡ got is rest
  pub ended : parse (read_moment (behind start_of prev is)) rest ≡ got end r
  pub shorter : length (print_pieces prev pieces) ≤ length s
  pub exact : length (print_pieces prev pieces) ≡ length s → print_pieces prev pieces ≡ s

-- the end transition and all the rest
end_kept : (pool prev : ℕ) (s : List ℕ) (end : ℕ) (r : List ℕ) → Bytes s → parse (read_moment prev) s ≡ got end r → Kept pool 0 prev s [] end r
unfolding many behind parse_pieces parse_piece after_moment piece_end print_pieces
end_kept pool prev s end r b e =
    let t = moment-renewed prev s end r b e in
    let u : bytes_up_to r [] ≡ r = ap (λ (y : List ℕ). bytes_up_to y []) (sym (append-nil r)) ∙ up-to-front r [] in
    let p : Piece = record { moment = end; copied = r } in
    let one : (x : List ℕ) → parse (read_moment prev) x ≡ got end r → parse_pieces 1 prev x ≡ got (p ∷ []) [] =
    λ x h. rw h (ap (λ (y : List ℕ). got (record { moment = end; copied = y } ∷ []) []) u) in
    let k : print_pieces prev (p ∷ []) ≡ write_moment prev end ++ r = append-nil (write_moment prev end ++ r) in
    record {
      pieces = p ∷ [];
      read = one s e;
      again = one (print_pieces prev (p ∷ [])) (ap (parse (read_moment prev)) k ∙ t.again r);
      rest = print_pieces prev (p ∷ []);
      listed = refl;
      ended = ap (parse (read_moment prev)) k ∙ t.again r;
      shorter = rw (k, length-append) t.shorter;
      exact = λ l. k ∙ sym (t.exact (sym (length-append (write_moment prev end) r) ∙ ap length (sym k) ∙ l));
    }

-- an interval m, whose details are followed by r, in front of what is kept of r
module _ (pool prev : ℕ) (s : List ℕ) (m : ℕ) (a : List ℕ) (i : Interval) (r : List ℕ)
    (t : Renewed prev s m a) (ok : rises prev m ≡ true) (d : DetailsFront pool m a i r) where
  p : Piece
  p = record { moment = m; copied = d.used }

  -- the bytes of an interval in its preferred form, before x
  printed : List ℕ → List ℕ
  printed x = (write_moment prev m ++ d.used) ++ x

  moment-first : (x : List ℕ) → parse (read_moment prev) (printed x) ≡ got m (d.used ++ x)
  unfolding printed
  moment-first x = ap (parse (read_moment prev)) (append_assoc (write_moment prev m) d.used x) ∙ t.again (d.used ++ x)

  -- wherever the moment m stands before details and x, they are the piece p
  piece-first : (n : ℕ) (y x : List ℕ) → parse (read_moment prev) y ≡ got m (d.used ++ x) → parse_piece (suc n) prev y ≡ got p x
  unfolding parse_piece after_moment p
  piece-first n y x h = rw (h, d.ends n x) (ap (λ (u : List ℕ). got (record { moment = m; copied = u }) x) (up-to-front d.used x))

  interval-first : (x : List ℕ) → parse_interval pool prev (printed x) ≡ got i x
  unfolding parse_interval after_start
  interval-first x = rw (moment-first x, ok) (d.again x)

  -- as long as its source, it is its source
  same : (n : ℕ) (is : List Interval) (end : ℕ) (q : List ℕ) (k : Kept pool n m r is end q) → length (printed (print_pieces m k.pieces)) ≡ length s
      → printed (print_pieces m k.pieces) ≡ s
  unfolding printed
  same n is end q k j =
      let xs : List ℕ = print_pieces m k.pieces in
      let y : length xs ≤ length r = k.shorter in
      let z : length a ≡ length d.used + length r = ap length d.splits ∙ length-append d.used r in
      let w : length (write_moment prev m) + length a ≤ length s = t.shorter in
      let v : length (write_moment prev m) + length d.used + length xs ≡ length s = rw (length-append, length-append) at j in
      append_assoc (write_moment prev m) d.used xs
      ∙ ap (λ (x : List ℕ). write_moment prev m ++ (d.used ++ x)) (k.exact (omega arith))
      ∙ ap (λ (x : List ℕ). write_moment prev m ++ x) (sym d.splits)
      ∙ sym (t.exact (omega arith))

  interval-kept : (n : ℕ) (is : List Interval) (end : ℕ) (q : List ℕ) → parse (read_moment prev) s ≡ got m a → Kept pool n m r is end q
      → Kept pool (suc n) prev s (i ∷ is) end q
  unfolding many behind parse_pieces print_pieces p printed
  interval-kept n is end q e k =
      let xs : List ℕ = print_pieces m k.pieces in
      let h : parse (read_moment prev) s ≡ got m (d.used ++ r) = e ∙ ap (got m) d.splits in
      let l : i.start ≡ m = d.starts in
      record {
        pieces = p ∷ k.pieces;
        read = rw (piece-first n s r h, k.read);
        again = rw (piece-first n (printed xs) xs (moment-first xs), k.again);
        rest = k.rest;
        listed = rw (interval-first xs, l, k.listed);
        ended = rw l k.ended;
        shorter =
            let y : length xs ≤ length r = k.shorter in
            let z : length a ≡ length d.used + length r = ap length d.splits ∙ length-append d.used r in
            let w : length (write_moment prev m) + length a ≤ length s = t.shorter in
            simp (length-append) (omega arith);
        exact = λ j. same n is end q k j;
      }

-- EVERY LIST OF INTERVALS IS KEPT by its preferred form
pub list-kept : (pool n prev : ℕ) (s : List ℕ) (is : List Interval) (q : List ℕ) (end : ℕ) (r : List ℕ) → Bytes s
    → many (parse_interval pool) start_of n prev s ≡ got is q → parse (read_moment (behind start_of prev is)) q ≡ got end r
    → Kept pool n prev s is end r
unfolding many behind parse_interval after_start
list-kept pool zero prev s is q end r b e f =
    let x : [] ≡ is = cc in
    let y : s ≡ q = cc in
    subst (λ (js : List Interval). Kept pool 0 prev s js end r) x
    (end_kept pool prev s end r b (subst (λ (js : List Interval). parse (read_moment (behind start_of prev js)) s ≡ got end r) (sym x) (rw (← y) at f)))
list-kept pool (suc n) prev s is q end r b e f =
    let a = bind-good (parse_interval pool prev s) (λ i u. bind (many (parse_interval pool) start_of n (start_of i) u) (prepend i)) is q e in
    let i : Interval = a.first in
    let c = bind-good (many (parse_interval pool) start_of n i.start a.rest) (prepend i) is q a.on in
    let x : i ∷ c.first ≡ is = cc in
    let y : c.rest ≡ q = cc in
    let g = bind-good (parse (read_moment prev) s) (after_start pool prev) i a.rest a.is in
    let m : ℕ = g.first in
    let h = pick_good (rises prev m) (parse_details pool m g.rest) BadInterval i a.rest g.on in
    let t = moment-renewed prev s m g.rest b g.is in
    let d = details-front pool m g.rest i a.rest t.bytes h.1 in
    let k = list-kept pool n m a.rest c.first q end r d.bytes
    (subst (λ (v : ℕ). many (parse_interval pool) start_of n v a.rest ≡ got c.first q) d.starts (c.is ∙ ap (got c.first) y))
    (subst (λ (v : ℕ). parse (read_moment (behind start_of v c.first)) q ≡ got end r) d.starts
    (subst (λ (js : List Interval). parse (read_moment (behind start_of prev js)) q ≡ got end r) (sym x) f)) in
    subst (λ (js : List Interval). Kept pool (suc n) prev s js end r) x
    (interval-kept pool prev s m g.rest i a.rest t h.0 d n c.first end r g.is k)
