-- How long the preferred form of pieces is: never longer than they are, and at most seven bytes shorter for each transition.
-- Assumes nothing.
use Rattle.std.specs.Prelude.{Err, Ok}
use Rattle.base.specs.Coded.{Coded}
use mathlib.Core.Path.{◌≡◌, refl, ap, ◌∙◌, subst, subst⁻¹}
use mathlib.Core.Bool.{Bool, true, false}
use mathlib.Core.List.{List, [], ◌∷◌, ◌++◌}
use Prim.Native.Nat.{ℕ, zero, suc, ◌+◌, ◌*◌, ◌-◌, ◌≤◌}
use native.Mathlib.Omega.{arith}
use lib.ListN.{length, drop, length-append, length-drop}
use lib.Seq.{length-take-le}
use lib.Dec.{eqb}
use borrow.Author.Tests.{eqb-false}
use Rattle.base.specs.Pick.{pick}
use Rattle.base.specs.Moment.{Finite}
use Rattle.base.specs.Parsed.{got, bind, behind_code, parse, prepend}
use Rattle.base.proofs.Parts.{Bytes}
use Rattle.base.proofs.ParseLaws.{bad-got, bind-good}
use Rattle.counts.specs.Count.{write_count}
use Rattle.counts.specs.Fixed.{fixed_bytes}
use Rattle.counts.proofs.CountLaws.{counted}
use Rattle.counts.proofs.FixedLaws.{length-fixed}
use Rattle.counts.proofs.GroupWriteLaws.{write-least}
use Rattle.signed.specs.Instant.{raw_of}
use Rattle.transitions.specs.Transition.{minute, year1800, hours_to, minutes_to, count_to, read_moment, write_moment}
use Rattle.transitions.proofs.MomentLaws.{moment-holds, moment-read, never-longer, units_of, hours-to, write-instant}
use Rattle.pieces.specs.Content.{Piece, bytes_up_to, piece_end, piece_of, after_moment, parse_piece, parse_pieces, print_pieces}
use Rattle.pieces.proofs.PieceLaws.{parse-rest, end_rest}

-- xs are no longer than s, and at most k bytes shorter
pub record Between (k : ℕ) (s xs : List ℕ) : Type 0 where
  pub shorter : length xs ≤ length s
  pub least : length s ≤ length xs + k

-- the form of an instant has two bytes at least
module _ (p t : ℕ) (h : Finite t) where
  count-many : (count_to p t ≡ 0 → ⊥) → 128 ≤ count_to p t
  count-many = go (eqb (hours_to p t) 0) refl
    where
      go : (x : Bool) → eqb (hours_to p t) 0 ≡ x → (pick x (minutes_to t) (hours_to p t) ≡ 0 → ⊥) → 128 ≤ pick x (minutes_to t) (hours_to p t)
      go true e k = omega (arith, (units_of minute 2097152 2147483648 year1800 t (omega arith)).low)
      go false e k = (hours-to p t k).1.low

  instant-two : 2 ≤ length (write_moment p t)
  instant-two = rw (write-instant p t h) (go (eqb (count_to p t) 0) refl)
    where
      go : (x : Bool) → eqb (count_to p t) 0 ≡ x → 2 ≤ length (pick x (2 ∷ fixed_bytes 8 (raw_of t)) (write_count (count_to p t)))
      go true e = omega (arith, length-fixed 8 (raw_of t))
      go false e = write-least 1 4 (count_to p t) (omega arith) (count-many (eqb-false (count_to p t) 0 e))

abbrev Saves : ℕ → Coded ℕ → Type 0
Saves p (Ok (m, n)) = n ≤ length (write_moment p m) + 7
Saves p (Err k) = Unit

-- only ticks, which name an instant, have more than five bytes
saves : (p : ℕ) (s : List ℕ) → Saves p (read_moment p s)
saves p s = moment-holds p s (Saves p) (record {
  refused = λ k. tt;
  start = λ n e. omega (arith, (counted s e).size);
  end = λ n e. omega (arith, (counted s e).size);
  hours = λ v n e l h f g. omega (arith, (counted s e).size);
  minutes = λ v n e l g. omega (arith, (counted s e).size);
  ticks = λ n e l g. omega (arith, (counted s e).single (omega arith), instant-two p _ g);
})

-- a transition in its preferred form, in front of what stands behind it
pub code-between : (prev : ℕ) (s : List ℕ) (m : ℕ) (r : List ℕ) → Bytes s → parse (read_moment prev) s ≡ got m r → Between 7 s (write_moment prev m ++ r)
code-between prev s m r b e = go (read_moment prev s) refl e
  where
    go : (x : Coded ℕ) → x ≡ read_moment prev s → behind_code s x ≡ got m r → Between 7 s (write_moment prev m ++ r)
    go (Ok (w, n)) h k =
        let i : w ≡ m = cc in
        let j : drop n s ≡ r = cc in
        let t = moment-read prev s h in
        let l = never-longer prev s b h in
        let z : n ≤ length (write_moment prev w) + 7 = subst⁻¹ (Saves prev) h (saves prev s) in
        rw (← i, ← j)
        (record {
          shorter = rw (length-append, length-drop) (omega (arith, t.within));
          least = rw (length-append, length-drop) (omega (arith, t.within));
        })
    go (Err n) h k = bad-got k

-- what a piece is made of
record Made (n prev : ℕ) (s : List ℕ) (p : Piece) (r : List ℕ) : Type 0 where
  between : Between 7 s ((write_moment prev p.moment ++ p.copied) ++ r)
  bytes : Bytes r

made : (n prev : ℕ) (s : List ℕ) (p : Piece) (r : List ℕ) → Bytes s → parse_piece n prev s ≡ got p r → Made n prev s p r
unfolding parse_piece after_moment
made n prev s p r b e =
    let a = bind-good (parse (read_moment prev) s) (after_moment n) p r e in
    let m : ℕ = a.first in
    let q : List ℕ = a.rest in
    let c = bind-good (piece_end n q) (piece_of m q) p r a.on in
    let x : Piece = record { moment = m; copied = bytes_up_to q c.rest } in
    let o : got x c.rest ≡ got p r = c.on in
    let i : x ≡ p = cc in
    let j : c.rest ≡ r = cc in
    let y = end_rest n q c.first c.rest c.is in
    let z = code-between prev s m q b a.is in
    let u : length (bytes_up_to q c.rest) ≡ length q - length c.rest = length-take-le (length q - length c.rest) q (omega arith) in
    subst (λ (l : List ℕ). Made n prev s p l) j
    (subst (λ (w : Piece). Made n prev s w c.rest) i
    (record {
      between = record {
        shorter = rw (length-append, length-append, u) (omega (arith, y.shorter, rw length-append at z.shorter));
        least = rw (length-append, length-append, u) (omega (arith, y.shorter, rw length-append at z.least));
      };
      bytes = y.bytes ((parse-rest (read_moment prev) s m q a.is).bytes b);
    }))

-- PIECES IN THEIR PREFERRED FORM
pub pieces-between : (n prev : ℕ) (s : List ℕ) (ps : List Piece) → Bytes s → parse_pieces n prev s ≡ got ps [] → Between (7 * n) s (print_pieces prev ps)
unfolding parse_pieces print_pieces
pieces-between zero prev s ps b e =
    let i : [] ≡ ps = cc in
    let j : s ≡ [] = cc in
    rw (← i, j) (record { shorter = omega arith; least = omega arith })
pieces-between (suc n) prev s ps b e =
    let a = bind-good (parse_piece n prev s) (λ p r. bind (parse_pieces n p.moment r) (prepend p)) ps [] e in
    let p : Piece = a.first in
    let c = bind-good (parse_pieces n p.moment a.rest) (prepend p) ps [] a.on in
    let o : got (p ∷ c.first) c.rest ≡ got ps [] = c.on in
    let i : p ∷ c.first ≡ ps = cc in
    let j : c.rest ≡ [] = cc in
    let m = made n prev s p a.rest b a.is in
    let k = pieces-between n p.moment a.rest c.first m.bytes (c.is ∙ ap (got c.first) j) in
    subst (λ (l : List Piece). Between (7 * suc n) s (print_pieces prev l)) i
    (record {
      shorter = rw length-append (omega (arith, k.shorter, rw length-append at m.between.shorter));
      least = rw length-append (omega (arith, k.least, rw length-append at m.between.least));
    })
