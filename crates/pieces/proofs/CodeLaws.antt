-- Whether a code, and all codes of a zone, are in the writer's form. Assumes nothing.
use Rattle.base.specs.declared.Refusal.{Refusal}
use Rattle.std.specs.Prelude.{Err, Ok}
use Rattle.base.specs.Coded.{Coded}
use mathlib.Core.Path.{◌≡◌, refl, sym, ap, ◌∙◌, subst}
use mathlib.Core.Bool.{Bool, true, false}
use mathlib.Core.List.{List, [], ◌∷◌, ◌++◌}
use mathlib.Core.Logic.{◌⊎◌, inl, inr}
use Prim.Native.Nat.{ℕ, zero, suc, ◌+◌, ◌-◌, ◌≤◌}
use native.Mathlib.Omega.{arith}
use lib.Dec.{eqb}
use lib.ListN.{length, drop, length-append, length-drop}
use lib.Seq.{length-take-le}
use borrow.Author.Tests.{eq-eqb, ne_eqb, eqb-true, eqb-false}
use Rattle.base.specs.Pick.{pick, both}
use Rattle.base.specs.Parsed.{got, bad, bind, behind_code, parse, parse_byte, prepend}
use Rattle.base.specs.Moment.{end_of_time}
use Rattle.base.proofs.Parts.{Bytes}
use Rattle.base.proofs.ByteLaws.{no-bytes, tail-bytes, drop-bytes}
use Rattle.base.proofs.ParseLaws.{bad-got, bind-good}
use Rattle.counts.specs.Count.{read_count}
use Rattle.transitions.specs.Transition.{read_moment, write_moment}
use Rattle.transitions.proofs.MomentLaws.{moment-read, Preferred, Longer, renewed, never-longer}
use Rattle.places.specs.Placed.{at, no, Stands}
use Rattle.pieces.specs.Content.{Piece, Content, bytes_up_to, piece_end, piece_of, after_moment, parse_piece, parse_pieces, print_pieces, after_count, after_flag, after_id, parse_head, content_with, after_head, parse_content, print}
use Rattle.pieces.specs.Form.{code_in, code_preferred, pieces_preferred, data_preferred}
use Rattle.pieces.proofs.PieceLaws.{Rest, parse-rest, end_rest}
use Rattle.pieces.proofs.SizeLaws.{pieces-between}

-- a code that was read, by its length
pub record Code (prev : ℕ) (s : List ℕ) (m : ℕ) (r : List ℕ) : Type 0 where
  pub size : ℕ
  pub is : Ok (m, size) ≡ read_moment prev s
  pub rest : drop size s ≡ r
  pub within : size ≤ length s
  pub told : code_preferred prev s ≡ eqb (length (write_moment prev m)) size

pub code_read : (prev : ℕ) (s : List ℕ) (m : ℕ) (r : List ℕ) → parse (read_moment prev) s ≡ got m r → Code prev s m r
unfolding code_preferred
code_read prev s m r e = go (read_moment prev s) refl e
  where
    go : (x : Coded ℕ) → x ≡ read_moment prev s → behind_code s x ≡ got m r → Code prev s m r
    go (Ok (w, n)) h k =
        let i : w ≡ m = cc in
        let j : drop n s ≡ r = cc in
        let v : Ok (m, n) ≡ read_moment prev s = subst (λ (y : ℕ). Ok (y, n) ≡ read_moment prev s) i h in
        record { size = n; is = v; rest = j; within = (moment-read prev s h).within; told = ap (code_in prev) (sym v) }
    go (Err n) h k = bad-got k

-- a code of at most three bytes is preferred
pub code-few : (prev : ℕ) (s : List ℕ) (m : ℕ) (r : List ℕ) (c : Code prev s m r) → Bytes s → c.size ≤ 3 → length (write_moment prev m) ≡ c.size
code-few prev s m r c b h = go (renewed prev s b c.is)
  where
    go : Preferred prev s m c.size ⊎ Longer prev m c.size → length (write_moment prev m) ≡ c.size
    go (inl x) = x.size
    go (inr x) = absurd (omega (arith, x.long))

-- at a place
module _ (prev : ℕ) (s : List ℕ) (place m a : ℕ) (l : place ≤ length s) (k : a ≤ length s) (e : parse (read_moment prev) (drop place s) ≡ got m (drop a s)) where
  code : Code prev (drop place s) m (drop a s)
  code = code_read prev (drop place s) m (drop a s) e

  size_is : (code.size ≡ a - place) × (place ≤ a)
  size_is =
      let d : length (drop code.size (drop place s)) ≡ length (drop a s) = ap length code.rest in
      let q : length s - place - code.size ≡ length s - a = rw (length-drop, length-drop, length-drop) at d in
      let u : code.size ≤ length s - place = rw length-drop at code.within in
      (omega arith, omega arith)

  pub code_forward : place ≤ a
  code_forward = size_is.1

  pub code-short : Bytes s → a - place ≤ 3 → length (write_moment prev m) ≡ a - place
  code-short b h = code-few prev (drop place s) m (drop a s) code (drop-bytes place s b) (omega (arith, size_is.0)) ∙ size_is.0

  pub code-told : (b : Bool) (n : ℕ) → n ≡ length (write_moment prev m) → b ≡ eqb n (a - place) → b ≡ code_preferred prev (drop place s)
  code-told b n f g = g ∙ ap (λ (x : ℕ). eqb x (a - place)) f ∙ ap (eqb (length (write_moment prev m))) (sym size_is.0) ∙ sym code.told

  pub short-preferred : Bytes s → a - place ≤ 3 → code_preferred prev (drop place s) ≡ true
  short-preferred b h = code.told ∙ eq-eqb _ _ (code-short b h ∙ sym size_is.0)

-- a code that can't be read
pub code-none : (prev : ℕ) (s : List ℕ) (place : ℕ) (k : Refusal) → Stands s (parse (read_moment prev) (drop place s)) (no k) → false ≡ code_preferred prev (drop place s)
unfolding code_preferred
code-none prev s place k h = go (read_moment prev (drop place s)) refl h.means
  where
    go : (x : Coded ℕ) → read_moment prev (drop place s) ≡ x → behind_code (drop place s) x ≡ bad k → false ≡ code_in prev (read_moment prev (drop place s))
    go (Ok (w, n)) i j = bad-got (sym j)
    go (Err n) i j = rw i

pub both-in : (a b c : Bool) → both a (both b c) ≡ both (both a b) c
both-in true b c = refl
both-in false b c = refl

pub both_true : (a : Bool) → a ≡ both a true
both_true true = refl
both_true false = refl

-- the end transition, with all the rest behind it
pub last-form : (prev : ℕ) (s : List ℕ) → code_preferred prev s ≡ pieces_preferred 1 prev s
unfolding pieces_preferred code_preferred parse_piece after_moment piece_end
last-form prev s = go (read_moment prev s) refl
  where
    go : (x : Coded ℕ) → read_moment prev s ≡ x → code_preferred prev s ≡ pieces_preferred 1 prev s
    go (Ok (m, n)) i = rw i (both_true (eqb (length (write_moment prev m)) n))
    go (Err k) i = rw i

-- two parts that are no longer than others are as long as these where each is
both_long : (w k p r c : ℕ) → w ≤ k → p ≤ r → both (eqb w k) (eqb p r) ≡ eqb (w + c + p) (k + c + r)
both_long w k p r c h l = go (eqb w k) (eqb p r) refl refl
  where
    go : (t u : Bool) → eqb w k ≡ t → eqb p r ≡ u → both (eqb w k) (eqb p r) ≡ eqb (w + c + p) (k + c + r)
    go true true i j = rw (i, j, eq-eqb (w + c + p) (k + c + r) (omega (arith, eqb-true w k i, eqb-true p r j)))
    go true false i j = rw (i, j, ne_eqb (w + c + p) (k + c + r) (λ q. eqb-false p r j (omega arith)))
    go false u i j = rw (i, ne_eqb (w + c + p) (k + c + r) (λ q. eqb-false w k i (omega arith)))

-- behind a part of their own
front_long : (f p r n : ℕ) → n ≡ f + r → eqb p r ≡ eqb (f + p) n
front_long f p r n e = go (eqb p r) refl
  where
    go : (t : Bool) → eqb p r ≡ t → eqb p r ≡ eqb (f + p) n
    go true i = rw (i, eq-eqb (f + p) n (omega (arith, eqb-true p r i)))
    go false i = rw (i, ne_eqb (f + p) n (λ q. eqb-false p r i (omega arith)))

-- what stands from the first transition on is a part of the data
head-rest : (d : List ℕ) (n : ℕ) (r : List ℕ) → parse_head d ≡ got n r → Rest d r
unfolding parse_head after_id after_flag after_count parse_byte
head-rest d n r e =
    let a = bind-good (parse read_count d) after_id n r e in
    let f = bind-good (parse_byte a.rest) after_flag n r a.on in
    let x = parse-rest read_count d a.first a.rest a.is in
    let y = byte-rest a.rest f.first f.rest f.is in
    let z = go (eqb f.first 2) f.rest f.on in
    record { shorter = omega (arith, x.shorter, y.shorter, z.shorter); bytes = λ h. z.bytes (y.bytes (x.bytes h)) }
  where
    byte-rest : (s : List ℕ) (v : ℕ) (q : List ℕ) → parse_byte s ≡ got v q → Rest s q
    byte-rest [] v q k = bad-got k
    byte-rest (x ∷ s) v q k = let j : s ≡ q = cc in rw (← j) (record { shorter = omega arith; bytes = λ h. tail-bytes x s h })

    go : (t : Bool) (s : List ℕ) → pick t (bind (parse read_count s) after_count) (got 0 []) ≡ got n r → Rest s r
    go true s k =
        let c = bind-good (parse read_count s) after_count n r k in
        let j : c.rest ≡ r = cc in
        rw (← j) (parse-rest read_count s c.first c.rest c.is)
    go false s k = let j : [] ≡ r = cc in rw (← j) (record { shorter = omega arith; bytes = λ h. no-bytes })

-- a piece that was read: its code, the bytes behind that, and the rest
record Told (n prev : ℕ) (s : List ℕ) (p : Piece) (r : List ℕ) : Type 0 where
  size : ℕ
  told : code_preferred prev s ≡ eqb (length (write_moment prev p.moment)) size
  longer : length (write_moment prev p.moment) ≤ size
  sum : length s ≡ size + length p.copied + length r
  bytes : Bytes r

piece-told : (n prev : ℕ) (s : List ℕ) (p : Piece) (r : List ℕ) → Bytes s → parse_piece n prev s ≡ got p r → Told n prev s p r
unfolding parse_piece after_moment
piece-told n prev s p r b e =
    let f = bind-good (parse (read_moment prev) s) (after_moment n) p r e in
    let m : ℕ = f.first in
    let q : List ℕ = f.rest in
    let g = bind-good (piece_end n q) (piece_of m q) p r f.on in
    let x : Piece = record { moment = m; copied = bytes_up_to q g.rest } in
    let o : got x g.rest ≡ got p r = g.on in
    let i : x ≡ p = cc in
    let j : g.rest ≡ r = cc in
    let z = end_rest n q g.first g.rest g.is in
    let u : length (bytes_up_to q g.rest) ≡ length q - length g.rest = length-take-le (length q - length g.rest) q (omega arith) in
    let d = code_read prev s m q f.is in
    let h : length q ≡ length s - d.size = sym (ap length d.rest) ∙ length-drop d.size s in
    subst (λ (l : List ℕ). Told n prev s p l) j
    (subst (λ (w : Piece). Told n prev s w g.rest) i
    (record {
      size = d.size;
      told = d.told;
      longer = never-longer prev s b d.is;
      sum = omega (arith, u, h, z.shorter, d.within);
      bytes = z.bytes ((parse-rest (read_moment prev) s m q f.is).bytes b);
    }))

-- PIECES ARE PREFERRED where their preferred form is as long
pub pieces-preferred : (n prev : ℕ) (s : List ℕ) (ps : List Piece) → Bytes s → parse_pieces n prev s ≡ got ps []
    → pieces_preferred n prev s ≡ eqb (length (print_pieces prev ps)) (length s)
unfolding parse_pieces print_pieces pieces_preferred
pieces-preferred zero prev s ps b e =
    let i : [] ≡ ps = cc in
    let j : s ≡ [] = cc in
    rw (← i, j)
pieces-preferred (suc n) prev s ps b e =
    let a = bind-good (parse_piece n prev s) (λ p r. bind (parse_pieces n p.moment r) (prepend p)) ps [] e in
    let c = bind-good (parse_pieces n a.first.moment a.rest) (prepend a.first) ps [] a.on in
    let o : got (a.first ∷ c.first) c.rest ≡ got ps [] = c.on in
    let i : a.first ∷ c.first ≡ ps = cc in
    let j : c.rest ≡ [] = cc in
    subst (λ (l : List Piece). pieces_preferred (suc n) prev s ≡ eqb (length (print_pieces prev l)) (length s)) i
    (go a.first a.rest c.first a.is (c.is ∙ ap (got c.first) j) (pieces-preferred n a.first.moment a.rest c.first))
  where
    go : (p : Piece) (r : List ℕ) (qs : List Piece) → parse_piece n prev s ≡ got p r → parse_pieces n p.moment r ≡ got qs []
        → (Bytes r → parse_pieces n p.moment r ≡ got qs [] → pieces_preferred n p.moment r ≡ eqb (length (print_pieces p.moment qs)) (length r))
        → pieces_preferred (suc n) prev s ≡ eqb (length (print_pieces prev (p ∷ qs))) (length s)
    go p r qs h k f =
        let t = piece-told n prev s p r b h in
        rw (h, t.told, f t.bytes k, length-append, length-append, t.sum)
        (both_long _ _ _ _ (length p.copied) t.longer (pieces-between n p.moment r qs t.bytes k).shorter)

-- THE DATA OF A ZONE ARE PREFERRED where their preferred form is as long
pub data-preferred : (d : List ℕ) (c : Content) → Bytes d → parse_content d ≡ got c [] → data_preferred d ≡ eqb (length (print c)) (length d)
unfolding parse_content after_head print data_preferred
data-preferred d c b e =
    let a = bind-good (parse_head d) (after_head d) c [] e in
    let f = bind-good (parse_pieces a.first end_of_time a.rest) (content_with d a.rest) c [] a.on in
    let o : got (record { head = bytes_up_to d a.rest; pieces = f.first }) f.rest ≡ got c [] = f.on in
    let i : record { head = bytes_up_to d a.rest; pieces = f.first } ≡ c = cc in
    let j : f.rest ≡ [] = cc in
    subst (λ (x : Content). data_preferred d ≡ eqb (length (print x)) (length d)) i (go a.first a.rest f.first a.is (f.is ∙ ap (got f.first) j))
  where
    go : (n : ℕ) (r : List ℕ) (ps : List Piece) → parse_head d ≡ got n r → parse_pieces n end_of_time r ≡ got ps []
        → data_preferred d ≡ eqb (length (print (record { head = bytes_up_to d r; pieces = ps }))) (length d)
    go n r ps h k =
        let z = head-rest d n r h in
        let u : length (bytes_up_to d r) ≡ length d - length r = length-take-le (length d - length r) d (omega arith) in
        rw (h, length-append)
        (pieces-preferred n end_of_time r ps (z.bytes b) k ∙ front_long (length (bytes_up_to d r)) (length (print_pieces end_of_time ps)) (length r) (length d) (omega (arith, u, z.shorter)))
