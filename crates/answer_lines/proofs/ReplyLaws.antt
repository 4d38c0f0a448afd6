-- Laws of the written lines: pieces put one behind another, and how long they are. Assumes nothing.
use Rattle.std.specs.Prelude.{Ok}
use mathlib.Core.Path.{◌≡◌, refl, ap, sym, ◌∙◌}
use mathlib.Core.Bool.{true, false}
use mathlib.Core.List.{List, [], ◌∷◌, ◌++◌, append_assoc}
use Prim.Native.Nat.{ℕ, suc, ◌+◌, ◌-◌, ◌/◌, ◌%◌, ◌≤◌, ◌<◌}
use native.Mathlib.Nat.{add-zero, zero-add}
use native.Mathlib.Numerals.{add-one}
use native.Mathlib.Omega.{arith}
use lib.IntN.{ℤ, pos, negsuc, nat_abs}
use lib.Signed.{lt_z}
use lib.ListN.{length, take, drop, set, length-append, length-set}
use lib.Seq.{sets, sets-eq, length-sets, drop-drop, take-length}
use mir.Syntax.{w64}
use mir.Val.{SFits}
use borrow.Author.Tests.{ltb-true}
use borrow.Rule.Slice.PartMut.{put_mid}
use Rattle.base.specs.Writing.{bytes, Writes}
use Rattle.base.proofs.WriteLaws.{stored}
use Rattle.base.proofs.Parts.{part-from, put-from}
use Rattle.base.proofs.Tests.{never}
use Rattle.answer_lines.specs.Decimal.{decimal, signed}
use Rattle.answer_lines.specs.Reply.{answer_line, refusal_line}
use Rattle.answer_lines.proofs.DecimalLaws.{decimal-one, decimal-more, decimal-short}

-- ---- pieces one behind another

sets-append : (d : List ℕ) (i : ℕ) (xs ys : List ℕ) → sets d i (xs ++ ys) ≡ sets (sets d i xs) (i + length xs) ys
sets-append d i [] ys = rw (add-zero i)
sets-append d i (x ∷ xs) ys =
    let e : suc i + length xs ≡ i + suc (length xs) = omega arith in
    sets-append (set d i x) (suc i) xs ys ∙ rw e

-- xs has been put into the output d, which is e now, and ends before n
pub record Put (d xs e : List ℕ) (n : ℕ) : Type 0 where
  pub end : n ≡ length xs
  pub is : e ≡ sets d 0 xs

pub put_first : (d xs e : List ℕ) (n : ℕ) → (n ≡ 0 + length xs) × (e ≡ sets d 0 xs) → Put d xs e n
put_first d xs e n p = record { end = p.0 ∙ zero-add (length xs); is = p.1 }

pub put-length : (d xs e : List ℕ) (n : ℕ) → Put d xs e n → length e ≡ length d
put-length d xs e n p = rw p.is (length-sets d 0 xs)

put-more : (d xs e : List ℕ) (n : ℕ) (ys f : List ℕ) (r : ℕ) → Put d xs e n → r ≡ n + length ys → f ≡ sets e n ys → Put d (xs ++ ys) f r
put-more d xs e n ys f r p h is = record {
  end = rw (length-append xs ys) (h ∙ ap (λ (k : ℕ). k + length ys) p.end);
  is = is ∙ rw (p.is, p.end, sets-append d 0 xs ys, zero-add (length xs));
}

-- a byte and then a piece
pub put-piece : (d xs e : List ℕ) (n b : ℕ) (ys f : List ℕ) (r : ℕ) → Put d xs e n → (r ≡ n + 1 + length ys) × (f ≡ sets (set e n b) (n + 1) ys)
    → Put d (xs ++ b ∷ ys) f r
put-piece d xs e n b ys f r p q = put-more d xs e n (b ∷ ys) f r p (q.0 ∙ omega arith) (q.1 ∙ rw (add-one n))

pub put_byte : (d xs e : List ℕ) (n b : ℕ) → Put d xs e n → Put d (xs ++ b ∷ []) (set e n b) (n + 1)
put_byte d xs e n b p = put-more d xs e n (b ∷ []) (set e n b) (n + 1) p refl refl

-- room for a byte and a piece, from room for the whole
pub front_fits : (xs ys : List ℕ) (m : ℕ) → length (xs ++ ys) ≤ m → length xs ≤ m
front_fits xs ys m h = omega (arith, simp length-append at h)

module _ (d xs e : List ℕ) (n b : ℕ) (ys : List ℕ) (p : Put d xs e n) (h : length (xs ++ b ∷ ys) ≤ length d) where
  pub byte_fits : n < length e
  byte_fits = omega (arith, put-length d xs e n p, p.end, simp length-append at h)

  pub piece-fits : n + 1 + length ys ≤ length (set e n b)
  piece-fits = simp length-set (omega (arith, put-length d xs e n p, p.end, simp length-append at h))

pub put_all : (d xs e : List ℕ) (n : ℕ) → Put d xs e n → length xs ≤ length d → Writes (bytes xs) d (Ok n) e
put_all d xs e n p h = rw (p.end, p.is) (stored xs d h)

-- ---- a decimal number

module _ (v : ℕ) (d : List ℕ) (at : ℕ) where
  pub put_one : v < 10 → (at + 1 ≡ at + length (decimal v)) × (set d at (48 + v) ≡ sets d at (decimal v))
  put_one h = rw (decimal-one v h) (refl, refl)

  pub put-digit : (n : ℕ) (e : List ℕ) → 10 ≤ v → (n ≡ at + length (decimal (v / 10))) × (e ≡ sets d at (decimal (v / 10)))
      → (n + 1 ≡ at + length (decimal v)) × (set e n (48 + v % 10) ≡ sets d at (decimal v))
  put-digit n e h p = (
    rw (decimal-more v h, length-append (decimal (v / 10)) ((48 + v % 10) ∷ []), p.0) (omega arith),
    rw (p.1, p.0, decimal-more v h, sets-append d at (decimal (v / 10)) ((48 + v % 10) ∷ [])),
  )

pub length_more : (v : ℕ) → 10 ≤ v → length (decimal v) ≡ length (decimal (v / 10)) + 1
length_more v h = rw (decimal-more v h) (length-append (decimal (v / 10)) ((48 + v % 10) ∷ []))

pub length-one : (v : ℕ) → v < 10 → length (decimal v) ≡ 1
length-one v h = rw (decimal-one v h)

-- ---- a signed number

pub signed-minus : (z : ℤ) → lt_z z (pos 0) ≡ true → signed z ≡ 45 ∷ decimal (nat_abs z)
unfolding signed
signed-minus (pos n) e = absurd (omega (arith, ltb-true n 0 e))
signed-minus (negsuc n) e = refl

pub signed-plus : (z : ℤ) → lt_z z (pos 0) ≡ false → signed z ≡ decimal (nat_abs z)
unfolding signed
signed-plus (pos n) e = refl
signed-plus (negsuc n) e = never refl e

pub length-minus : (z : ℤ) → lt_z z (pos 0) ≡ true → length (signed z) ≡ length (decimal (nat_abs z)) + 1
length-minus z e = rw (signed-minus z e) (omega arith)

pub put-minus : (z : ℤ) (d e : List ℕ) (at m n : ℕ) → lt_z z (pos 0) ≡ true → m ≡ nat_abs z
    → (n ≡ at + 1 + length (decimal m)) × (e ≡ sets (set d at 45) (at + 1) (decimal m))
    → (n ≡ at + length (signed z)) × (e ≡ sets d at (signed z))
put-minus z d e at m n s f p = rw (signed-minus z s, ← f) (p.0 ∙ omega arith, p.1 ∙ rw (add-one at))

pub put-plus : (z : ℤ) (d e : List ℕ) (at m n : ℕ) → lt_z z (pos 0) ≡ false → m ≡ nat_abs z
    → (n ≡ at + length (decimal m)) × (e ≡ sets d at (decimal m)) → (n ≡ at + length (signed z)) × (e ≡ sets d at (signed z))
put-plus z d e at m n s f p = rw (signed-plus z s, ← f) p

pub signed-short : (z : ℤ) → SFits w64 z → length (signed z) ≤ 21
unfolding signed
signed-short (pos n) h = omega (arith, decimal-short n (omega arith))
signed-short (negsuc n) h = omega (arith, decimal-short (suc n) (omega arith))

-- ---- the bytes of a slice

pub put-slice : (s d last : List ℕ) (at : ℕ) → at + length s ≤ length d
    → last ≡ take (length s) s ++ drop (length s) (take (length d - at) (drop at d))
    → put_mid at (length d - at) d last ≡ sets d at s
put-slice s d last at h e =
    put-from at d last (omega arith)
    ∙ rw (e, take-length s, part-from at d, drop-drop (length s) at d, sets-eq s d at h) (sym (append_assoc (take at d) s (drop (at + length s) d)))

-- ---- whole lines

pub answer-length : (wall savings standard : ℤ) (name : List ℕ)
    → length (answer_line wall savings standard name) ≡ 6 + length (signed wall) + length (signed savings) + length (signed standard) + length name
unfolding answer_line
answer-length wall savings standard name = rw (decimal-one 0 (omega arith)) (simp length-append (omega arith))

pub refusal-length : (number place : ℕ) → length (refusal_line number place) ≡ 2 + length (decimal number) + length (decimal place)
unfolding refusal_line
refusal-length number place = simp length-append (omega arith)
