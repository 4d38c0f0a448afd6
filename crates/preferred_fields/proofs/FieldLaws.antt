-- A field that is written: its head, then its data. Assumes nothing.
use mathlib.Core.Path.{◌≡◌, refl, sym, ap, ◌∙◌}
use mathlib.Core.Bool.{Bool, true, false}
use mathlib.Core.List.{List, [], ◌∷◌, ◌++◌}
use Prim.Native.Nat.{ℕ, zero, suc, ◌+◌, ◌≤◌, ◌<◌}
use native.Mathlib.Omega.{arith}
use lib.ListN.{length, get_or, length-append}
use lib.Dec.{eqb}
use borrow.Author.Tests.{eqb-true}
use Rattle.base.specs.Parsed.{parse}
use Rattle.base.proofs.Parts.{Bytes}
use Rattle.base.proofs.Tests.{never}
use Rattle.counts.specs.Count.{read_count, write_count}
use Rattle.places.specs.Placed.{at, Stands}
use Rattle.pieces.specs.Content.{content_of, print}
use Rattle.pieces.specs.Form.{data_preferred, flag_of}
use Rattle.pieces.proofs.CodeLaws.{data-preferred}
use Rattle.pieces.proofs.HeadLaws.{content-is, print-other}
use Rattle.pieces.proofs.PutLaws.{InTwo}
use Rattle.preferred_fields.specs.Field.{print_field, field_with}
use Rattle.preferred_fields.specs.View.{Told, Copied, Unchanged}

-- the length of a field, by that of its data
pub field-length : (i : ℕ) (d : List ℕ)
    → length (print_field (field_with i d)) ≡ 1 + length (write_count (length (print (content_of i d)))) + length (print (content_of i d))
unfolding print_field
field-length i d = simp (length-append) (omega arith)

pub zone-length : (i : ℕ) (d : List ℕ) (n : ℕ) → i ≡ 1 → n ≡ length (print (content_of 1 d))
    → length (print_field (field_with i d)) ≡ 1 + length (write_count n) + n
zone-length i d n e f = rw (e, f) (field-length 1 d)

-- its head, then its data
pub head-two : (i : ℕ) (xs o : List ℕ) → length (i ∷ xs) ≤ length o → InTwo (i ∷ xs) (i ∷ []) xs o
head-two i xs o h = record { all = refl; room = h }

pub data-two : (i : ℕ) (xs ys o : List ℕ) → length (i ∷ (xs ++ ys)) ≤ length o → InTwo (i ∷ (xs ++ ys)) (i ∷ xs) ys o
data-two i xs ys o h = record { all = refl; room = h }

-- the preferred data of a zone stand behind its head
pub zone-two : (d o : List ℕ) → length (print_field (field_with 1 d)) ≤ length o
    → InTwo (print_field (field_with 1 d)) (1 ∷ write_count (length (print (content_of 1 d)))) (print (content_of 1 d)) o
unfolding print_field
zone-two d o h = data-two 1 _ _ o h

-- a field that is copied
module _ (i : ℕ) (d : List ℕ) (b : Bool) (c : Copied i d b) (t : b ≡ true) where
  pub field-copied : print_field (field_with i d) ≡ i ∷ (write_count (length d) ++ d)
  unfolding print_field
  field-copied = rw (c.same t)

  pub copied-length : length (print_field (field_with i d)) ≡ 1 + length (write_count (length d)) + length d
  copied-length = ap length field-copied ∙ simp (length-append) (omega arith)

  -- it is no longer than a field may be
  pub copied-limit : length (print_field (field_with i d)) ≤ 4194304 → length d ≤ 4194304
  copied-limit l = omega (arith, copied-length)

-- a flag is there where there is room for it
flag-there : (flags : List ℕ) (id : ℕ) → id < length flags → get_or flags id 1 ≡ get_or flags id 0
flag-there [] id h = absurd (omega arith)
flag-there (x ∷ xs) zero h = refl
flag-there (x ∷ xs) (suc id) h = flag-there xs id (omega arith)

-- the three ways to tell
pub copied-other : (i : ℕ) (d : List ℕ) → (i ≡ 1 → ⊥) → Copied i d true
copied-other i d n = record { same = λ t. print-other i d n; zone = λ f. never refl f }

pub copied-not : (i : ℕ) (d : List ℕ) → i ≡ 1 → Copied i d false
copied-not i d e = record { same = λ t. never t refl; zone = λ f. e }

pub copied-flag : (i : ℕ) (d flags : List ℕ) (id a : ℕ) → Bytes d → i ≡ 1 → Told flags d → Stands d (parse read_count d) (at id a) → id < length flags
    → Copied i d (eqb (get_or flags id 0) 0)
unfolding flag_of
copied-flag i d flags id a b e t s l =
    record {
      same = λ f.
          let z : get_or flags id 0 ≡ 0 = eqb-true (get_or flags id 0) 0 f in
          let x : flag_of flags d ≡ 0 = rw s.means (flag-there flags id l ∙ z) in
          let p : data_preferred d ≡ true = t.flagged.means x in
          let h = t.content in
          let k : length (print h.content) ≡ length d = eqb-true _ _ (sym (data-preferred d h.content b h.is) ∙ p) in
          rw (e, content-is d h) (h.exact k);
      zone = λ f. e;
    }

-- whether a field stays as it is
pub unchanged-not : (i head : ℕ) (d : List ℕ) → Unchanged i head d false
unchanged-not i head d = record { same = λ t. never t refl; size = λ t. never t refl }

pub unchanged-so : (i head : ℕ) (d : List ℕ) (b : Bool) (k : ℕ) → head ≡ 1 + k → k ≡ length (write_count (length d)) → Copied i d b → Unchanged i head d b
unchanged-so i head d b k h e c = record { same = c.same; size = λ t. rw e at h }
