-- Rows and starts of a table. Assumes nothing.
use Rattle.base.specs.declared.Refusal.TheVariants.{NotFound}
use Rattle.base.specs.Coded.{Fault}
use Rattle.std.specs.Prelude.{Err, Ok, Result}
use mathlib.Core.Path.{◌≡◌, refl, sym, ap, ◌∙◌}
use mathlib.Core.List.{List, [], ◌∷◌, ◌++◌}
use Prim.Native.Nat.{ℕ, zero, suc, ◌+◌, ◌*◌, ◌/◌, ◌≤◌, ◌<◌}
use native.Mathlib.Omega.{arith}
use lib.IntN.{ℤ, pos}
use lib.ListN.{length, get_or, length-append}
use lib.Seq.{get_or-append-add}
use Rattle.base.proofs.PairLaws.{ok_parts}
use Rattle.base.proofs.Tests.{clash, by_order}
use Rattle.answers.specs.declared.Found.{Found}
use Rattle.halving.specs.Halving.{find_start}
use Rattle.halving.proofs.StepLaws.{find_none}
use Rattle.halving.proofs.HalvingLaws.{halving-finds}
use Rattle.answer_tables.specs.Table.{row_of, rows_of, answer_at, starts_from, starts_of}

pub starts-length : (n k : ℕ) (rows : List ℤ) → length (starts_from n k rows) ≡ n
unfolding starts_from
starts-length zero k rows = refl
starts-length (suc n) k rows = ap suc (starts-length n (suc k) rows)

starts-entry : (n k : ℕ) (rows : List ℤ) (j : ℕ) → j < n → get_or (starts_from n k rows) j (pos 0) ≡ get_or rows (7 * (k + j) + 5) (pos 0)
unfolding starts_from
starts-entry zero k rows j h = absurd (omega arith)
starts-entry (suc n) k rows zero h = let e : k ≡ k + 0 = omega arith in ap (λ (i : ℕ). get_or rows (7 * i + 5) (pos 0)) e
starts-entry (suc n) k rows (suc j) h =
    let e : suc k + j ≡ k + suc j = omega arith in
    starts-entry n (suc k) rows j (omega arith) ∙ ap (λ (i : ℕ). get_or rows (7 * i + 5) (pos 0)) e

pub start_is : (rows : List ℤ) (j : ℕ) → j < length rows / 7 → get_or (starts_of rows) j (pos 0) ≡ get_or rows (7 * j + 5) (pos 0)
start_is rows j h =
    let e : 0 + j ≡ j = omega arith in
    starts-entry (length rows / 7) 0 rows j h ∙ ap (λ (i : ℕ). get_or rows (7 * i + 5) (pos 0)) e

-- halving leaves one of the rows
pub left-inside : (rows : List ℤ) (z : ℤ) (k looks : ℕ) → find_start (starts_of rows) z ≡ Ok (k, looks) → k < length rows / 7
left-inside rows z k looks e =
    by_order 0 (length (starts_of rows))
    (λ (h : 0 < length (starts_of rows)).
    let w = halving-finds (starts_of rows) z h in
    let j : w.position ≡ k = (ok_parts (sym w.is ∙ e)).0 in
    omega (arith, w.inside, starts-length (length rows / 7) 0 rows))
    (λ (h : length (starts_of rows) ≤ 0).
    let q : ◌≡◌ {A = Result (ℕ × ℕ) Fault} (Err (NotFound, 0)) (Ok (k, looks)) = find_none (starts_of rows) z (omega arith) ∙ e in
    clash cc)

-- the rows of answers
pub rows-length : (xs : List Found) → length (rows_of xs) ≡ 7 * length xs
unfolding rows_of
rows-length [] = refl
rows-length (x ∷ xs) = length-append (row_of x) (rows_of xs) ∙ omega (arith, rows-length xs)

module _ (x : Found) (rs : List ℤ) (k : ℕ) where
  later : (i : ℕ) → get_or (row_of x ++ rs) (7 * suc k + i) (pos 0) ≡ get_or rs (7 * k + i) (pos 0)
  later i =
      let e : 7 * suc k + i ≡ 7 + (7 * k + i) = omega arith in
      ap (λ (j : ℕ). get_or (row_of x ++ rs) j (pos 0)) e ∙ get_or-append-add (row_of x) rs (7 * k + i) (pos 0)

  first-later : get_or (row_of x ++ rs) (7 * suc k) (pos 0) ≡ get_or rs (7 * k) (pos 0)
  first-later =
      let e : 7 * suc k ≡ 7 + 7 * k = omega arith in
      ap (λ (j : ℕ). get_or (row_of x ++ rs) j (pos 0)) e ∙ get_or-append-add (row_of x) rs (7 * k) (pos 0)

  answer-later : answer_at (row_of x ++ rs) (suc k) ≡ answer_at rs k
  answer-later = rw (first-later, later 1, later 2, later 3, later 4, later 5, later 6)

pub row_at : (xs : List Found) (k : ℕ) (d : Found) → k < length xs → answer_at (rows_of xs) k ≡ get_or xs k d
unfolding rows_of
row_at [] k d h = absurd (omega arith)
row_at (x ∷ xs) zero d h = refl
row_at (x ∷ xs) (suc k) d h = answer-later x (rows_of xs) k ∙ row_at xs k d (omega arith)
