-- Halving every seventh number, and each way out of a question over a table. Assumes nothing.
use Rattle.base.specs.declared.Refusal.TheVariants.{OutOfRange}
use Rattle.std.specs.declared.option.Option.{Option}
use Rattle.std.specs.declared.option.Option.TheVariants.{None, Some}
use Rattle.base.specs.Coded.{Fault}
use Rattle.std.specs.Prelude.{Err, Ok, Result}
use mathlib.Core.Path.{◌≡◌, refl, sym, ap, ◌∙◌, subst}
use mathlib.Core.Bool.{Bool, true, false}
use mathlib.Core.List.{List}
use Prim.Native.Nat.{ℕ, ◌+◌, ◌-◌, ◌*◌, ◌/◌, ◌≤◌, ◌<◌}
use native.Mathlib.Omega.{arith}
use lib.Dec.{leb}
use lib.IntN.{ℤ, pos, negsuc, nat_abs}
use lib.Signed.{le_z, lt_z}
use lib.ListN.{length, get_or}
use borrow.Author.Tests.{eq-eqb, ne_eqb, ltb-true, le-leb, lt-leb}
use Rattle.base.specs.Pick.{pick, both}
use Rattle.base.proofs.Tests.{never, by_order}
use Rattle.signed.specs.Instant.{instant_of}
use Rattle.zones.specs.declared.Edition.{Edition}
use Rattle.answers.specs.declared.Found.{Found}
use Rattle.halving.specs.Looks.{Standing, Near}
use Rattle.halving.proofs.StepLaws.{find_none, standing-start, standing-kept, standing-before, standing-done}
use Rattle.found_zones.specs.FoundZone.{ask_zone}
use Rattle.found_zones.specs.declared.FoundZone.{FoundZone}
use Rattle.answer_tables.specs.Table.{natural, answer_at, starts_of, holds_in, kept_by, kept_row, answer_or, ask_listed}
use Rattle.answer_tables.proofs.RowLaws.{starts-length, start_is, left-inside}
use Rattle.table_questions.specs.View.{Seeking, Looked, LeftRow}
use Rattle.table_questions.specs.declared.Rows.{Rows}

pub natural-below : (z : ℤ) → lt_z z (pos 0) ≡ true → 0 ≡ natural z
natural-below (pos n) e = absurd (omega (arith, ltb-true n 0 e))
natural-below (negsuc n) e = refl

pub natural-of : (z : ℤ) → lt_z z (pos 0) ≡ false → nat_abs z ≡ natural z
natural-of (pos n) e = refl
natural-of (negsuc n) e = never refl e

module _ (rows : List ℤ) (z : ℤ) where
  pub seeking-start : (n : ℕ) → n ≡ length rows / 7 → 0 < n → Seeking rows z 0 n
  seeking-start n e h =
      let l : length (starts_of rows) ≡ n = starts-length (length rows / 7) 0 rows ∙ sym e in
      record {
        low = 0;
        looks = 0;
        place = refl;
        stands = subst (λ (m : ℕ). Standing (starts_of rows) z 0 m 0) l (standing-start (starts_of rows) z (λ q. omega arith));
      }

  module _ (at left : ℕ) (g : Seeking rows z at left) where
    middle-in : g.low + left / 2 < length rows / 7
    middle-in = omega (arith, g.stands.inside, g.stands.some, starts-length (length rows / 7) 0 rows)

    -- the row half the rows left in
    pub seen : at + 7 * (left / 2) + 7 ≤ length rows
    seen = omega (arith, g.place, middle-in)

    by-start : (t : Bool) → le_z (get_or rows (at + 7 * (left / 2) + 5) (pos 0)) z ≡ t → le_z (get_or (starts_of rows) (g.low + left / 2) (pos 0)) z ≡ t
    by-start t e =
        let p : 7 * (g.low + left / 2) + 5 ≡ at + 7 * (left / 2) + 5 = omega (arith, g.place) in
        rw (start_is rows (g.low + left / 2) middle-in, p) e

    module _ (h : 1 < left) where
      pub row_kept : le_z (get_or rows (at + 7 * (left / 2) + 5) (pos 0)) z ≡ true
          → Looked rows z left (record { at = at + 7 * (left / 2); left = left - left / 2 })
      row_kept e = record {
        seeks = record {
          low = g.low + left / 2;
          looks = g.looks + 1;
          place = omega (arith, g.place);
          stands = standing-kept (starts_of rows) z g.low left g.looks g.stands h (by-start true e);
        };
        least = omega arith;
        most = omega arith;
      }

      pub row_before : le_z (get_or rows (at + 7 * (left / 2) + 5) (pos 0)) z ≡ false → Looked rows z left (record { at = at; left = left / 2 })
      row_before e = record {
        seeks = record {
          low = g.low;
          looks = g.looks + 1;
          place = g.place;
          stands = standing-before (starts_of rows) z g.low left g.looks g.stands h (by-start false e);
        };
        least = omega arith;
        most = omega arith;
      }

    -- one row is left
    done : left ≤ 1 → LeftRow rows z at
    done h =
        let e = standing-done (starts_of rows) z g.low left g.looks g.stands h in
        record {
          row = g.low;
          looks = g.looks;
          place = g.place;
          is = sym e;
          inside = omega (arith, g.place, left-inside rows z g.low g.looks (sym e));
        }

  pub looked-near : (m left : ℕ) (r : Rows) → Looked rows z left r → Near m left → Near (m / 2) r.left
  looked-near m left r l n = record { from = omega (arith, n.from, l.least); to = omega (arith, n.to, l.most) }

  module _ (at left : ℕ) (g : Seeking rows z at left) (h : left ≤ 2) where
    pub left-kept : le_z (get_or rows (at + 7 * (left / 2) + 5) (pos 0)) z ≡ true → LeftRow rows z (at + 7 * (left / 2))
    left-kept e =
        by_order 1 left
        (λ (l : 1 < left). done (at + 7 * (left / 2)) (left - left / 2) (row_kept at left g l e).seeks (omega arith))
        (λ (l : left ≤ 1). let q : at + 7 * (left / 2) ≡ at = omega arith in rw q (done at left g l))

    pub left-before : le_z (get_or rows (at + 7 * (left / 2) + 5) (pos 0)) z ≡ false → LeftRow rows z at
    left-before e =
        by_order 1 left
        (λ (l : 1 < left). done at (left / 2) (row_before at left g l e).seeks (omega arith))
        (λ (l : left ≤ 1). done at left g l)

  -- each way out of the table, of n bytes
  module _ (n : ℕ) where
    pub kept-none : length rows / 7 ≡ 0 → None ≡ kept_row n rows z
    unfolding kept_row
    kept-none h = ap (kept_by n rows z) (find_none (starts_of rows) z (starts-length (length rows / 7) 0 rows ∙ h))

    module _ (at : ℕ) (l : LeftRow rows z at) where
      -- a number of the row
      abbrev number : ℕ → ℤ
      number i = get_or rows (at + i) (pos 0)

      -- the row, by the places of its numbers
      abbrev row : Found
      row = record {
        wall = get_or rows at (pos 0);
        savings = number 1;
        standard = number 2;
        name = natural (number 3);
        length = natural (number 4);
        start = number 5;
        end = number 6;
      }

      row_is : row ≡ answer_at rows l.row
      row_is = rw l.place refl

      -- by its tests
      by_tests : (a b c : Bool) → le_z (number 5) z ≡ a → lt_z z (number 6) ≡ b → leb (natural (number 3) + natural (number 4)) n ≡ c
          → pick (both a (both b c)) (Some row) None ≡ kept_row n rows z
      unfolding kept_row
      by_tests a b c p q r =
          rw (← p, ← q, ← r) (ap (λ (y : Found). pick (holds_in n y z) (Some y) None) row_is ∙ ap (kept_by n rows z) (sym l.is))

      pub kept-after : le_z (number 5) z ≡ false → None ≡ kept_row n rows z
      kept-after p = by_tests false (lt_z z (number 6)) (leb (natural (number 3) + natural (number 4)) n) p refl refl

      module _ (p : le_z (number 5) z ≡ true) where
        pub kept-before : lt_z z (number 6) ≡ false → None ≡ kept_row n rows z
        kept-before q = by_tests true false (leb (natural (number 3) + natural (number 4)) n) p q refl

        module _ (q : lt_z z (number 6) ≡ true) where
          pub kept-outside : n < natural (number 3) + natural (number 4) → None ≡ kept_row n rows z
          kept-outside r = by_tests true true false p q (lt-leb (natural (number 3) + natural (number 4)) n r)

          pub kept-holds : natural (number 3) + natural (number 4) ≤ n → Some row ≡ kept_row n rows z
          kept-holds r = by_tests true true true p q (le-leb (natural (number 3) + natural (number 4)) n r)

-- BY THE TICK
module _ (f : List ℕ) (v : FoundZone) (rows : List ℤ) (z : ℤ) (ed : Edition) where
  pub listed-outside : (t : ℕ) → t ≡ instant_of z → t ≡ 0 → ◌≡◌ {A = Result Found Fault} (Err (OutOfRange, 0)) (ask_listed f v rows z ed)
  unfolding ask_listed
  listed-outside t e h = rw (eq-eqb (instant_of z) 0 (sym e ∙ h))

  module _ (t : ℕ) (e : t ≡ instant_of z) (h : t ≡ 0 → ⊥) (c : Option Found) (k : c ≡ kept_row (length f) rows z) where
    inside : (a : Result Found Fault) → a ≡ answer_or c (ask_zone f v z ed) → a ≡ ask_listed f v rows z ed
    unfolding ask_listed
    inside a q = rw (ne_eqb (instant_of z) 0 (λ i. h (e ∙ i))) (q ∙ ap (λ (y : Option Found). answer_or y (ask_zone f v z ed)) k)

    pub listed-row : (x : Found) → c ≡ Some x → Ok x ≡ ask_listed f v rows z ed
    listed-row x q = inside (Ok x) (rw q refl)

    pub listed-asked : c ≡ None → (a : Result Found Fault) → a ≡ ask_zone f v z ed → a ≡ ask_listed f v rows z ed
    listed-asked q a w = inside a (rw q w)
