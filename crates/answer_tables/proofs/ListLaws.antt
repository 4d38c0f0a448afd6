-- The answers of a list are right, and one after the other. Assumes nothing.
use Rattle.base.specs.Coded.{Fault}
use Rattle.std.specs.Prelude.{Err, Ok, Result}
use mathlib.Core.Path.{◌≡◌, refl, sym, ap, ◌∙◌, subst}
use mathlib.Core.List.{List, ◌∷◌}
use Prim.Native.Nat.{ℕ, zero, suc, ◌+◌, ◌*◌, ◌/◌, ◌≤◌, ◌<◌}
use native.Mathlib.Omega.{arith}
use lib.IntN.{ℤ, pos}
use lib.ListN.{length, take, drop, get_or}
use lib.Seq.{sets-eq, take_at}
use Rattle.base.proofs.Tests.{clash}
use Rattle.zones.specs.declared.Edition.{Edition}
use Rattle.answers.specs.declared.Found.{Found}
use Rattle.found_zones.specs.FoundZone.{ask_zone}
use Rattle.found_zones.specs.declared.FoundZone.{FoundZone}
use Rattle.found_zones.proofs.SameLaws.{ask-same}
use Rattle.answer_tables.specs.Table.{rows_of, answer_at}
use Rattle.answer_tables.specs.Lists.{answer_then, answers_from, list_for, listed_by, ListsAnswers}
use Rattle.answer_tables.specs.Facts.{Right, Consecutive, Tables}
use Rattle.answer_tables.proofs.RowLaws.{rows-length, row_at}
use Rattle.answer_tables.proofs.TableLaws.{listed_same}
use Rattle.answer_tables.proofs.AnswerLaws.{answered, ask-next}

none : Found
none = record { wall = pos 0; savings = pos 0; standard = pos 0; name = 0; length = 0; start = pos 0; end = pos 0 }

one_more : {m k : ℕ} → m ≤ k → suc m ≤ suc k
one_more h = omega arith

one_less : {m k : ℕ} → suc m < suc k → m < k
one_less h = omega arith

rows-count : (a : Result Found Fault) (room count n : ℕ) → Ok n ≡ listed_by a room count → n ≡ count
rows-count (Ok x) zero count n e = clash cc
rows-count (Ok x) (suc k) count n e = cc
rows-count (Err (m, p)) room count n e = clash cc

module _ (f : List ℕ) (v : FoundZone) (ed : Edition) where
  pub list-few : (k : ℕ) (z : ℤ) → length (answers_from f v ed k z) ≤ k
  unfolding answers_from
  list-few zero z = omega arith
  list-few (suc k) z = go (ask_zone f v z ed) (λ e. list-few k e)
    where
      go : (a : Result Found Fault) → ((e : ℤ) → length (answers_from f v ed k e) ≤ k) → length (answer_then a (λ e. answers_from f v ed k e)) ≤ suc k
      go (Ok x) rec = one_more (rec _)
      go (Err (n, p)) rec = omega arith

  -- each was given at some tick
  record Given (x : Found) : Type 0 where
    tick : ℤ
    is : ask_zone f v tick ed ≡ Ok x

  given : (k : ℕ) (z : ℤ) (j : ℕ) → j < length (answers_from f v ed k z) → Given (get_or (answers_from f v ed k z) j none)
  unfolding answers_from
  given zero z j h = absurd (omega arith)
  given (suc k) z j h = go (ask_zone f v z ed) refl j h (λ e i l. given k e i l)
    where
      go : (a : Result Found Fault) → ask_zone f v z ed ≡ a → (j : ℕ) → j < length (answer_then a (λ e. answers_from f v ed k e))
          → ((e : ℤ) (i : ℕ) → i < length (answers_from f v ed k e) → Given (get_or (answers_from f v ed k e) i none))
          → Given (get_or (answer_then a (λ e. answers_from f v ed k e)) j none)
      go (Ok x) e zero l rec = record { tick = z; is = e }
      go (Ok x) e (suc i) l rec = rec _ i (one_less l)
      go (Err (n, p)) e i l rec = absurd (omega arith)

  list_right : (k : ℕ) (from : ℤ) → Right f v ed (rows_of (answers_from f v ed k from))
  list_right k from = record {
    row = λ j h z g a b.
        let xs = answers_from f v ed k from in
        let l : j < length xs = omega (arith, rows-length xs) in
        let e : answer_at (rows_of xs) j ≡ get_or xs j none = row_at xs j none l in
        let w = given k from j l in
        ask-same f v ed (answer_at (rows_of xs) j) w.tick (w.is ∙ ap Ok (sym e)) z g a b;
  }

  -- the rows that were put, without what stands behind them
  put-rows : (from : ℤ) (d e : List ℤ) (n : ℕ) → ListsAnswers f v from ed d (Ok n) e → take (7 * n) e ≡ rows_of (list_for f v ed from d)
  put-rows from d e n l =
      let xs = list_for f v ed from d in
      let c : n ≡ length xs = rows-count (ask_zone f v from ed) (length d / 7) (length xs) n l.result in
      let m : length (rows_of xs) ≡ 7 * n = rows-length xs ∙ omega arith in
      let h : 0 + length (rows_of xs) ≤ length d = omega (arith, list-few (length d / 7) from) in
      ap (take (7 * n)) (l.rows ∙ sets-eq (rows_of xs) d 0 h) ∙ take_at (rows_of xs) (drop (0 + length (rows_of xs)) d) (7 * n) m

  pub lists-right : (from : ℤ) (d e : List ℤ) (n : ℕ) → ListsAnswers f v from ed d (Ok n) e → Right f v ed (take (7 * n) e)
  lists-right from d e n l = subst (Right f v ed) (sym (put-rows from d e n l)) (list_right (length d / 7) from)

  in-turn : (k : ℕ) (z : ℤ) → Consecutive (answers_from f v ed k z)
  unfolding answers_from
  in-turn zero z = tt
  in-turn (suc k) z = go (ask_zone f v z ed) refl k (λ e. in-turn k e)
    where
      next : (x : Found) → ask_zone f v z ed ≡ Ok x → (i : ℕ) (a : Result Found Fault) → ask_zone f v x.end ed ≡ a
          → Consecutive (answer_then a (λ e. answers_from f v ed i e)) → Consecutive (x ∷ answer_then a (λ e. answers_from f v ed i e))
      next x e i (Ok y) h c = (ask-next f v ed z x (answered f v ed z x e) y h, c)
      next x e i (Err (n, p)) h c = tt

      go : (a : Result Found Fault) → ask_zone f v z ed ≡ a → (j : ℕ) → ((e : ℤ) → Consecutive (answers_from f v ed j e))
          → Consecutive (answer_then a (λ e. answers_from f v ed j e))
      go (Ok x) e zero rec = tt
      go (Ok x) e (suc i) rec = next x e i (ask_zone f v x.end ed) refl (rec x.end)
      go (Err (n, p)) e j rec = tt

  -- WHAT A TABLE GIVES
  pub tables : Tables f v ed
  tables = record {
    same = λ rows r z. listed_same f v ed rows r z;
    right = lists-right;
    asks = λ id h from d e n l z. listed_same f v ed (take (7 * n) e) (lists-right from d e n l) z ∙ h.to z ed;
    in-turn = λ from k. in-turn k from;
  }
