-- Each way out of the list of answers. Assumes nothing.
use Rattle.base.specs.declared.Refusal.TheVariants.{TooShort}
use Rattle.base.specs.declared.Refusal.{Refusal}
use Rattle.base.specs.Coded.{Fault}
use Rattle.std.specs.Prelude.{Err, Ok, Result}
use mathlib.Core.Path.{◌≡◌, refl, sym, ap, ◌∙◌}
use mathlib.Core.List.{List, [], ◌∷◌}
use Prim.Native.Nat.{ℕ, zero, suc, ◌+◌, ◌-◌, ◌/◌, ◌≤◌, ◌<◌}
use native.Mathlib.Omega.{arith}
use lib.IntN.{ℤ}
use lib.ListN.{length}
use lib.Seq.{sets, length-sets}
use Rattle.signed.specs.Instant.{instant_of, InRange, ticks_of}
use Rattle.signed.proofs.IntegerLaws.{instant-finite, ticks-instant}
use Rattle.zones.specs.declared.Edition.{Edition}
use Rattle.zones.specs.declared.Edition.TheVariants.{Two}
use Rattle.answers.specs.declared.Found.{Found}
use Rattle.found_zones.specs.FoundZone.{ask_zone}
use Rattle.found_zones.specs.declared.FoundZone.{FoundZone}
use Rattle.answer_tables.specs.Table.{row_of, rows_of}
use Rattle.answer_tables.specs.Lists.{answer_then, answers_from, list_for, listed_by, ListsAnswers}
use Rattle.answer_tables.proofs.AnswerLaws.{edition-same}
use Rattle.later_answers.specs.View.{behind, PutBehind}
use Rattle.later_answers.proofs.WalkLaws.{row-then, none_from, none-outside}

pub put-length : (d t : List ℤ) (x : Found) → t ≡ sets d 0 (row_of x) → 7 ≤ length d → 7 ≤ length t
put-length d t x e h = omega (arith, ap length e, length-sets d 0 (row_of x))

module _ (f : List ℕ) (v : FoundZone) (ed : Edition) where
  -- a list by two questions that give the same
  same-list : ((y : ℤ) → ask_zone f v y ed ≡ ask_zone f v y Two) → (k : ℕ) (z : ℤ) → answers_from f v ed k z ≡ answers_from f v Two k z
  unfolding answers_from
  same-list h zero z = refl
  same-list h (suc k) z = ap (λ (a : Result Found Fault). answer_then a (λ e. answers_from f v ed k e)) (h z) ∙ go (ask_zone f v z Two) (λ e. same-list h k e)
    where
      go : (a : Result Found Fault) → ((e : ℤ) → answers_from f v ed k e ≡ answers_from f v Two k e)
          → answer_then a (λ e. answers_from f v ed k e) ≡ answer_then a (λ e. answers_from f v Two k e)
      go (Ok x) rec = ap (λ (xs : List Found). x ∷ xs) (rec x.end)
      go (Err (n, p)) rec = refl

  module _ (z : ℤ) (d : List ℤ) (a : Result Found Fault) (asked : a ≡ ask_zone f v z ed) where
    -- the question is refused
    pub lists-denied : (n : Refusal) (p : ℕ) → a ≡ Err (n, p) → ListsAnswers f v z ed d (Err (n, p)) d
    unfolding rows_of
    lists-denied n p e =
        let q : ask_zone f v z ed ≡ Err (n, p) = sym asked ∙ e in
        let h : list_for f v ed z d ≡ [] = none_from f v ed z n p q (length d / 7) in
        record { result = rw q refl; rows = rw h refl }

    module _ (x : Found) (e : a ≡ Ok x) where
      q : ask_zone f v z ed ≡ Ok x
      q = sym asked ∙ e

      -- no room for a row
      pub lists-short : length d < 7 → ListsAnswers f v z ed d (Err (TooShort, 0)) d
      unfolding answers_from rows_of
      lists-short l = let h : length d / 7 ≡ 0 = omega arith in record { result = rw (q, h) refl; rows = rw h refl }

      module _ (l : 7 ≤ length d) where
        some : length d / 7 ≡ suc (length d / 7 - 1)
        some = omega arith

        -- the first row, and those behind it
        list-is : list_for f v ed z d ≡ x ∷ answers_from f v ed (length d / 7 - 1) x.end
        unfolding answers_from
        list-is =
            ap (λ (k : ℕ). answers_from f v ed k z) some
            ∙ ap (λ (b : Result Found Fault). answer_then b (λ u. answers_from f v ed (length d / 7 - 1) u)) q

        lists-by : (xs : List Found) → answers_from f v ed (length d / 7 - 1) x.end ≡ xs → (n : ℕ) (t : List ℤ)
            → n ≡ 1 + length xs → t ≡ sets (sets d 0 (row_of x)) 7 (rows_of xs) → ListsAnswers f v z ed d (Ok n) t
        unfolding rows_of
        lists-by xs h n t c r =
            let w : list_for f v ed z d ≡ x ∷ xs = list-is ∙ ap (λ (ys : List Found). x ∷ ys) h in
            let m : n ≡ length (list_for f v ed z d) = omega (arith, ap length w) in
            record {
              result =
                  ap Ok m
                  ∙ ap (λ (k : ℕ). listed_by (Ok x) k (length (list_for f v ed z d))) (sym some)
                  ∙ ap (λ (b : Result Found Fault). listed_by b (length d / 7) (length (list_for f v ed z d))) (sym q);
              rows = r ∙ row-then x d 0 7 (rows_of xs) refl ∙ ap (λ (ys : List Found). sets d 0 (rows_of ys)) (sym w);
            }

        -- the first interval has no end
        pub lists-one : (m : ℕ) → m ≡ instant_of x.end → m ≡ 0 → (t : List ℤ) → t ≡ sets d 0 (row_of x) → ListsAnswers f v z ed d (Ok 1) t
        unfolding rows_of
        lists-one m i h t r = lists-by [] (none-outside f v ed x.end (sym i ∙ h) (length d / 7 - 1)) 1 t refl r

        -- there is no room for a second row
        pub lists-full : (t : List ℤ) → t ≡ sets d 0 (row_of x) → length t < 14 → ListsAnswers f v z ed d (Ok 1) t
        unfolding answers_from rows_of
        lists-full t r h =
            let s : length t ≡ length d = ap length r ∙ length-sets d 0 (row_of x) in
            let w : length d / 7 - 1 ≡ 0 = omega arith in
            lists-by [] (rw w refl) 1 t refl r

        -- it has one
        pub lists-more : (m : ℕ) → m ≡ instant_of x.end → (m ≡ 0 → ⊥) → (t : List ℤ) → t ≡ sets d 0 (row_of x) → (n : ℕ) (u : List ℤ)
            → PutBehind f v m t n u → ListsAnswers f v z ed d (Ok n) u
        lists-more m i h t r n u b =
            let g : InRange x.end = λ k. h (i ∙ k) in
            let y : ticks_of m ≡ x.end = ap ticks_of i ∙ ticks-instant x.end (instant-finite (instant_of x.end) x.end refl g) in
            let s : length t ≡ length d = ap length r ∙ length-sets d 0 (row_of x) in
            let w : answers_from f v ed (length d / 7 - 1) x.end ≡ behind f v (length t / 7) 1 m =
            same-list (edition-same f v ed z x q g) (length d / 7 - 1) x.end
            ∙ ap (λ (k : ℕ). answers_from f v Two (k / 7 - 1) x.end) (sym s)
            ∙ ap (λ (e : ℤ). answers_from f v Two (length t / 7 - 1) e) (sym y) in
            lists-by (behind f v (length t / 7) 1 m) w n u b.count (b.rows ∙ ap (λ (o : List ℤ). sets o 7 (rows_of (behind f v (length t / 7) 1 m))) r)
