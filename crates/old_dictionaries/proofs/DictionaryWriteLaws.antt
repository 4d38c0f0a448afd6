-- How a dictionary is written: a law for each way out of the writer. Assumes nothing.
use Rattle.base.specs.declared.Refusal.{Refusal}
use Rattle.std.specs.Prelude.{Err, Ok, Result}
use Rattle.base.specs.Coded.{Coded}
use Rattle.base.specs.declared.Refusal.TheVariants.{BadCode}
use mathlib.Core.Path.{◌≡◌, refl, sym, ap, ap₂, ◌∙◌}
use mathlib.Core.List.{List, [], ◌++◌}
use Prim.Native.Nat.{ℕ, ◌-◌, ◌≤◌, ◌<◌}
use native.Mathlib.Omega.{arith}
use lib.ListN.{length, take, length-append}
use lib.Seq.{take-append_seam}
use borrow.Author.Tests.{le-leb, lt-leb}
use Rattle.base.specs.Parsed.{Parsed, got, bad}
use Rattle.base.specs.Writing.{Form, bytes, unfit, placed, Writes}
use Rattle.base.proofs.PairLaws.{ok_parts}
use Rattle.base.proofs.Parts.{Bytes}
use Rattle.base.proofs.Tests.{clash}
use Rattle.base.proofs.WriteLaws.{not_carried}
use Rattle.aliases.specs.Dictionary.{Dictionary}
use Rattle.old_counts.specs.OldCount.{write_old_count, old_count_form}
use Rattle.old_dictionaries.specs.OldDictionary.{parse_entries, write_pairs, found_of, form_of, old_dictionary_form}
use Rattle.old_dictionaries.proofs.DictionaryLaws.{entries-pairs, pairs-form}

pub too_many : (n : ℕ) (s d : List ℕ) → 2147483647 < n → Writes (old_dictionary_form n s) d (Err BadCode) d
too_many n s d h = rw (lt-leb n 2147483647 h) (not_carried BadCode d)

-- the count's code that stands in the output
pub count_left : (n : ℕ) (d out : List ℕ) → n ≤ 2147483647 → out ≡ placed (old_count_form n) d → out ≡ placed (bytes (write_old_count n)) d
count_left n d out l q = q ∙ rw (le-leb n 2147483647 l)

-- r is what reading the pairs found
module _ (n : ℕ) (s : List ℕ) (h : n ≤ 2147483647) (r : Coded ℕ) (q : r ≡ found_of s (parse_entries n [] s)) where
  as-form : (f : Form) (d : List ℕ) (w : Result ℕ Refusal) (o : List ℕ) → form_of (parse_entries n [] s) ≡ f → Writes f d w o → Writes (old_dictionary_form n s) d w o
  as-form f d w o e x = rw (le-leb n 2147483647 h, e) x

  pub form-bad : (k : Refusal) → r ≡ Err k → (d : List ℕ) → Writes (old_dictionary_form n s) d (Err k) d
  form-bad k e d = as-form (unfit k) d (Err k) d (go (parse_entries n [] s) (sym q ∙ e)) (not_carried k d)
    where
      go : (p : Parsed Dictionary) → found_of s p ≡ Err k → form_of p ≡ unfit k
      go (got es t) x = clash cc
      go (bad j) x = let z : j ≡ k = cc in ap unfit z

  module _ (b : Bytes s) (m e : ℕ) (i : r ≡ Ok (m, e)) where
    -- the pairs are the first e bytes
    pub record PairsHere : Type 0 where
      pub inside : e ≤ length s
      pub form : form_of (parse_entries n [] s) ≡ bytes (write_old_count n ++ take e s)

    pub pairs-here : PairsHere
    pairs-here = go (parse_entries n [] s) refl (sym q ∙ i)
      where
        go : (p : Parsed Dictionary) → parse_entries n [] s ≡ p → found_of s p ≡ Ok (m, e) → PairsHere
        go (bad j) y x = clash cc
        go (got es t) y x =
            let v = entries-pairs n [] s es t y in
            let f = pairs-form n s v.more t b v.pairs in
            let a : v.more ≡ es = sym v.all in
            let o : s ≡ write_pairs es ++ t = f.form ∙ ap (λ (z : Dictionary). write_pairs z ++ t) a in
            let l : length es ≡ n = ap length v.all ∙ f.many in
            let c : length s ≡ length (write_pairs es ++ t) = ap length o in
            let z : length s - length t ≡ e = (ok_parts x).1 in
            let k : e ≡ length (write_pairs es) = omega (arith, z, c, length-append (write_pairs es) t) in
            let u : take e s ≡ write_pairs es = ap₂ take k o ∙ take-append_seam (write_pairs es) t in
            record {
              inside = omega (arith, z);
              form = ap form_of y ∙ ap bytes (ap₂ (λ (x : ℕ) (ys : List ℕ). write_old_count x ++ ys) l (sym u));
            }

    pub form-good : (d : List ℕ) (w : Result ℕ Refusal) (o : List ℕ) → Writes (bytes (write_old_count n ++ take (e - 0) s)) d w o → Writes (old_dictionary_form n s) d w o
    form-good d w o x =
        let z : e - 0 ≡ e = omega arith in
        as-form (bytes (write_old_count n ++ take e s)) d w o pairs-here.form (rw z at x)
