-- Finding a key among the entries of an older dictionary that was found good. Assumes nothing.
use Rattle.base.specs.declared.Refusal.{Refusal}
use Rattle.std.specs.declared.option.Option.{Option as Maybe}
use Rattle.std.specs.declared.option.Option.TheVariants.{None, Some}
use Rattle.std.specs.Prelude.{Err, Ok}
use Rattle.base.specs.Coded.{Coded}
use mathlib.Core.Path.{◌≡◌, refl, sym, ap, ◌∙◌}
use mathlib.Core.Bool.{Bool, true, false}
use mathlib.Core.List.{List, [], ◌∷◌}
use mathlib.Core.Option.{Option}
use Prim.Native.Nat.{ℕ, suc, ◌-◌, ◌≤◌, ◌<◌}
use native.Mathlib.Omega.{arith}
use lib.ListN.{length, drop}
use Rattle.base.specs.Equal.{equal}
use Rattle.base.specs.Parsed.{got}
use Rattle.base.proofs.ParseLaws.{bad-got, got-value, got-rest}
use Rattle.aliases.specs.Dictionary.{Entry, entry, Dictionary, target_of}
use Rattle.old_counts.specs.OldCount.{read_old_count}
use Rattle.old_counts.proofs.OldCountLaws.{count-sized}
use Rattle.old_dictionaries.specs.Pairs.{parse_pair, parse_pairs}
use Rattle.old_dictionaries.specs.View.{part, PairTo, PairAt}
use Rattle.old_dictionaries.proofs.PairLaws.{Split, pairs-split}
use Rattle.old_dictionaries.proofs.DictionaryLaws.{dictionary-pairs, no-count}
use Rattle.old_named_questions.specs.View.{entries_of, Sound, Listed, Points}

-- the loop: the target of x is what the entries from the place on say, of which some are left
pub record Looking (d x : List ℕ) (whole : Option (List ℕ)) (left place : ℕ) : Type 0 where
  pub inside : place ≤ length d
  pub es : Dictionary
  pub rest : List ℕ
  pub pairs : parse_pairs left (drop place d) ≡ got es rest
  pub same : whole ≡ target_of es x

pub looking-start : (d x : List ℕ) (n place : ℕ) → Listed d place n → Looking d x (target_of (entries_of d) x) n place
looking-start d x n place l = record { inside = l.place; es = entries_of d; rest = l.rest; pairs = l.pairs; same = refl }

module _ (d x : List ℕ) (whole : Option (List ℕ)) (left place : ℕ) (g : Looking d x whole left place) where
  pub looking-done : left ≡ 0 → Points d whole None
  unfolding parse_pairs target_of
  looking-done z =
      let e : [] ≡ g.es = got-value (rw z at g.pairs) in
      record { means = g.same ∙ ap (λ (es : Dictionary). target_of es x) (sym e) }

  module _ (some_left : 0 < left) (r : Maybe (ℕ × ℕ × ℕ × ℕ)) (p : PairAt d place r) where
    split : Split (left - 1) (drop place d) g.es g.rest
    split =
        let z : left ≡ suc (left - 1) = omega arith in
        pairs-split (left - 1) (drop place d) g.es g.rest (sym (ap (λ (n : ℕ). parse_pairs n (drop place d)) z) ∙ g.pairs)

    pub never-pair : {G : Type 0} → r ≡ None → G
    never-pair e = let q : PairTo d (parse_pair (drop place d)) None = rw e at p.means in bad-got (sym q.1 ∙ split.pair)

    module _ (b c v e : ℕ) (h : r ≡ Some (b, c, v, e)) where
      to : PairTo d (parse_pair (drop place d)) (Some (b, c, v, e))
      to = rw h at p.means

      pub pair_inside : (b ≤ c) × (c ≤ length d)
      pair_inside = (to.0, omega (arith, to.1, to.2, to.3))

      first-is : split.first ≡ entry (part b c d) (part v e d)
      first-is = got-value (sym split.pair ∙ to.4)

      rest-is : split.rest ≡ drop e d
      rest-is = got-rest (sym split.pair ∙ to.4)

      whole_is : whole ≡ target_of (entry (part b c d) (part v e d) ∷ split.more) x
      whole_is = g.same ∙ ap (λ (es : Dictionary). target_of es x) split.all ∙ ap (λ (f : Entry). target_of (f ∷ split.more) x) first-is

      module _ (t : Bool) (q : t ≡ equal (part b c d) x) where
        pub looking-found : t ≡ true → Points d whole (Some (v, e))
        unfolding target_of
        looking-found y = record { means = (to.2, to.3, whole_is ∙ rw (← q, y) refl) }

        pub looking-next : t ≡ false → Looking d x whole (left - 1) e
        unfolding target_of
        looking-next y =
            record {
              inside = to.3;
              es = split.more;
              rest = g.rest;
              pairs = ap (parse_pairs (left - 1)) (sym rest-is) ∙ split.pairs;
              same = whole_is ∙ rw (← q, y) refl;
            }

-- the count of a dictionary that was found good
module _ (d : List ℕ) (g : Sound d) (r : Coded ℕ) (h : r ≡ read_old_count d) where
  pub listed_at : (n a : ℕ) → r ≡ Ok (n, a) → Listed d a n
  listed_at n a e =
      record { place = (count-sized d (sym e ∙ h)).within; rest = g.rest; pairs = dictionary-pairs d (entries_of d) g.rest n a (sym h ∙ e) g.is }

  pub never-count : {G : Type 0} (k : Refusal) → r ≡ Err k → G
  never-count k e = bad-got (sym (no-count d k (sym h ∙ e)) ∙ g.is)
