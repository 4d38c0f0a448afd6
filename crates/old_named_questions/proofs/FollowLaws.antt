-- Following a name over the entries of an older dictionary, a law for each way out. Assumes nothing.
use Rattle.base.specs.declared.Refusal.TheVariants.{NotFound, TooManySteps}
use Rattle.std.specs.declared.option.Option.{Option as Maybe}
use Rattle.std.specs.declared.option.Option.TheVariants.{None, Some}
use Rattle.base.specs.Coded.{Fault}
use Rattle.std.specs.Prelude.{Err, Ok, Result}
use mathlib.Core.Path.{◌≡◌, refl, sym, ap, ◌∙◌}
use mathlib.Core.List.{List}
use mathlib.Core.Option.{Option, none, some}
use Prim.Native.Nat.{ℕ, zero, suc, ◌-◌, ◌≤◌}
use native.Mathlib.Omega.{arith}
use lib.ListN.{length}
use Rattle.base.proofs.Tests.{clash}
use Rattle.aliases.specs.Dictionary.{Dictionary, target_of}
use Rattle.alias_lookup.specs.Lookup.{here, lookup}
use Rattle.old_dictionaries.specs.View.{part}
use Rattle.answers.specs.declared.Found.{Found}
use Rattle.old_named_questions.specs.OldNamed.{resolved}
use Rattle.old_named_questions.specs.View.{PointsTo, Points, asked_of}

-- r is what asking a zone gave
module _ (o : Option Found) (r : Maybe Found) (h : r ≡ asked_of o) where
  pub asked-zone : (v : Found) → r ≡ Some v → o ≡ some v
  asked-zone v e = go o (sym h ∙ e)
    where
      go : (p : Option Found) → asked_of p ≡ Some v → p ≡ some v
      go (some w) q = let z : w ≡ v = cc in ap some z
      go none q = clash cc

  pub asked-none : r ≡ None → o ≡ none
  asked-none e = go o (sym h ∙ e)
    where
      go : (p : Option Found) → asked_of p ≡ None → p ≡ none
      go (some w) q = clash cc
      go none q = refl

-- r is where the string o lies in d
module _ (d : List ℕ) (o : Option (List ℕ)) (r : Maybe (ℕ × ℕ)) (p : Points d o r) where
  pub point-none : r ≡ None → o ≡ none
  point-none e = (rw e at p).means

  module _ (b e : ℕ) (i : r ≡ Some (b, e)) where
    to : PointsTo d o (Some (b, e))
    to = (rw i at p).means

    pub point-inside : (b ≤ e) × (e ≤ length d)
    point-inside = (to.0, to.1)

    pub point_at : o ≡ some (part b e d)
    point_at = to.2

-- x is no zone's ID, and r is where its target lies
module _ (zone : List ℕ → Option Found) (es : Dictionary) (d x : List ℕ) (n : ℕ) (no-zone : zone x ≡ none) (r : Maybe (ℕ × ℕ)) (p : Points d (target_of es x) r) where
  pub follow-missing : r ≡ None → Err (NotFound, 0) ≡ resolved (lookup zone es n x)
  unfolding lookup
  follow-missing e = go n (point-none d (target_of es x) r p e)
    where
      go : (m : ℕ) → target_of es x ≡ none → Err (NotFound, 0) ≡ resolved (lookup zone es m x)
      go zero q = rw (no-zone, q) refl
      go (suc m) q = rw (no-zone, q) refl

  module _ (b e : ℕ) (i : r ≡ Some (b, e)) where
    target_is : target_of es x ≡ some (part b e d)
    target_is = point_at d (target_of es x) r p b e i

    pub follow-deep : n ≡ 0 → Err (TooManySteps, 0) ≡ resolved (lookup zone es n x)
    unfolding lookup
    follow-deep z = rw (z, no-zone, target_is) refl

    module _ (some_left : n ≡ 0 → ⊥) where
      step-on : lookup zone es (n - 1) (part b e d) ≡ lookup zone es n x
      unfolding lookup
      step-on = go n some_left
        where
          go : (m : ℕ) → (m ≡ 0 → ⊥) → lookup zone es (m - 1) (part b e d) ≡ lookup zone es m x
          go zero s = absurd (s refl)
          go (suc m) s = let o : suc m - 1 ≡ m = omega arith in rw (o, no-zone, target_is)

      pub follow-zone : (v : Found) → zone (part b e d) ≡ some v → Ok v ≡ resolved (lookup zone es n x)
      unfolding lookup
      follow-zone v z = ap resolved (sym (go (n - 1)) ∙ step-on)
        where
          go : (m : ℕ) → lookup zone es m (part b e d) ≡ here v
          go zero = rw z
          go (suc m) = rw z

      pub follow-on : (a : Result Found Fault) → a ≡ resolved (lookup zone es (n - 1) (part b e d)) → a ≡ resolved (lookup zone es n x)
      follow-on a h = h ∙ ap resolved step-on
