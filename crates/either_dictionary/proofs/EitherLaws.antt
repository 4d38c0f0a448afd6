-- A name leads the same way over both editions' dictionaries. Assumes nothing.
use Rattle.base.specs.declared.Refusal.{Refusal}
use mathlib.Core.Path.{◌≡◌, refl, sym, subst}
use mathlib.Core.List.{List}
use mathlib.Core.Option.{Option, none, some}
use Prim.Native.Nat.{ℕ, zero, suc}
use Rattle.base.specs.Parsed.{got, bad}
use Rattle.zones.specs.Content.{Zone}
use Rattle.aliases.specs.Dictionary.{Dictionary, target_of}
use Rattle.alias_lookup.specs.Lookup.{Named, here, unknown, deep, or_else, by_key, lookup, most}
use Rattle.answers.specs.Answers.{Pool}
use Rattle.answers.specs.declared.Found.{Found}
use Rattle.named_fields.specs.Named.{zone_in, Known, resolved, alias_says}
use Rattle.old_named_questions.specs.OldNamed.{resolved as older_resolved, older_says}
use Rattle.either_dictionary.specs.Either.{mapped, mapped_named, Same}

-- the lookup of another answer for each zone
module _ {A B : Type 0} (h : A → B) (zone : List ℕ → Option A) (other : List ℕ → Option B) (same : (y : List ℕ) → other y ≡ mapped h (zone y)) (d : Dictionary) where
  pub lookup-mapped : (n : ℕ) (x : List ℕ) → lookup other d n x ≡ mapped_named h (lookup zone d n x)
  unfolding lookup
  lookup-mapped zero x = rw (same x) (go (zone x) (target_of d x))
    where
      go : (o : Option A) (k : Option (List ℕ)) → or_else (mapped h o) (by_key k (λ t. deep)) ≡ mapped_named h (or_else o (by_key k (λ t. deep)))
      go (some a) k = refl
      go none none = refl
      go none (some t) = refl
  lookup-mapped (suc n) x = rw (same x) (go (zone x) (target_of d x) (λ t. lookup-mapped n t))
    where
      go : (o : Option A) (k : Option (List ℕ)) → ((t : List ℕ) → lookup other d n t ≡ mapped_named h (lookup zone d n t))
          → or_else (mapped h o) (by_key k (λ t. lookup other d n t)) ≡ mapped_named h (or_else o (by_key k (λ t. lookup zone d n t)))
      go (some a) k rec = refl
      go none none rec = refl
      go none (some t) rec = rec t

-- what field 3 and an older dictionary of the same pairs say of x, where the zones are the same: each is asked for its answer
module _ (h : Pool → Zone → Found) (k : Known) (zone : List ℕ → Option Found) (same : (y : List ℕ) → zone y ≡ mapped (h k.pool) (zone_in k.zones y)) (x : List ℕ) where
  same-resolved : (r : Named Zone) → Same {M = Known} (resolved h k.pool r) (older_resolved (mapped_named (h k.pool) r))
  same-resolved (here z) = record { to = refl }
  same-resolved unknown = record { to = refl }
  same-resolved deep = record { to = refl }

  -- EITHER DICTIONARY
  pub either-dictionary : (es : Dictionary) (q r : List ℕ) → Same (alias_says h x k (got es q)) (older_says zone x (got es r))
  either-dictionary es q r =
      subst (λ (n : Named Found). Same {M = Known} (resolved h k.pool (lookup (zone_in k.zones) es most x)) (older_resolved n))
      (sym (lookup-mapped (h k.pool) (zone_in k.zones) zone same es most x))
      (same-resolved (lookup (zone_in k.zones) es most x))

  -- and faults are the same
  pub either-faults : (n : Refusal) → Same (alias_says h x k (bad n)) (older_says zone x (bad n))
  either-faults n = record { to = refl }
