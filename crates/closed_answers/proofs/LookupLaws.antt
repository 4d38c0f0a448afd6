-- THE LOOKUP of a name over one dictionary and two rules that say which IDs are zones: where these go together, so does what a name leads to. Assumes
-- nothing.
use mathlib.Core.List.{List}
use mathlib.Core.Option.{Option, none, some}
use Prim.Native.Nat.{ℕ, zero, suc}
use Rattle.aliases.specs.Dictionary.{Dictionary, target_of}
use Rattle.alias_lookup.specs.Lookup.{Named, here, unknown, deep, or_else, by_key, lookup}

module _ {A B : Type 0} (Q : A → B → Type 0) where
  pub data SameOption : Option A → Option B → Type 0 where
    neither : SameOption none none
    both_some : {z : A} {w : B} → Q z w → SameOption (some z) (some w)

  pub data SameNamed : Named A → Named B → Type 0 where
    both-here : {z : A} {w : B} → Q z w → SameNamed (here z) (here w)
    both-unknown : SameNamed unknown unknown
    both-deep : SameNamed deep deep

  or-else : (z : Option A) (w : Option B) (r : Named A) (s : Named B) → SameOption z w → SameNamed r s → SameNamed (or_else z r) (or_else w s)
  or-else z w r s neither n = n
  or-else z w r s (both_some q) n = both-here q

  by-key : (t : Option (List ℕ)) (go : List ℕ → Named A) (go' : List ℕ → Named B) → ((x : List ℕ) → SameNamed (go x) (go' x))
      → SameNamed (by_key t go) (by_key t go')
  by-key none go go' h = both-unknown
  by-key (some t) go go' h = h t

  module _ (zone : List ℕ → Option A) (zone' : List ℕ → Option B) (each : (x : List ℕ) → SameOption (zone x) (zone' x)) (es : Dictionary) where
    pub lookup-same : (n : ℕ) (x : List ℕ) → SameNamed (lookup zone es n x) (lookup zone' es n x)
    unfolding lookup
    lookup-same zero x = or-else _ _ _ _ (each x) (by-key (target_of es x) _ _ (λ t. both-deep))
    lookup-same (suc n) x = or-else _ _ _ _ (each x) (by-key (target_of es x) _ _ (λ t. lookup-same n t))
