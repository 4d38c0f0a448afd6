-- "an alias may lead to an alias, and the lookup calls itself on the target with one step fewer, eight steps at most". Over any list of pairs
-- and any rule that says which IDs are zones, so that it is said once for every dictionary. To be believed; `lookup-says`, `leads-lookup`,
-- `lost-lookup` and `deep-lookup` (proofs/LookupLaws.antt) say by chains of steps what it gives.
use Rattle.std.specs.Prelude.{ℕ, zero, suc, ◌≤◌, ◌≡◌, Bool, List}
use Rattle.std.proofs.Math.Option.{Option, none, some}
use Rattle.base.specs.Pick.{pick}
use Rattle.aliases.specs.Dictionary.{Dictionary, target_of}

-- what a name leads to: a zone; an ID that is neither a zone's nor a key; a key where no step is left
pub data Named (A : Type 0) : Type 0 where
  here : A → Named A
  unknown : Named A
  deep : Named A

-- "A canonical ID wins over the same bytes as a key."
abbrev pub or_else : {A : Type 0} → Option A → Named A → Named A
or_else (some a) r = here a
or_else none r = r

-- "12 where a target is unknown"
abbrev pub by_key : {A : Type 0} → Option (List ℕ) → (List ℕ → Named A) → Named A
by_key none go = unknown
by_key (some t) go = go t

-- "eight steps at most"
abbrev pub most : ℕ
most = 8

-- zone x is what the zone with the ID x is, if there is one
module _ {A : Type 0} (zone : List ℕ → Option A) (d : Dictionary) where
  -- with n steps left: "18 if the eighth target is again only a key"
  unfoldable pub lookup : ℕ → List ℕ → Named A
  lookup zero x = or_else (zone x) (by_key (target_of d x) (λ t. deep))
  lookup (suc n) x = or_else (zone x) (by_key (target_of d x) (λ t. lookup n t))

  -- n steps lead from x to y, each from a key that is no zone's ID to its target
  pub data Steps : ℕ → List ℕ → List ℕ → Type 0 where
    no_step : {x : List ℕ} → Steps 0 x x
    step : {n : ℕ} {x t y : List ℕ} → zone x ≡ none → target_of d x ≡ some t → Steps n t y → Steps (suc n) x y

  -- at most n steps lead from x to the ID of the zone a
  pub record Leads (n : ℕ) (x : List ℕ) (a : A) : Type 0 where
    pub count : ℕ
    pub last : List ℕ
    pub steps : Steps count x last
    pub at_most : count ≤ n
    pub zone-is : zone last ≡ some a

  -- at most n steps lead from x to what is neither a zone's ID nor a key
  pub record Lost (n : ℕ) (x : List ℕ) : Type 0 where
    pub count : ℕ
    pub last : List ℕ
    pub steps : Steps count x last
    pub at_most : count ≤ n
    pub no-zone : zone last ≡ none
    pub no_key : target_of d last ≡ none

  -- n steps lead from x to what is "again only a key"
  pub record Deep (n : ℕ) (x : List ℕ) : Type 0 where
    pub last : List ℕ
    pub steps : Steps n x last
    pub no-zone : zone last ≡ none
    pub target : List ℕ
    pub only-key : target_of d last ≡ some target

  abbrev pub Says : ℕ → List ℕ → Named A → Type 0
  Says n x (here a) = Leads n x a
  Says n x unknown = Lost n x
  Says n x deep = Deep n x

-- a zone by a test of its ID, which is then what it is
abbrev pub by_test : (List ℕ → Bool) → List ℕ → Option (List ℕ)
by_test test x = pick (test x) (some x) none
