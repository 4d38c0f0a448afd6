-- Pool numbers in a row, as the names and codes of countries and as aliases stand, read again with other numbers. Assumes nothing.
use mathlib.Core.Path.{◌≡◌, refl, subst}
use mathlib.Core.Bool.{Bool}
use mathlib.Core.List.{List, [], ◌∷◌, ◌++◌, map}
use Prim.Native.Nat.{ℕ, zero, suc, ◌+◌, ◌-◌, ◌*◌, ◌≤◌, ◌<◌}
use native.Mathlib.Omega.{arith}
use lib.ListN.{length}
use borrow.Author.Tests.{ne_eqb}
use Rattle.base.specs.All.{All, all_none, all-also}
use Rattle.base.specs.Parsed.{Parsed, got, bind, many, prepend}
use Rattle.base.proofs.AllLaws.{all_head, all_tail, all_map, all_append, all_left, all_right}
use Rattle.base.proofs.ParseLaws.{got-value, got-rest, bind-good}
use Rattle.places.specs.Name.{parse_name}
use Rattle.places.proofs.ValueLaws.{name-ok}
use Rattle.locations.specs.declared.Country.{Country}
use Rattle.locations.specs.Content.{parse_country, no_state}
use Rattle.mentions.specs.declared.Stage.{Stage}
use Rattle.mentions.specs.declared.Stage.TheVariants.{Names}
use Rattle.mentions.specs.Walk.{before_names, ahead_of}
use Rattle.mentions.specs.Content.{content_at, numbers_in}
use Rattle.mentions.specs.Renumbers.{Renumbers}
use Rattle.mentions.proofs.StepLaws.{Ahead, Reads, then-reads, name-reads, end_reads, got-reads, whole_numbers}
use Rattle.renumbered_lists.specs.Renamed.{renamed_country}

-- what holds of a reading holds of one that is equal
pub by-got : {A : Type 0} (P : A → List ℕ → Type 0) {a b : A} {r q : List ℕ} → got a r ≡ got b q → P a r → P b q
by-got P {a = a} {q = q} e h = subst (λ c. P c q) (got-value e) (subst (P a) (got-rest e) h)

-- the string with the old number k stands in both pools, and so do those of a country
module _ (ρ : ℕ → ℕ) (ts us : List (List ℕ)) where
  pub record InBoth (k : ℕ) : Type 0 where
    pub old : k < length ts
    pub new : Renumbers ts us ρ k

  pub record CountryNamed (c : Country) : Type 0 where
    pub name : InBoth c.name
    pub code : InBoth c.code

-- what is ahead of n names in a row before l locations
abbrev pub row : Bool → ℕ → ℕ → Ahead
row b n l = ahead_of (Names n l b)

pub next-name : (b : Bool) (n l : ℕ) (s : List ℕ) → row b (suc n) l s ≡ got (Names n l b) s
unfolding ahead_of before_names
next-name b n l s = let one : suc n - 1 ≡ n = omega arith in rw (ne_eqb (suc n) 0 (λ z. omega arith), one)

-- the pool numbers of countries, in file order
unfoldable pub country_names : List Country → List ℕ
country_names [] = []
country_names (c ∷ cs) = c.name ∷ (c.code ∷ country_names cs)

module _ {ρ : ℕ → ℕ} {ts us : List (List ℕ)} where
  pub in_both : {ns : List ℕ} → All (λ k. k < length ts) ns → All (Renumbers ts us ρ) ns → All (InBoth ρ ts us) ns
  in_both all_none all_none = all_none
  in_both (all-also l m) (all-also h t) = all-also (record { old = l; new = h }) (in_both m t)

  pub countries-named : (cs : List Country) → All (InBoth ρ ts us) (country_names cs) → All (CountryNamed ρ ts us) cs
  unfolding country_names
  countries-named [] a = all_none
  countries-named (c ∷ cs) a = all-also (record { name = all_head a; code = all_head (all_tail a) }) (countries-named cs (all_tail (all_tail a)))

-- A READING WITH OTHER NUMBERS: the old ones are numbers of the old pool, and where the new ones are of the new pool, it goes as `Reads` says
pub record Rereads (ρ : ℕ → ℕ) (pool pool' : ℕ) {A : Type 0} (κ : Ahead) (s : List ℕ) (p : List ℕ → Parsed A) (a : A) (ns : List ℕ) (κ' : Ahead)
    (r : List ℕ) : Type 0 where
  pub below : All (λ k. k < pool) ns
  pub reads : All (λ k. ρ k < pool') ns → Reads ρ κ s p a ns κ' r

module _ {ρ : ℕ → ℕ} {pool pool' : ℕ} {A : Type 0} {κ κ' : Ahead} {s r : List ℕ} {p : List ℕ → Parsed A} {a : A} where
  pub then-rereads : {B : Type 0} {κ'' : Ahead} {q : List ℕ} {b : B} {ns ms : List ℕ} (k : A → List ℕ → Parsed B)
      → Rereads ρ pool pool' κ s p a ns κ' r → Rereads ρ pool pool' κ' r (k a) b ms κ'' q
      → Rereads ρ pool pool' κ s (λ x. bind (p x) k) b (ns ++ ms) κ'' q
  then-rereads {ns = ns} {ms = ms} k f g =
      record {
        below = all_append f.below g.below;
        reads = λ h. then-reads ρ k (f.reads (all_left ns ms h)) (g.reads (all_right ns ms h));
      }

  pub end-rereads : {B : Type 0} {ns : List ℕ} (k : A → List ℕ → Parsed B) (b : B) → ((x : List ℕ) → k a x ≡ got b x)
      → Rereads ρ pool pool' κ s p a ns κ' r → Rereads ρ pool pool' κ s (λ x. bind (p x) k) b ns κ' r
  end-rereads k b h f = record { below = f.below; reads = λ g. end_reads ρ k b h (f.reads g) }

  -- where no name stands
  pub none-rereads : Reads ρ κ s p a [] κ' r → Rereads ρ pool pool' κ s p a [] κ' r
  none-rereads f = record { below = all_none; reads = λ h. f }

module _ (ρ : ℕ → ℕ) (pool pool' : ℕ) (few : pool' ≤ 8192) (b : Bool) (l : ℕ) where
  pub name-rereads : (n : ℕ) (s : List ℕ) (k : ℕ) (r : List ℕ) → parse_name pool s ≡ got k r
      → Rereads ρ pool pool' (row b (suc n) l) s (parse_name pool') (ρ k) (k ∷ []) (row b n l) r
  name-rereads n s k r e =
      record {
        below = all-also (name-ok pool s k r e) all_none;
        reads = λ h. name-reads ρ (row b (suc n) l) s (Names n l b) k r (next-name b n l s) pool pool' few e (all_head h);
      }

  abbrev OneAgain : ℕ → List ℕ → Country → List ℕ → Type 0
  OneAgain n s c r =
      Rereads ρ pool pool' (row b (suc (suc n)) l) s (parse_country pool' tt) (renamed_country ρ c) (c.name ∷ (c.code ∷ [])) (row b n l) r

  country-rereads : (n : ℕ) (s : List ℕ) (c : Country) (r : List ℕ) → parse_country pool tt s ≡ got c r → OneAgain n s c r
  unfolding parse_country
  country-rereads n s c r e =
      let x = bind-good (parse_name pool s) _ c r e in
      let y = bind-good (parse_name pool x.rest) _ c r x.on in
      by-got (OneAgain n s) y.on
      (then-rereads _ (name-rereads (suc n) s x.first x.rest x.is)
      (end-rereads _ _ (λ z. refl) (name-rereads n x.rest y.first y.rest y.is)))

  -- n countries before m other names
  abbrev pub CountriesAgain : ℕ → ℕ → List ℕ → List Country → List ℕ → Type 0
  CountriesAgain n m s cs r =
      Rereads ρ pool pool' (row b (2 * n + m) l) s (many (parse_country pool') no_state n tt) (map (renamed_country ρ) cs) (country_names cs)
      (row b m l) r

  pub countries-reread : (n m : ℕ) (s : List ℕ) (cs : List Country) (r : List ℕ) → many (parse_country pool) no_state n tt s ≡ got cs r
      → CountriesAgain n m s cs r
  unfolding many country_names
  countries-reread zero m s cs r e =
      let none : 2 * zero + m ≡ m = omega arith in
      by-got (CountriesAgain zero m s) e (rw none (none-rereads (got-reads ρ (row b m l) s [])))
  countries-reread (suc n) m s cs r e =
      let two : 2 * suc n + m ≡ suc (suc (2 * n + m)) = omega arith in
      let x = bind-good (parse_country pool tt s) _ cs r e in
      let y = bind-good (many (parse_country pool) no_state n tt x.rest) (prepend x.first) cs r x.on in
      by-got (CountriesAgain (suc n) m s) y.on
      (rw two (then-rereads _ (country-rereads (2 * n + m) s x.first x.rest x.is)
      (end-rereads (prepend (renamed_country ρ x.first)) _ (λ z. refl) (countries-reread n m x.rest y.first y.rest y.is))))

-- the numbers that are mentioned in data that are read to their end
pub numbers-read : {A : Type 0} (pool : ℕ) (σ : Stage) (d : List ℕ) {p : List ℕ → Parsed A} {a : A} {ns : List ℕ} (κ : Ahead) (τ : Stage)
    → κ [] ≡ got τ [] → Rereads (λ k. 0) pool 1 (ahead_of σ) d p a ns κ [] → numbers_in (content_at σ d).mentions ≡ ns
numbers-read pool σ d κ τ e f = whole_numbers (λ k. 0) σ d κ τ e (f.reads (all_map (λ k h. omega arith) f.below))
