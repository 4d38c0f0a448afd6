-- Each way out of a step. Assumes nothing.
use Rattle.base.specs.declared.Refusal.{Refusal}
use Rattle.std.specs.declared.option.Option.TheVariants.{None, Some}
use Rattle.base.specs.declared.Refusal.TheVariants.{BadData}
use mathlib.Core.Path.{◌≡◌, refl}
use mathlib.Core.List.{List}
use Prim.Native.Nat.{ℕ, zero, suc, ◌-◌, ◌≤◌, ◌<◌}
use native.Mathlib.Omega.{arith}
use lib.ListN.{length, drop, drop_of_length-le}
use Rattle.base.specs.Parsed.{got, bad, parse}
use Rattle.counts.specs.Count.{read_count}
use Rattle.counts.specs.Groups.{read_groups}
use Rattle.string_search.proofs.SuffixLaws.{place-of}
use Rattle.countries.specs.Step.{read_country, step_at}
use Rattle.countries.specs.declared.Stepped.{Stepped}

module _ (s : List ℕ) (at : ℕ) where
  abbrev stays : ℕ → Stepped
  stays left = record { item = None; at = at; left = left }

  pub none_left : (left : ℕ) → left ≡ 0 → stays left ≡ step_at s at left
  unfolding step_at
  none_left left e = rw e

  pub none_here : (left : ℕ) (k : Refusal) → read_country (drop at s) ≡ bad k → stays left ≡ step_at s at left
  unfolding step_at
  none_here zero k e = refl
  none_here (suc n) k e = rw e

  pub country-here : (left name code e : ℕ) → 0 < left → e ≤ length s
      → read_country (drop at s) ≡ got (record { name = name; code = code }) (drop e s)
      → record { item = Some (name, code); at = e; left = left - 1 } ≡ step_at s at left
  unfolding step_at
  country-here zero name code e h w q = absurd (omega arith)
  country-here (suc n) name code e h w q =
      let z : suc n - 1 ≡ n = omega arith in
      rw (q, place-of s e w, z)

-- a country by its two counts
pub read_past : (s : List ℕ) (at : ℕ) → length s < at → read_country (drop at s) ≡ bad BadData
unfolding read_country read_groups
read_past s at h = let l : length s ≤ at = omega arith in rw (drop_of_length-le s l)

module _ (s : List ℕ) where
  pub read-unnamed : (k : Refusal) → parse read_count s ≡ bad k → read_country s ≡ bad k
  unfolding read_country
  read-unnamed k e = rw e

  pub read-uncoded : (name : ℕ) (k : Refusal) (r : List ℕ) → parse read_count s ≡ got name r → parse read_count r ≡ bad k → read_country s ≡ bad k
  unfolding read_country
  read-uncoded name k r e f = rw (e, f)

  pub read-both : (name code : ℕ) (r q : List ℕ) → parse read_count s ≡ got name r → parse read_count r ≡ got code q
      → read_country s ≡ got (record { name = name; code = code }) q
  unfolding read_country
  read-both name code r q e f = rw (e, f)
