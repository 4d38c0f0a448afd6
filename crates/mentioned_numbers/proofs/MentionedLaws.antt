-- EVERY NUMBER THAT A GOOD FILE MENTIONS is below 8,192, the largest count of a pool, and a field without mentions is copied. Assumes nothing.
use Rattle.base.specs.declared.Refusal.TheVariants.{BadData}
use mathlib.Core.Path.{◌≡◌, refl, ap, ◌∙◌, subst, subst⁻¹}
use mathlib.Core.Bool.{Bool, true, false}
use mathlib.Core.List.{List, [], ◌∷◌}
use Prim.Native.Nat.{ℕ, ◌≤◌, ◌<◌}
use native.Mathlib.Omega.{arith}
use lib.Dec.{eqb}
use lib.ListN.{length}
use borrow.Author.Tests.{eqb-true, eqb-false}
use Rattle.base.specs.All.{All, all_none, all-also}
use Rattle.base.specs.Bytes.{Bytes}
use Rattle.base.proofs.AllLaws.{all_head, all_tail, all_map, all_append}
use Rattle.counts.specs.Groups.{read_groups}
use Rattle.pool.specs.Pool.{strings_of, strings_in}
use Rattle.pool.proofs.PoolLaws.{few}
use Rattle.intervals.specs.declared.Interval.{Interval}
use Rattle.intervals.specs.Sound.{ListOk, Rising}
use Rattle.zones.specs.Content.{Ending, untailed, tailed, absent, present, Body, fixed, listed, Zone}
use Rattle.zones.specs.Sound.{EndOk, BodyOk, Sound}
use Rattle.zones.proofs.SoundLaws.{zone-sound}
use Rattle.locations.specs.declared.LocationField.TheVariants.{Zone as Located6, Zone1970 as Located7}
use Rattle.aliases.proofs.PairLaws.{pairs-good}
use Rattle.frames.specs.Frame.{Field}
use Rattle.frames.specs.Fields.{Listing, fields}
use Rattle.frames.proofs.CoverLaws.{framed-listing}
use Rattle.field_checks.specs.Check.{WellFormed}
use Rattle.field_checks.specs.File.{AsZone, AsAliases, AsLocations, IsFile}
use Rattle.field_checks.proofs.FileLaws.{well-formed-file}
use Rattle.mentions.specs.declared.Stage.TheVariants.{Rest}
use Rattle.mentions.specs.Walk.{ahead_of, first_stage}
use Rattle.mentions.specs.Content.{parse_mention, numbers_of, renumbered}
use Rattle.mentions.proofs.WalkLaws.{first_rest}
use Rattle.mentions.proofs.PrintLaws.{print-none, numbers-none}
use Rattle.renumbered_zones.specs.Renamed.{interval_names, ending_names, fixed_names, body_names, names_of}
use Rattle.renumbered_zones.proofs.ZoneLaws.{zone-numbers}
use Rattle.renumbered_lists.proofs.BelowLaws.{aliases-below, locations-below}
use Rattle.closed_files.specs.File.{mentions_in}

module _ (pool : ℕ) where
  abbrev pub Below : List ℕ → Type 0
  Below ks = All (λ k. k < pool) ks

  rising-below : (prev : ℕ) (is : List Interval) → Rising pool prev is → Below (interval_names is)
  unfolding interval_names
  rising-below prev [] o = all_none
  rising-below prev (i ∷ is) o = all-also o.0.ranged.name-ok (rising-below i.start is o.1)

  list-below : (is : List Interval) → ListOk pool is → Below (interval_names is)
  unfolding interval_names
  list-below [] o = absurd o
  list-below (i ∷ is) o = all-also o.1.name-ok (rising-below i.start is o.2)

  ending-below : (is : List Interval) (end : ℕ) (e : Ending) → EndOk pool is end e → Below (ending_names e)
  unfolding ending_names
  ending-below is end untailed o = all_none
  ending-below is end (tailed n) o = all-also o.2.standard-ok (all-also o.2.daylight-ok all_none)

  body_below : (b : Body) → BodyOk pool b → Below (body_names b)
  unfolding body_names fixed_names
  body_below (fixed offset absent) o = all_none
  body_below (fixed offset (present n)) o = all-also o.2 all_none
  body_below (listed is end e) o = all_append (list-below is o.0) (ending-below is end e o.1)

  pub names-below : (z : Zone) → Sound pool z → Below (names_of z)
  names-below z o = all-also o.id-ok (body_below z.body o.body_ok)

-- a field without mentions
pub numbers-rest : (i : ℕ) (d : List ℕ) → Rest ≡ first_stage i → numbers_of i d ≡ []
unfolding parse_mention ahead_of read_groups
numbers-rest i d e = rw (← e) (numbers-none Rest d BadData refl)

pub copied-rest : (ρ : ℕ → ℕ) (i : ℕ) (d : List ℕ) → Rest ≡ first_stage i → renumbered ρ i d ≡ d
unfolding parse_mention ahead_of read_groups
copied-rest ρ i d e = rw (← e) (print-none ρ Rest d BadData refl)

module _ (ts : List (List ℕ)) where
  field_below : (g : Field) → AsZone ts g → AsAliases ts g → AsLocations ts g → Below (length ts) (numbers_of g.id g.body)
  field_below g z a l = go (eqb i 1) refl (eqb i 3) refl (eqb i 6) refl (eqb i 7) refl
    where
      i : ℕ
      i = g.id

      to : (j : ℕ) → i ≡ j → Below (length ts) (numbers_of j g.body) → Below (length ts) (numbers_of i g.body)
      to j e h = subst⁻¹ (λ (k : ℕ). Below (length ts) (numbers_of k g.body)) e h

      go : (p : Bool) → eqb i 1 ≡ p → (q : Bool) → eqb i 3 ≡ q → (r : Bool) → eqb i 6 ≡ r → (s : Bool) → eqb i 7 ≡ s
          → Below (length ts) (numbers_of i g.body)
      go true e q f r h s k =
          let x = z (eqb-true i 1 e) in
          to 1 (eqb-true i 1 e)
          (subst⁻¹ (Below (length ts)) (zone-numbers (length ts) g.body x.zone x.parsed)
          (names-below (length ts) x.zone (zone-sound (length ts) g.body x.zone [] x.parsed).0))
      go false e true f r h s k =
          let x = a (eqb-true i 3 f) in
          to 3 (eqb-true i 3 f) (aliases-below ts g.body x.entries (pairs-good ts g.body x.entries x.pairs))
      go false e false f true h s k =
          let x = l Located6 (eqb-true i 6 h) in
          to 6 (eqb-true i 6 h) (locations-below Located6 (length ts) g.body x.locations x.parsed)
      go false e false f false h true k =
          let x = l Located7 (eqb-true i 7 k) in
          to 7 (eqb-true i 7 k) (locations-below Located7 (length ts) g.body x.locations x.parsed)
      go false e false f false h false k =
          subst⁻¹ (Below (length ts))
          (numbers-rest i g.body (first_rest i (eqb-false i 1 e) (eqb-false i 3 f) (eqb-false i 6 h) (eqb-false i 7 k))) all_none

  pub fields-below : (gs : List Field) → All (AsZone ts) gs → All (AsAliases ts) gs → All (AsLocations ts) gs → Below (length ts) (mentions_in gs)
  unfolding mentions_in
  fields-below [] z a l = all_none
  fields-below (g ∷ gs) z a l =
      all_append (field_below g (all_head z) (all_head a) (all_head l)) (fields-below gs (all_tail z) (all_tail a) (all_tail l))

-- EVERY NUMBER THAT A GOOD FILE MENTIONS is below the largest count of a pool
module _ (f : List ℕ) (w : WellFormed f) (b : Bytes f) where
  file : IsFile f
  file = well-formed-file f w

  f-fields : fields f ≡ file.first ∷ file.others
  f-fields = ap (λ (x : Listing). x.fields) (framed-listing f b file.first file.others file.framed)

  pub file-below : All (λ k. k < 8192) (mentions_in (fields f))
  unfolding mentions_in first_stage
  file-below =
      let n : numbers_of file.first.id file.first.body ≡ []
      = ap (λ (i : ℕ). numbers_of i file.first.body) file.framed.is-first ∙ numbers-rest 0 file.first.body refl in
      let m : length file.strings ≤ 8192 =
      subst (λ (ts : List (List ℕ)). length ts ≤ 8192) (ap strings_in file.pool) (few file.first.body) in
      rw (f-fields, n) (all_map (λ k h. omega arith) (fields-below file.strings file.others file.zones file.aliases file.locations))
