-- The numbers of a location fit where they go. Assumes nothing.
use Rattle.location_lookup.specs.declared.Located.{Located}
use Rattle.locations.specs.declared.Spot.{Spot}
use Rattle.base.specs.declared.Refusal.{Refusal}
use Rattle.std.specs.declared.option.Option.{Option as Maybe}
use Rattle.std.specs.declared.option.Option.TheVariants.{None, Some}
use Rattle.base.specs.Coded.{Fault}
use Rattle.std.specs.Prelude.{Err, Ok, Result}
use mathlib.Core.Path.{◌≡◌, refl, sym, subst, ap}
use mathlib.Core.Bool.{Bool, true, false}
use mathlib.Core.List.{List, [], ◌∷◌}
use mathlib.Core.Option.{Option, none, some}
use Prim.Native.Nat.{ℕ, ◌≤◌}
use native.Mathlib.Omega.{arith}
use lib.Dec.{eqb}
use lib.ListN.{length}
use Rattle.base.specs.Pick.{pick}
use Rattle.base.specs.All.{All}
use Rattle.base.proofs.AllLaws.{all_head, all_tail}
use Rattle.base.proofs.Tests.{clash}
use Rattle.frames.specs.Frame.{Field}
use Rattle.frames.specs.Fields.{fields}
use Rattle.frames.proofs.ChainLaws.{listing-chain, chain-fields}
use Rattle.frames.proofs.NearLaws.{Near, walk-near}
use Rattle.field_search.specs.Search.{field_with, place_in, field_place}
use Rattle.field_checks.specs.Check.{start, job, check_of}
use Rattle.field_checks.proofs.WellFormedLaws.{good-well-formed}
use Rattle.locations.specs.Content.{id_of, parse_locations}
use Rattle.locations.specs.Find.{sought_of}
use Rattle.locations.specs.declared.LocationField.{LocationField}
use Rattle.locations.specs.declared.LocationField.TheVariants.{Zone, Zone1970}
use Rattle.pool.specs.Index.{room_of}
use Rattle.location_lookup.specs.Location.{lent_part, answer_in, in_field, by_fields, in_file, by_check, location_of}
use Rattle.file_locations.specs.ByField.{no_field, location_by}
use Rattle.location_replies.specs.Small.{SmallLocation}
use Rattle.capi.proofs.PlaceLaws.{check-near}

-- the length of a well-formed file
good_length : (f : List ℕ) → check_of f ≡ Ok tt → length f ≤ 4194304
good_length f e = let w = good-well-formed f e in (subst Near w.ends (walk-near job start f)).to

-- the place of a field
with_in : {P : Field → Type 0} (i : ℕ) (gs : List Field) (g : Field) → All P gs → field_with i gs ≡ some g → P g
unfolding field_with
with_in i [] g a e = clash cc
with_in {P} i (h ∷ gs) g a e = go (eqb h.id i) e (λ k. with_in i gs g (all_tail a) k)
  where
    go : (t : Bool) → pick t (some h) (field_with i gs) ≡ some g → (field_with i gs ≡ some g → P g) → P g
    go true k rec = let z : h ≡ g = cc in subst P z (all_head a)
    go false k rec = rec k

-- the place that was found, 0 where none was
abbrev found_at : Maybe (ℕ × ℕ × ℕ) → ℕ
found_at (Some (p, a, e)) = p
found_at None = 0

place-in : (f : List ℕ) (i p a e : ℕ) → field_place i f ≡ Some (p, a, e) → p ≤ length f
place-in f i p a e = go (field_with i (fields f)) refl
  where
    go : (x : Option Field) → field_with i (fields f) ≡ x → place_in x ≡ Some (p, a, e) → p ≤ length f
    go none q h = clash cc
    go (some g) q h =
        let w = with_in i (fields f) g (chain-fields f false 0 4 (fields f) (listing-chain f 255)) q in
        let z : g.place ≡ p = ap found_at h in
        omega (arith, w.starts, w.ends, w.within)

-- the place of a refusal fits
module _ (f : List ℕ) (good : check_of f ≡ Ok tt) where
  in-field-near : (b c p a e : ℕ) (field : LocationField) (number : ℕ) → p ≤ 4194304 → SmallLocation (in_field f b c p a e field number)
  unfolding in_field
  in-field-near b c p a e field number h = go (sought_of (lent_part f a e) number (parse_locations field (room_of (lent_part f b c)) (lent_part f a e)))
    where
      go : (x : Result (Maybe Spot) Refusal) → SmallLocation (answer_in f b c p a e x)
      go (Ok (Some x)) = record { to = tt }
      go (Ok None) = record { to = h }
      go (Err k) = record { to = h }

  in-file-near : (field : LocationField) (number : ℕ) → SmallLocation (in_file f field number)
  unfolding in_file
  in-file-near field number = go (field_place 0 f) (field_place (id_of field) f) refl
    where
      go : (x y : Maybe (ℕ × ℕ × ℕ)) → field_place (id_of field) f ≡ y → SmallLocation (by_fields f field number x y)
      go None y q = record { to = good_length f good }
      go (Some (z, b, c)) None q = record { to = good_length f good }
      go (Some (z, b, c)) (Some (p, a, e)) q =
          in-field-near b c p a e field number (omega (arith, good_length f good, place-in f (id_of field) p a e q))

location-near : (f : List ℕ) (field : LocationField) (number : ℕ) → SmallLocation (location_of f field number)
unfolding location_of
location-near f field number = go (check_of f) refl
  where
    go : (v : Result (Unit {0}) Fault) → check_of f ≡ v → SmallLocation (by_check f field number v)
    go (Err (n, p)) e = record { to = (check-near f (Err (n, p)) (sym e)).to }
    go (Ok tt) e = in-file-near f e field number

by_near : (f : List ℕ) (i number : ℕ) → SmallLocation (location_by f i number)
unfolding location_by
by_near f i number = go (eqb i 6) (eqb i 7)
  where
    none-near : (v : Result (Unit {0}) Fault) → check_of f ≡ v → SmallLocation (no_field f v)
    none-near (Err (n, p)) e = record { to = (check-near f (Err (n, p)) (sym e)).to }
    none-near (Ok tt) e = record { to = good_length f e }

    go : (t u : Bool) → SmallLocation (pick t (location_of f Zone number) (pick u (location_of f Zone1970 number) (no_field f (check_of f))))
    go true u = location-near f Zone number
    go false true = location-near f Zone1970 number
    go false false = none-near (check_of f) refl

pub location-small : (f : List ℕ) (i number : ℕ) (a : Result Located Fault) → a ≡ location_by f i number → SmallLocation a
location-small f i number a e = subst SmallLocation (sym e) (by_near f i number)
