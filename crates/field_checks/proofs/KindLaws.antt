-- The kind of a field and its ID. Assumes nothing.
use mathlib.Core.Path.{◌≡◌, refl}
use mathlib.Core.Bool.{Bool, true, false}
use Prim.Native.Nat.{ℕ}
use lib.Dec.{eqb}
use borrow.Author.Tests.{eqb-true}
use Rattle.base.specs.Pick.{pick}
use Rattle.field_checks.specs.Check.{Kind, pool_field, zone_field, text_field, alias_field, other_field, kind_of, location_field, later_kind}
use Rattle.locations.specs.Content.{id_of}
use Rattle.locations.specs.declared.LocationField.TheVariants.{Zone as Locations, Zone1970 as Locations1970}

-- the ID of a field of a kind
abbrev pub KindId : ℕ → Kind → Type 0
KindId i pool_field = i ≡ 0
KindId i zone_field = i ≡ 1
KindId i text_field = i ≡ 2
KindId i alias_field = i ≡ 3
KindId i (location_field field) = i ≡ id_of field
KindId i other_field = Unit {0}

later-id : (i : ℕ) → KindId i (later_kind i)
later-id i = go (eqb i 6) (eqb i 7) refl refl
  where
    go : (p q : Bool) → eqb i 6 ≡ p → eqb i 7 ≡ q → KindId i (pick p (location_field Locations) (pick q (location_field Locations1970) other_field))
    go true q e f = eqb-true i 6 e
    go false true e f = eqb-true i 7 f
    go false false e f = tt

pub kind-id : (i : ℕ) → KindId i (kind_of i)
kind-id i = go (eqb i 0) (eqb i 1) (eqb i 2) (eqb i 3) refl refl refl refl
  where
    go : (p q r s : Bool) → eqb i 0 ≡ p → eqb i 1 ≡ q → eqb i 2 ≡ r → eqb i 3 ≡ s
        → KindId i (pick p pool_field (pick q zone_field (pick r text_field (pick s alias_field (later_kind i)))))
    go true q r s e f g h = eqb-true i 0 e
    go false true r s e f g h = eqb-true i 1 f
    go false false true s e f g h = eqb-true i 2 g
    go false false false true e f g h = eqb-true i 3 h
    go false false false false e f g h = later-id i
