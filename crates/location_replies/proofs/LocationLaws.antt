-- Locations and countries as the C functions give them. Assumes nothing.
use Rattle.base.specs.declared.Refusal.{Refusal}
use Rattle.std.specs.declared.option.Option.{Option}
use Rattle.std.specs.declared.option.Option.TheVariants.{None, Some}
use Rattle.base.specs.Coded.{Fault}
use Rattle.std.specs.Prelude.{Err, Ok, Result}
use mathlib.Core.Path.{◌≡◌, refl, subst}
use mathlib.Core.Bool.{Bool, true, false}
use mathlib.Core.List.{List, [], ◌∷◌}
use Prim.Native.Nat.{ℕ}
use lib.Ieee.{Float}
use Rattle.location_lookup.specs.declared.Located.{Located}
use Rattle.location_lookup.specs.declared.Pair.{Pair}
use Rattle.replies.specs.Reply.{refusal}
use Rattle.location_replies.specs.Locations.{GivesLocation, GivesCountry}

-- what is given
module _ (a : Result Located Fault) (c : List Float) (d : List ℕ) where
  pub gave-location : (x : Located) → a ≡ Ok x
      → GivesLocation a c d 0 (x.pin.latitude ∷ x.pin.longitude ∷ [])
      (x.zone.at ∷ x.zone.len ∷ x.comment.at ∷ x.comment.len ∷ x.start ∷ x.end ∷ x.at ∷ x.left ∷ [])
  gave-location x h = rw h (record { result = refl; pin = refl; output = refl })

  pub denied-location : (n : Refusal) (p r : ℕ) → a ≡ Err (n, p) → r ≡ refusal n p → GivesLocation a c d r c d
  denied-location n p r h q = rw h (record { result = q; pin = refl; output = refl })

module _ (x : Option Pair) (start' end : ℕ) (c d : List ℕ) where
  pub gave-country : (y : Pair) → x ≡ Some y
      → GivesCountry x start' end c d true (start' ∷ end ∷ y.at ∷ y.left ∷ []) (y.name.at ∷ y.name.len ∷ y.code.at ∷ y.code.len ∷ [])
  gave-country y h = rw h (record { result = refl; view = refl; output = refl })

  pub no-country : x ≡ None → GivesCountry x start' end c d false c d
  no-country h = rw h (record { result = refl; view = refl; output = refl })

-- the same by another name
pub location-as : (a b : Result Located Fault) (c : List Float) (d : List ℕ) (r : ℕ) (e : List Float) (g : List ℕ) → a ≡ b → GivesLocation a c d r e g
    → GivesLocation b c d r e g
location-as a b c d r e g h k = subst (λ (x : Result Located Fault). GivesLocation x c d r e g) h k

pub country-as : (x y : Option Pair) (start' end : ℕ) (c d : List ℕ) (r : Bool) (e g : List ℕ) → x ≡ y → GivesCountry x start' end c d r e g
    → GivesCountry y start' end c d r e g
country-as x y start' end c d r e g h k = subst (λ (z : Option Pair). GivesCountry z start' end c d r e g) h k
