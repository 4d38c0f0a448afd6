-- Locations and their countries, as programs in C are told of them. To be believed.
use Rattle.location_lookup.specs.declared.Pair.{Pair}
use Rattle.location_lookup.specs.declared.Located.{Located}
use Rattle.std.specs.declared.option.Option.{Option}
use Rattle.std.specs.declared.option.Option.TheVariants.{None, Some}
use Rattle.base.specs.Coded.{Fault}
use Rattle.std.specs.Prelude.{ℕ, Bool, true, false, List, [], ◌∷◌, ◌≡◌, Float, Err, Ok, Result}
use Rattle.replies.specs.Reply.{refusal}

abbrev pub location_result : Result Located Fault → ℕ
location_result (Ok x) = 0
location_result (Err (n, p)) = refusal n p

-- latitude and longitude; "every refusal keeps all lent output as found"
abbrev pub pin_output : Result Located Fault → List Float → List Float
pin_output (Ok x) d = x.pin.latitude ∷ x.pin.longitude ∷ []
pin_output (Err (n, p)) d = d

-- place and length of the zone ID and of the comment, and the view
abbrev pub location_output : Result Located Fault → List ℕ → List ℕ
location_output (Ok x) d =
    x.zone.at ∷ x.zone.len ∷ x.comment.at ∷ x.comment.len ∷ x.start ∷ x.end ∷ x.at ∷ x.left ∷ []
location_output (Err (n, p)) d = d

-- the result r and the outputs e and g at the return, where they were c and d and the location is a
pub record GivesLocation (a : Result Located Fault) (c : List Float) (d : List ℕ) (r : ℕ) (e : List Float) (g : List ℕ) : Type 0 where
  pub result : r ≡ location_result a
  pub pin : e ≡ pin_output a c
  pub output : g ≡ location_output a d

-- whether there is a country
abbrev pub country_result : Option Pair → Bool
country_result (Some x) = true
country_result None = false

-- the view behind it, which is as found where there is none
abbrev pub view_output : Option Pair → ℕ → ℕ → List ℕ → List ℕ
view_output (Some x) start end d = start ∷ end ∷ x.at ∷ x.left ∷ []
view_output None start end d = d

-- place and length of its name and of its code
abbrev pub country_output : Option Pair → List ℕ → List ℕ
country_output (Some x) d = x.name.at ∷ x.name.len ∷ x.code.at ∷ x.code.len ∷ []
country_output None d = d

-- the result r, the view e and the output g at the return, where they were c and d
pub record GivesCountry (x : Option Pair) (start end : ℕ) (c d : List ℕ) (r : Bool) (e g : List ℕ) : Type 0 where
  pub result : r ≡ country_result x
  pub view : e ≡ view_output x start end c
  pub output : g ≡ country_output x d
