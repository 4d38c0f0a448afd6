-- When two answers to a question for a location, of two files, say the same: "every question answers as before, places aside". Texts are
-- compared by their bytes. To be believed.
use Rattle.location_lookup.specs.declared.Pair.{Pair}
use Rattle.std.specs.declared.option.Option.{Option as Maybe}
use Rattle.std.specs.declared.option.Option.TheVariants.{None, Some}
use Rattle.base.specs.Coded.{Fault}
use Rattle.std.specs.Prelude.{ℕ, zero, suc, ◌≡◌, List, take, drop, Err, Ok, Result}
use Rattle.std.proofs.Math.Option.{Option, none, some}
use Rattle.pool.specs.declared.Span.{Span}
use Rattle.location_lookup.specs.Country.{next_of}
use Rattle.location_lookup.specs.declared.Located.{Located}

-- the bytes of a text of the file f
abbrev pub bytes_at : List ℕ → Span → List ℕ
bytes_at f x = take x.len (drop x.at f)

-- a country by the bytes of its name and code
pub record CountryTexts : Type 0 where
  pub name : List ℕ
  pub code : List ℕ

abbrev pub texts_in : List ℕ → Maybe Pair → Option CountryTexts
texts_in f (Some p) = some (record { name = bytes_at f p.name; code = bytes_at f p.code })
texts_in f None = none

-- a step leads to the next country; "then no more" stays
abbrev pub behind_step : Maybe Pair → (ℕ → ℕ → Option CountryTexts) → Option CountryTexts
behind_step (Some p) go = go p.at p.left
behind_step None go = none

-- what the k-th step of a view of f gives, from 0: "the picker can step through its countries, each name and code once in file order, then no more"
unfoldable pub shown : List ℕ → ℕ → ℕ → ℕ → ℕ → ℕ → Option CountryTexts
shown f start end at left zero = texts_in f (next_of f start end at left)
shown f start end at left (suc k) = behind_step (next_of f start end at left) (λ at left. shown f start end at left k)

-- x of the file f and y of the file g: equal pins, the same bytes of zone ID and comment, and views that step through the same countries
pub record SameLocated (f g : List ℕ) (x y : Located) : Type 0 where
  pub pin : y.pin ≡ x.pin
  pub zone : bytes_at g y.zone ≡ bytes_at f x.zone
  pub comment : bytes_at g y.comment ≡ bytes_at f x.comment
  pub left : y.left ≡ x.left
  pub countries : (k : ℕ) → shown g y.start y.end y.at y.left k ≡ shown f x.start x.end x.at x.left k

-- a refusal, its place aside
abbrev pub SameTo : List ℕ → List ℕ → Result Located Fault → Result Located Fault → Type 0
SameTo f g (Ok x) (Ok y) = SameLocated f g x y
SameTo f g (Ok x) (Err (m, q)) = ⊥
SameTo f g (Err (n, p)) (Ok y) = ⊥
SameTo f g (Err (n, p)) (Err (m, q)) = m ≡ n

-- the answer a of f and the answer b of g
pub record SameAnswer (f g : List ℕ) (a b : Result Located Fault) : Type 0 where
  pub means : SameTo f g a b
