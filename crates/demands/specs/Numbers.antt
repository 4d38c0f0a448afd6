-- The numbers of document 01's table that each function for a whole file can give. To be believed.
use Rattle.std.specs.Prelude.{ℕ, ◌≤◌, ◌≡◌}
use Rattle.base.specs.Numbers.{GivenBack, answering, refusing}

-- faults of a field's contents: a largest size passed, and 7 to 11
pub data OfContent (n : ℕ) : Type 0 where
  too_large : n ≡ 4 → OfContent n
  faulty : 7 ≤ n → n ≤ 11 → OfContent n

-- faults of version, ID bytes, sizes and contents: 3 to 11
pub record OfFile (n : ℕ) : Type 0 where
  pub low : 3 ≤ n
  pub high : n ≤ 11

-- faults of the contents of fields 6 and 7: 7 to 9, and 20
pub data OfLocations (n : ℕ) : Type 0 where
  misread : 7 ≤ n → n ≤ 9 → OfLocations n
  out_of_range : n ≡ 20 → OfLocations n

-- what a check refuses with
pub data OfCheck (n : ℕ) : Type 0 where
  check-cut : n ≡ 2 → OfCheck n
  check-fault : OfFile n → OfCheck n
  second-zone : n ≡ 13 → OfCheck n
  second_key : n ≡ 19 → OfCheck n
  location-fault : n ≡ 20 → OfCheck n

-- "Rewriting, and reading the version text, check all first; then 15 or 12": what normalizing refuses with
pub data OfNormalize (n : ℕ) : Type 0 where
  normalize-check : OfCheck n → OfNormalize n
  no_room : n ≡ 15 → OfNormalize n

pub data OfVersion (n : ℕ) : Type 0 where
  version-check : OfCheck n → OfVersion n
  no_text : n ≡ 12 → OfVersion n

-- "after the check's faults, a number with no location gets 12"
pub data OfLocation (n : ℕ) : Type 0 where
  location-check : OfCheck n → OfLocation n
  no-location : n ≡ 12 → OfLocation n

-- what a question refuses with: 13 is "never given by a question"
pub data OfQuestion (n : ℕ) : Type 0 where
  not_yet : n ≡ 1 → OfQuestion n
  question-cut : n ≡ 2 → OfQuestion n
  question-fault : OfFile n → OfQuestion n
  no-zone : n ≡ 12 → OfQuestion n
  no-instant : n ≡ 14 → OfQuestion n

-- what a named question refuses with: besides, 18 and 19
pub data OfNamed (n : ℕ) : Type 0 where
  named-question : OfQuestion n → OfNamed n
  too-many-steps : n ≡ 18 → OfNamed n
  named-second-key : n ≡ 19 → OfNamed n

-- what a mapping of a local time refuses with: "Number 17 .. exactly if there is none ..; the refusals of a 'this is all' question, 14 aside,
-- come first"
pub data OfMapping (n : ℕ) : Type 0 where
  mapping-cut : n ≡ 2 → OfMapping n
  mapping-fault : OfFile n → OfMapping n
  mapping-no-zone : n ≡ 12 → OfMapping n
  mapping-none : n ≡ 17 → OfMapping n

-- what a question of a receiver refuses with: what it would on the held bytes, and 15 where more is held than the buffer has
pub data OfHeld (P : ℕ → Type 0) (n : ℕ) : Type 0 where
  on-held : P n → OfHeld P n
  over-full : n ≡ 15 → OfHeld P n

-- what is given back is an answer, or a refusal whose number has P
abbrev pub InTable : (ℕ → Type 0) → GivenBack → Type 0
InTable P (answering vs) = Unit {0}
InTable P (refusing n p) = P n
