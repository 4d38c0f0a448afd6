-- Readers in a row, over the data of a field. To be believed.
use Rattle.base.specs.declared.Refusal.{Refusal}
use Rattle.base.specs.Coded.{Coded}
use Rattle.base.specs.declared.Refusal.TheVariants.{BadData}
use Rattle.std.specs.Prelude.{ℕ, zero, suc, List, [], ◌∷◌, drop, Err, Ok}

-- a value and the bytes behind it, or the first fault
pub data Parsed (A : Type 0) : Type 0 where
  got : A → List ℕ → Parsed A
  bad : Refusal → Parsed A

-- "contents left to right"
abbrev pub bind : {A B : Type 0} → Parsed A → (A → List ℕ → Parsed B) → Parsed B
bind (got a r) k = k a r
bind (bad n) k = bad n

-- a small code in such a row
abbrev pub behind_code : List ℕ → Coded ℕ → Parsed ℕ
behind_code s (Ok (v, n)) = got v (drop n s)
behind_code s (Err k) = bad k

abbrev pub parse : (List ℕ → Coded ℕ) → List ℕ → Parsed ℕ
parse read s = behind_code s (read s)

-- a single byte; "field data ending early" is 9
unfoldable pub parse_byte : List ℕ → Parsed ℕ
parse_byte [] = bad BadData
parse_byte (b ∷ r) = got b r

-- "9 for leftovers last"
unfoldable pub ended : {A : Type 0} → A → List ℕ → Parsed A
ended a [] = got a []
ended a (b ∷ r) = bad BadData

-- n items, each read from the state that the item before it gives
abbrev pub prepend : {A : Type 0} → A → List A → List ℕ → Parsed (List A)
prepend a xs r = got (a ∷ xs) r

unfoldable pub many : {S A : Type 0} → (S → List ℕ → Parsed A) → (A → S) → ℕ → S → List ℕ → Parsed (List A)
many item next zero σ s = got [] s
many item next (suc n) σ s = bind (item σ s) (λ a r. bind (many item next n (next a) r) (prepend a))

-- the state behind the items read so far
unfoldable pub behind : {S A : Type 0} → (A → S) → S → List A → S
behind next σ [] = σ
behind next σ (a ∷ xs) = behind next (next a) xs
