-- The words of demands 2 and 3, on a file's fields and not by way of a question. To be believed.
use Rattle.std.specs.Prelude.{ℕ, ◌≡◌, List, ◌∷◌, ◌++◌, ℤ, pos, neg_ℤ, ◌≤ℤ◌}
use Rattle.frames.specs.Frame.{Field}
use Rattle.frames.specs.Fields.{fields}
use Rattle.base.specs.All.{All}
use Rattle.field_checks.specs.Check.{file_pool, HasId}
-- an instant from year 1 to year 9999 (in-range and range-in in proofs/RangeLaws.antt: these are its first and its last tick)
pub use Rattle.signed.specs.Instant.{InRange}

-- "Finite ones run from -621355968000000000 (year 1) to 2534023007999999999 (end of 9999)"
pub record FirstToLast (z : ℤ) : Type 0 where
  pub first : neg_ℤ (pos 621355968000000000) ≤ℤ z
  pub last : z ≤ℤ pos 2534023007999999999

-- "each zone": a field of ID 1, wherever it stands
pub record ZoneIn (f : List ℕ) (g : Field) : Type 0 where
  pub before : List Field
  pub behind : List Field
  pub splits : fields f ≡ before ++ g ∷ behind
  pub is-zone : g.id ≡ 1

-- "The asked zone is the field of ID 1 whose zone ID has exactly the asked bytes; a well-formed file has at most one": g is that field of f
-- (one-zone in field_checks: there is no other)
pub record Asked (f id : List ℕ) (g : Field) : Type 0 where
  pub before : List Field
  pub behind : List Field
  pub splits : fields f ≡ before ++ g ∷ behind
  pub has : HasId (file_pool (fields f)) id g

-- "the file has no such zone"
abbrev pub NoZone : List ℕ → List ℕ → Type 0
NoZone f id = All (λ h. HasId (file_pool (fields f)) id h → ⊥) (fields f)
