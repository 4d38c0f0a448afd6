-- What an array of flags says of a zone, and what the reader of each field does to it. The code's way: internal functions alone use it; what the
-- flags are for, the rewriter's result, is said by rewrite's Preferred.antt.
use Rattle.base.specs.declared.Refusal.{Refusal}
use Rattle.std.specs.Prelude.{ℕ, ◌≡◌, Bool, List, set, Ok, Result}
use Rattle.base.specs.Pick.{pick}
use Rattle.pieces.specs.Form.{Flagged}
use Rattle.field_readers.specs.Remembered.{part}
use Rattle.field_readers.specs.declared.Kept.{Kept}

-- a zone of which the pool number of its ID is id: the flag is set where its data are not in their preferred form
abbrev pub flag_set : ℕ → Bool → List ℕ → List ℕ
flag_set id preferred flags = pick preferred flags (set flags id 1)

-- what taking the field with the ID i, whose data go from a to e, does to the flags: what they said they say still, and they say it of this field
pub record FlagsTaken (s : List ℕ) (i a e : ℕ) (flags flags' : List ℕ) (r : Result Kept Refusal) : Type 0 where
  pub older : (d : List ℕ) → Flagged flags d → Flagged flags' d
  pub newer : (k : Kept) → r ≡ Ok k → i ≡ 1 → Flagged flags' (part s a e)
