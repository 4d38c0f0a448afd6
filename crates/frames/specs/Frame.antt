-- What stands at a place of a file, the version or a field, judged in the order of 01. To be believed.
use Rattle.base.specs.Coded.{Coded}
use Rattle.base.specs.Refusals.{refusal_number}
use Rattle.std.specs.declared.option.Option.{Option}
use Rattle.std.specs.declared.option.Option.TheVariants.{Some, None}
use Rattle.base.specs.declared.Refusal.{Refusal}
use Rattle.base.specs.declared.Refusal.TheVariants.{BadCode, FieldOrder, FirstField, NotFound, TooLarge, WrongVersion}
use Rattle.std.specs.Prelude.{ℕ, ◌+◌, Bool, true, false, List, [], ◌∷◌, length, take, ltb, leb, eqb, Err, Ok}
use Rattle.base.specs.Pick.{pick}
use Rattle.counts.specs.Groups.{any_groups}
use Rattle.frames.specs.declared.Frame.{Frame}
use Rattle.frames.specs.declared.Frame.TheVariants.{End, Cut, Refused, Version, Whole}

-- "the place just past a field is at most 4,194,304"
abbrev pub largest : ℕ
largest = 4194304

-- the IDs that stand once only: "0 or 2 to 7 a second time" is refused, so 1 and 8 to 255 may repeat
abbrev pub once : ℕ → Bool
once i = pick (eqb i 1) false (ltb i 8)

-- What refuses the ID i, if anything. Before any field 6, "first field isn't ID 0"; behind a field with the ID prev 5, "field ID
-- lower than the one before, or 0 or 2 to 7 a second time": IDs never fall, so a second one is equal to the one before.
unfoldable pub order : Bool → ℕ → ℕ → Option Refusal
order false prev i = pick (eqb i 0) None (Some FirstField)
order true prev i = pick (ltb i prev) (Some FieldOrder) (pick (eqb i prev) (pick (once i) (Some FieldOrder) None) None)

unfoldable pub zeros : List ℕ → Bool
zeros [] = true
zeros (b ∷ r) = pick (eqb b 0) (zeros r) false

-- "Version: four zero bytes"; 3 where "all four version bytes are there and aren't 0", that is, aren't all 0
unfoldable pub version : List ℕ → Frame
version r = pick (leb 4 (length r)) (pick (zeros (take 4 r)) Version (Refused WrongVersion)) Cut

-- "Field: ID byte, size as a count, data"; "Allow trailing zero groups in a field size only, up to five bytes; all other counts stay
-- shortest. The size reading must now say how many bytes it took": a count in any form, which stands at the front of some bytes
abbrev pub read_size : List ℕ → Coded ℕ
read_size r = any_groups 4 7 r

-- "Then the size code (7), 4, then 1 or 2 if the field isn't whole": the field with the ID i at the place at, by what reading its size
-- from r gives, the bytes behind the ID. A size that the bytes' end cuts, 9 for the code on its own, is a field that isn't whole.
unfoldable pub sized : ℕ → ℕ → List ℕ → Coded ℕ → Frame
sized at i r (Err n) = pick (eqb (refusal_number n) 9) Cut (Refused BadCode)
sized at i r (Ok (v, u)) = pick (ltb largest (at + (1 + u + v))) (Refused TooLarge) (pick (leb (u + v) (length r)) (Whole i (1 + u) v) Cut)

-- what stands where nothing refuses it
abbrev pub allowed : Option Refusal → Frame → Frame
allowed None x = x
allowed (Some k) x = Refused k

-- "At each ID byte: 6, 5, then for a question 12 if the ID is above 1": above last, the largest ID that the job goes to
unfoldable pub field : ℕ → ℕ → Bool → ℕ → List ℕ → Frame
field last at seen prev [] = End
field last at seen prev (i ∷ r) =
    allowed (order seen prev i) (pick (ltb last i) (Refused NotFound) (sized at i r (read_size r)))

-- r is what stands from the place at on: the version at 0, and a field everywhere else
unfoldable pub frame : ℕ → ℕ → Bool → ℕ → List ℕ → Frame
frame last at seen prev r = pick (eqb at 0) (version r) (field last at seen prev r)

-- a whole field of a file: the place of its ID byte, its ID, the place of its data, "the place just past" it, and the data
pub record Field : Type 0 where
  pub place : ℕ
  pub id : ℕ
  pub start : ℕ
  pub past : ℕ
  pub body : List ℕ
