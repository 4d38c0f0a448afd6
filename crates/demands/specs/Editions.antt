-- Ask 11: "Under 1 a fixed zone's name is its ID whatever follows; under 2 it is as today. The bytes accepted and all offsets are the same under
-- both." Of any bytes, whatever the mark. To be believed.
use Rattle.base.specs.Coded.{Fault}
use Rattle.std.specs.Prelude.{ℕ, ◌≡◌, Ok, Result}
use Rattle.zones.specs.Content.{FixedName, fixed}
use Rattle.frames.specs.Machine.{Out, found}
use Rattle.answers.specs.declared.Found.{Found}
use Rattle.locate.specs.Asked.{Held}

-- the walk o to the asked zone comes to a fixed one, of flag 1
pub record ToFixed {M : Type 0} (o : Out M Held) : Type 0 where
  pub at : Held
  pub past : ℕ
  pub is : o ≡ found at past
  pub offset : ℕ
  pub name : FixedName
  pub body_is : at.zone.body ≡ fixed offset name

-- every value but the name
pub record NameAside (x y : Found) : Type 0 where
  pub wall : x.wall ≡ y.wall
  pub savings : x.savings ≡ y.savings
  pub standard : x.standard ≡ y.standard
  pub start : x.start ≡ y.start
  pub end : x.end ≡ y.end

-- of the two editions: the same number and place or the same answer, and where the walk o comes to a fixed zone the same answer but for the name
pub data SameButName {M : Type 0} (o : Out M Held) : Result Found Fault → Result Found Fault → Type 0 where
  same : {a : Result Found Fault} → SameButName o a a
  name-aside : {x y : Found} → ToFixed o → NameAside x y → SameButName o (Ok x) (Ok y)
