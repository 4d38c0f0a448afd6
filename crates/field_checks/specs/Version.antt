-- What the version text of a file is, on its fields. To be believed: text-of-field and version-text (proofs/VersionLaws.antt and
-- proofs/TextLaws.antt) say it of what reading the version text gives.
use Rattle.std.specs.Prelude.{ℕ, ◌+◌, ◌≤◌, ◌≡◌, List, [], ◌∷◌, ◌++◌, pos, length, take, drop}
use Rattle.base.specs.All.{All}
use Rattle.base.specs.Numbers.{answering, refusing}
use Rattle.texts.specs.Text.{text_bytes}
use Rattle.frames.specs.Frame.{Field}
use Rattle.frames.specs.Fields.{fields}
use Rattle.field_checks.specs.Check.{version_of}
use Rattle.field_checks.specs.Numbers.{given_by_version_text}

-- the n bytes of f from the place a on are the text of its field 2
pub record TextIn (f : List ℕ) (a n : ℕ) : Type 0 where
  pub prior : List Field
  pub field : Field
  pub after : List Field
  pub split : fields f ≡ prior ++ field ∷ after
  pub is-text : field.id ≡ 2
  pub bytes : take n (drop a f) ≡ text_bytes field.body
  pub within : a + n ≤ length f

-- the text of the field g is given, as a part of f
pub record GivesText (f : List ℕ) (g : Field) : Type 0 where
  pub place : ℕ
  pub size : ℕ
  pub given : given_by_version_text (version_of f) ≡ answering (pos place ∷ pos size ∷ [])
  pub bytes : take size (drop place f) ≡ text_bytes g.body
  pub within : place + size ≤ length f

-- "12: .. the version text is asked of a well-formed file without field 2"; "for 12 on the version text, the bytes' end"
pub record ReadsText (f : List ℕ) : Type 0 where
  pub has : (gs : List Field) (g : Field) (hs : List Field) → fields f ≡ gs ++ g ∷ hs → g.id ≡ 2 → GivesText f g
  pub lacks : All (λ g. g.id ≡ 2 → ⊥) (fields f) → given_by_version_text (version_of f) ≡ refusing 12 (length f)
