-- What an array of flags says of a file's zones, from step to step. The code's way: internal functions alone use it; what the flags are for, the
-- rewriter's result, is said by rewrite's Preferred.antt.
use Rattle.base.specs.Coded.{Fault}
use Rattle.std.specs.Prelude.{ℕ, ◌-◌, ◌≤◌, ◌<◌, ◌≡◌, List, ◌++◌, length, drop, Ok, Result}
use Rattle.base.specs.All.{All}
use Rattle.pieces.specs.Form.{Flagged}
use Rattle.frames.specs.Frame.{Field}
use Rattle.frames.specs.Fields.{scan, fields}
use Rattle.field_checks.specs.declared.Conclusion.{Conclusion}
use Rattle.field_checks.specs.declared.Conclusion.TheVariants.{Refused as Ill, Bare, WithText}
use Rattle.check_steps.specs.Cursor.{seen_at}
use Rattle.check_steps.specs.declared.Cursor.{Cursor}
use Rattle.check_steps.specs.declared.Turn.{Turn}
use Rattle.check_steps.specs.declared.Turn.TheVariants.{Done, Next}

-- the flags say of the field g, where it is a zone, whether its data are in their preferred form
abbrev pub ZoneFlagged : List ℕ → Field → Type 0
ZoneFlagged flags g = g.id ≡ 1 → Flagged flags g.body

-- the flags say it of every zone of the file f
abbrev pub AllFlagged : List ℕ → List ℕ → Type 0
AllFlagged f flags = All (ZoneFlagged flags) (fields f)

-- they say it of every field before a cursor; fuel bounds how many follow
pub record SoFar (s : List ℕ) (c : Cursor) (flags : List ℕ) : Type 0 where
  pub before : List Field
  pub fuel : ℕ
  pub enough : length s - c.at < fuel
  pub lists : fields s ≡ before ++ (scan fuel 255 c.at (seen_at c.at) c.prev (drop c.at s)).fields
  pub flagged : All (ZoneFlagged flags) before
  pub place : 0 < c.at → 4 ≤ c.at

-- of every field, where the walk came to the bytes' end
abbrev pub FlagsBehind : List ℕ → List ℕ → Conclusion → Type 0
FlagsBehind s flags (Ill n p) = Unit {0}
FlagsBehind s flags (Bare p) = AllFlagged s flags
FlagsBehind s flags (WithText a n) = AllFlagged s flags

abbrev pub FlagsAfter : List ℕ → List ℕ → Turn → Type 0
FlagsAfter s flags (Done x) = FlagsBehind s flags x
FlagsAfter s flags (Next d) = SoFar s d flags

pub record FlagsStepped (s : List ℕ) (c : Cursor) (flags flags' : List ℕ) (t : Turn) : Type 0 where
  pub means : SoFar s c flags → FlagsAfter s flags' t

pub record FlagsWalked (s flags : List ℕ) (x : Conclusion) : Type 0 where
  pub means : FlagsBehind s flags x

pub record FlagsChecked (s flags : List ℕ) (v : Result (Unit {0}) Fault) : Type 0 where
  pub means : v ≡ Ok tt → AllFlagged s flags
