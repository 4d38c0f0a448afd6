-- The version text as it is handed out. Assumes nothing.
use Rattle.std.specs.Prelude.{Ok, Result}
use Rattle.base.specs.Coded.{Fault}
use mathlib.Core.Path.{◌≡◌}
use mathlib.Core.List.{List}
use Prim.Native.Nat.{ℕ}
use Rattle.strings.specs.Holder.{text_of}
use Rattle.strings.specs.declared.Holder.TheVariants.{InField}
use Rattle.field_checks.specs.VersionPart.{version_part}

pub version-part : (bs : List ℕ) (t : Result (ℕ × ℕ) Fault) (a n : ℕ) (x : List ℕ) → t ≡ Ok (a, n) → x ≡ text_of bs bs (InField a n) → x ≡ version_part bs t
version-part bs t a n x e q = rw e q
