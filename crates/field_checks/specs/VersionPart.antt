-- The version text as it is handed out. To be believed.
use Rattle.base.specs.Coded.{Fault}
use Rattle.std.specs.Prelude.{ℕ, List, [], Err, Ok, Result}
use Rattle.strings.specs.Holder.{text_of}
use Rattle.strings.specs.declared.Holder.TheVariants.{InField}

-- "in field 2 (tzdb version) length and bytes stand in place": the text is a part of that field, which the bytes hold; none where it is refused
abbrev pub version_part : List ℕ → Result (ℕ × ℕ) Fault → List ℕ
version_part bs (Ok (a, n)) = text_of bs bs (InField a n)
version_part bs (Err (n, p)) = []
