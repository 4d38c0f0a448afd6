-- The older edition's string, as document 002 gives it: "a count of the number of UTF-8 bytes in the string followed by those bytes". To be
-- believed.
use Rattle.base.specs.declared.Refusal.{Refusal}
use Rattle.base.specs.declared.Refusal.TheVariants.{BadText, TooLarge}
use Rattle.std.specs.Prelude.{ℕ, List, ◌++◌, length, ltb, Result}
use Rattle.base.specs.Pick.{pick}
use Rattle.base.specs.Parsed.{Parsed}
use Rattle.base.specs.Writing.{Form, bytes, unfit}
use Rattle.utf8.specs.Utf8.{utf8}
use Rattle.texts.specs.Text.{text_sized, behind_text}
use Rattle.old_counts.specs.OldCount.{read_old_count, write_old_count}

-- as today's text behind its length: "4, then 9 if cut, then 8"; "1,024 bytes a string"
abbrev pub read_old_text : List ℕ → Result (ℕ × ℕ) Refusal
read_old_text s = text_sized s (read_old_count s)

-- a string in a row of readers: its bytes, and those behind it
abbrev pub parse_old_text : List ℕ → Parsed (List ℕ)
parse_old_text s = behind_text s (read_old_text s)

-- the code of the string t
abbrev pub write_old_text : List ℕ → List ℕ
write_old_text t = write_old_count (length t) ++ t

-- "writing, .. (for a text 4, then 8)"
abbrev pub old_text_form : List ℕ → Form
old_text_form t = pick (ltb 1024 (length t)) (unfit TooLarge) (pick (utf8 t) (bytes (write_old_text t)) (unfit BadText))
