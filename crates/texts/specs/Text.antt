-- "Text: in field 2 (tzdb version) length and bytes stand in place": a count and that many bytes of UTF-8. Assumes nothing: these
-- are definitions.
use Rattle.base.specs.Refusals.{refusal_number}
use Rattle.base.specs.declared.Refusal.{Refusal}
use Rattle.base.specs.Coded.{Coded}
use Rattle.base.specs.declared.Refusal.TheVariants.{BadData, BadText, TooLarge}
use Rattle.std.specs.Prelude.{ℕ, ◌+◌, ◌-◌, List, [], ◌∷◌, ◌++◌, pos, length, take, drop, ltb, Err, Ok, Result}
use Rattle.base.specs.Pick.{pick}
use Rattle.base.specs.Numbers.{GivenBack, answering, refusing}
use Rattle.base.specs.Parsed.{Parsed, got, bad}
use Rattle.base.specs.Writing.{Form, bytes, unfit}
use Rattle.counts.specs.Count.{read_count, write_count}
use Rattle.utf8.specs.Utf8.{utf8}

-- behind a length n of a bytes: "a length-and-bytes text gives 4, then 9 if cut, then 8"; "1,024 bytes a string"
unfoldable pub text_sized : List ℕ → Coded ℕ → Result (ℕ × ℕ) Refusal
text_sized s (Err k) = Err k
text_sized s (Ok (n, a)) = pick (ltb 1024 n) (Err TooLarge) (pick (ltb (length s - a) n) (Err BadData) (pick (utf8 (take n (drop a s))) (Ok (a, n)) (Err BadText)))

-- "a value's code (7) comes before its use": the length's own refusals come first
abbrev pub read_text : List ℕ → Result (ℕ × ℕ) Refusal
read_text s = text_sized s (read_count s)

abbrev pub part_of : List ℕ → Result (ℕ × ℕ) Refusal → List ℕ
part_of s (Ok (a, n)) = take n (drop a s)
part_of s (Err k) = []

-- "A text handed back is a part either of the pool or of the field itself": the part of s; none where it is refused
abbrev pub text_bytes : List ℕ → List ℕ
text_bytes s = part_of s (read_text s)

abbrev pub behind_text : List ℕ → Result (ℕ × ℕ) Refusal → Parsed (List ℕ)
behind_text s (Ok (a, n)) = got (take n (drop a s)) (drop (a + n) s)
behind_text s (Err k) = bad k

-- a text in a row of readers
abbrev pub parse_text : List ℕ → Parsed (List ℕ)
parse_text s = behind_text s (read_text s)

-- the code of the text t
abbrev pub write_text : List ℕ → List ℕ
write_text t = write_count (length t) ++ t

-- "writing, .. (for a text 4, then 8)"
abbrev pub text_form : List ℕ → Form
text_form t = pick (ltb 1024 (length t)) (unfit TooLarge) (pick (utf8 t) (bytes (write_text t)) (unfit BadText))

-- document 01's number, place and values of a text that is read: the place of its bytes and how many they are
abbrev pub given_by_text : Result (ℕ × ℕ) Refusal → GivenBack
given_by_text (Ok (a, n)) = answering (pos a ∷ pos n ∷ [])
given_by_text (Err k) = refusing (refusal_number k) 0
