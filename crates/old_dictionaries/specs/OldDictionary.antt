-- The older edition's dictionary, as document 002 gives it: "a count number of entries in the dictionary, followed by that number of pairs of
-- string key and string value". Its content is of the type that field 3's is. To be believed.
use Rattle.base.specs.Coded.{Coded}
use Rattle.base.specs.declared.Refusal.TheVariants.{BadCode, SecondAlias}
use Rattle.std.specs.Prelude.{ℕ, zero, suc, ◌-◌, ◌≤◌, List, [], ◌∷◌, ◌++◌, length, leb, Err, Ok}
use Rattle.base.specs.All.{All}
use Rattle.base.specs.Pick.{pick}
use Rattle.base.specs.Parsed.{Parsed, got, bad, bind, parse}
use Rattle.base.specs.Writing.{Form, bytes, unfit}
use Rattle.ids.specs.Ids.{among}
use Rattle.aliases.specs.Dictionary.{Entry, entry, Dictionary, keys, Apart}
use Rattle.texts.specs.Facts.{Fit}
use Rattle.old_counts.specs.OldCount.{read_old_count, write_old_count}
use Rattle.old_texts.specs.OldText.{parse_old_text, write_old_text}

-- "The second of two equal keys .. gets 19": the key x is judged as soon as it is read, before its value
unfoldable pub after_key : Dictionary → List ℕ → List ℕ → Parsed Entry
after_key pre x r = pick (among x (keys pre)) (bad SecondAlias) (bind (parse_old_text r) (λ y q. got (entry x y) q))

-- an entry behind the entries pre
unfoldable pub parse_entry : Dictionary → List ℕ → Parsed Entry
parse_entry pre s = bind (parse_old_text s) (after_key pre)

-- n entries behind the entries pre
unfoldable pub parse_entries : ℕ → Dictionary → List ℕ → Parsed Dictionary
parse_entries zero pre s = got pre s
parse_entries (suc n) pre s = bind (parse_entry pre s) (λ e r. parse_entries n (pre ++ (e ∷ [])) r)

-- the content of a dictionary at the front of some bytes. A count that they can't hold is no fault by itself: "readers do not confirm that the
-- end of the resource was reached"
unfoldable pub parse_old_dictionary : List ℕ → Parsed Dictionary
parse_old_dictionary s = bind (parse read_old_count s) (λ n r. parse_entries n [] r)

-- what reading gives: how many entries, and the length of the code
abbrev pub found_of : List ℕ → Parsed Dictionary → Coded ℕ
found_of s (got es r) = Ok (length es, length s - length r)
found_of s (bad k) = Err k

abbrev pub read_old_dictionary : List ℕ → Coded ℕ
read_old_dictionary s = found_of s (parse_old_dictionary s)

-- the code of a dictionary
abbrev pub write_pair : Entry → List ℕ
write_pair e = write_old_text e.key ++ write_old_text e.target

unfoldable pub write_pairs : Dictionary → List ℕ
write_pairs [] = []
write_pairs (e ∷ es) = write_pair e ++ write_pairs es

abbrev pub write_old_dictionary : Dictionary → List ℕ
write_old_dictionary es = write_old_count (length es) ++ write_pairs es

-- a dictionary that has a code: strings of at most 1,024 bytes of UTF-8, and no two equal keys
pub record Writable (es : Dictionary) : Type 0 where
  pub few : length es ≤ 2147483647
  pub fit : All (λ e. Fit e.key × Fit e.target) es
  pub apart : Apart es

-- what is to be written for a dictionary that is lent as n pairs, each string a count and its bytes, at the front of some bytes: "7 for a number
-- the code can't carry", then the first fault of a pair, left to right, 19 among them; else the code of its entries
abbrev pub form_of : Parsed Dictionary → Form
form_of (got es r) = bytes (write_old_dictionary es)
form_of (bad k) = unfit k

abbrev pub old_dictionary_form : ℕ → List ℕ → Form
old_dictionary_form n s = pick (leb n 2147483647) (form_of (parse_entries n [] s)) (unfit BadCode)
