-- "Field 0 is a count and that many length-and-bytes strings." To be believed.
use Rattle.base.specs.declared.Refusal.TheVariants.{TooLarge}
use Rattle.base.specs.declared.Refusal.{Refusal}
use Rattle.std.specs.Prelude.{ℕ, List, [], length, ltb, Err, Ok, Result}
use Rattle.base.specs.Pick.{pick}
use Rattle.base.specs.Parsed.{Parsed, got, bad, bind, parse, ended, many}
use Rattle.counts.specs.Count.{read_count}
use Rattle.texts.specs.Text.{parse_text}

-- the content of field 0: its strings, or its first fault
abbrev pub Pool : Type 0
Pool = Parsed (List (List ℕ))

-- k strings in a row; a string does not depend on those before it
abbrev pub string : Unit {0} → List ℕ → Parsed (List ℕ)
string σ s = parse_text s

abbrev pub no_state : List ℕ → Unit {0}
no_state t = tt

abbrev pub read_strings : ℕ → List ℕ → Pool
read_strings k s = many string no_state k tt s

-- k strings, and "9 for leftovers last"
unfoldable pub all_strings : ℕ → List ℕ → Pool
all_strings k s = bind (read_strings k s) ended

-- "8,192 pool strings": 4 for a count above, before any string is read
unfoldable pub counted : ℕ → List ℕ → Pool
counted k s = pick (ltb 8192 k) (bad TooLarge) (all_strings k s)

abbrev pub parse_pool : List ℕ → Pool
parse_pool d = bind (parse read_count d) counted

-- what the check says of a content
abbrev pub checked : Pool → Result ℕ Refusal
checked (got ts r) = Ok (length ts)
checked (bad m) = Err m

abbrev pub strings_in : Pool → List (List ℕ)
strings_in (got ts r) = ts
strings_in (bad m) = []

-- the strings of a pool; none where it is refused
abbrev pub strings_of : List ℕ → List (List ℕ)
strings_of d = strings_in (parse_pool d)
