-- Field 3 left to right: "the alias dictionary (a count, then pairs of pool strings: alias, target)"; "7, 8 and 9 as for zones, 19 at the
-- second of two equal keys". To be believed; `good-pairs` and `pairs-good` (proofs/PairLaws.antt) say which data are good without an order of faults.
use Rattle.base.specs.declared.Refusal.TheVariants.{SecondAlias}
use Rattle.std.specs.Prelude.{ℕ, zero, suc, List, [], ◌∷◌, ◌++◌, length, get_or}
use Rattle.base.specs.Pick.{pick}
use Rattle.base.specs.Parsed.{Parsed, got, bad, bind, parse, ended}
use Rattle.counts.specs.Count.{read_count}
use Rattle.places.specs.Name.{parse_name}
use Rattle.ids.specs.Ids.{among}
use Rattle.aliases.specs.Dictionary.{Entry, entry, Dictionary, keys}

module _ (ts : List (List ℕ)) where
  -- the target of the key x. The key is judged as soon as it is read: 19 comes before its target's 7, 8 and 9
  unfoldable pub after_key : Dictionary → List ℕ → List ℕ → Parsed Entry
  after_key pre x r = pick (among x (keys pre)) (bad SecondAlias) (bind (parse_name (length ts) r) (λ j q. got (entry x (get_or ts j [])) q))

  -- an entry behind the entries pre, as two pool numbers
  unfoldable pub parse_entry : Dictionary → List ℕ → Parsed Entry
  parse_entry pre s = bind (parse_name (length ts) s) (λ k r. after_key pre (get_or ts k []) r)

  -- n entries behind the entries pre
  unfoldable pub parse_entries : ℕ → Dictionary → List ℕ → Parsed Dictionary
  parse_entries zero pre s = got pre s
  parse_entries (suc n) pre s = bind (parse_entry pre s) (λ e r. parse_entries n (pre ++ (e ∷ [])) r)

  -- "9 for leftovers last"
  unfoldable pub all_entries : ℕ → List ℕ → Parsed Dictionary
  all_entries n s = bind (parse_entries n [] s) ended

  -- the content of field 3, where ts is the pool. A count that the data can't hold is no fault by itself.
  unfoldable pub parse_aliases : List ℕ → Parsed Dictionary
  parse_aliases d = bind (parse read_count d) all_entries

abbrev pub entries_in : Parsed Dictionary → Dictionary
entries_in (got es r) = es
entries_in (bad n) = []

-- the entries of field 3; none where it is refused
abbrev pub entries_of : List (List ℕ) → List ℕ → Dictionary
entries_of ts d = entries_in (parse_aliases ts d)
