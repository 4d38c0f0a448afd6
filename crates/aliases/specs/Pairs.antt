-- The data of a good field 3 by their bytes, with no order of faults: a count, so many pairs of pool numbers, and no two equal keys. To be
-- believed: `good-pairs` and `pairs-good` (proofs/PairLaws.antt) say that these are the data in which the check finds no fault.
use Rattle.std.specs.Prelude.{ℕ, zero, suc, ◌≡◌, List, [], length, get_or}
use Rattle.base.specs.Parsed.{Parsed, got, bind, parse, prepend}
use Rattle.counts.specs.Count.{read_count}
use Rattle.places.specs.Name.{parse_name}
use Rattle.aliases.specs.Dictionary.{Entry, entry, Dictionary, Apart}

module _ (ts : List (List ℕ)) where
  unfoldable pub parse_pair : List ℕ → Parsed Entry
  parse_pair s = bind (parse_name (length ts) s) (λ k r. bind (parse_name (length ts) r) (λ j q. got (entry (get_or ts k []) (get_or ts j [])) q))

  unfoldable pub parse_pairs : ℕ → List ℕ → Parsed Dictionary
  parse_pairs zero s = got [] s
  parse_pairs (suc n) s = bind (parse_pair s) (λ e r. bind (parse_pairs n r) (prepend e))

-- the data d of field 3, all of them, are the dictionary es, with ts for a pool: none of 7 to 9 and 19
pub record PairsIn (ts : List (List ℕ)) (d : List ℕ) (es : Dictionary) : Type 0 where
  pub parsed : bind (parse read_count d) (parse_pairs ts) ≡ got es []
  pub apart : Apart es
