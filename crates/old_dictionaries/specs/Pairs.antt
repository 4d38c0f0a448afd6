-- Pairs of strings as they stand in the bytes, with no judgement of equal keys. The code's way: `pairs-known` and `entry-pair` in
-- proofs/PairLaws.antt tie it to the entries.
use Rattle.std.specs.Prelude.{ℕ, zero, suc, List, [], Bool, true, false}
use Rattle.base.specs.Pick.{pick}
use Rattle.base.specs.Equal.{equal}
use Rattle.base.specs.Parsed.{Parsed, got, bad, bind, prepend}
use Rattle.aliases.specs.Dictionary.{Entry, entry, Dictionary}
use Rattle.old_texts.specs.OldText.{parse_old_text}

unfoldable pub parse_pair : List ℕ → Parsed Entry
parse_pair s = bind (parse_old_text s) (λ x r. bind (parse_old_text r) (λ y q. got (entry x y) q))

unfoldable pub parse_pairs : ℕ → List ℕ → Parsed Dictionary
parse_pairs zero s = got [] s
parse_pairs (suc n) s = bind (parse_pair s) (λ e r. bind (parse_pairs n r) (prepend e))

-- whether x is the key of the first entry, or else of one of those behind it
abbrev pub first_key : List ℕ → (List ℕ → Bool) → Parsed Entry → Bool
first_key x more (got e q) = pick (equal e.key x) true (more q)
first_key x more (bad k) = false

-- whether x is the key of one of n entries
unfoldable pub key_among : ℕ → List ℕ → List ℕ → Bool
key_among zero x s = false
key_among (suc n) x s = first_key x (key_among n x) (parse_pair s)
