-- A string of a pool by its number, from the lengths alone. To be believed; `string-is` (proofs/PoolStringLaws.antt) says that it is the pool's
-- string where the check takes the pool.
use Rattle.base.specs.declared.Refusal.TheVariants.{BadData, BadText}
use Rattle.std.specs.Prelude.{ℕ, zero, suc, ◌-◌, List, length, drop, ltb, leb}
use Rattle.base.specs.Pick.{pick}
use Rattle.base.specs.Parsed.{Parsed, got, bad, bind, parse}
use Rattle.counts.specs.Count.{read_count}
use Rattle.pool.specs.declared.Span.{Span}

-- "length-and-bytes strings": how many bytes the string at the front of s has, which stand first in what is left
unfoldable pub judge_length : ℕ → List ℕ → Parsed ℕ
judge_length n s = pick (leb n (length s)) (got n s) (bad BadData)

unfoldable pub parse_string : List ℕ → Parsed ℕ
parse_string s = bind (parse read_count s) judge_length

-- the k-th from there on
unfoldable pub nth_string : ℕ → List ℕ → Parsed ℕ
nth_string zero s = parse_string s
nth_string (suc k) s = bind (parse_string s) (λ n r. nth_string k (drop n r))

-- "pool number not below the pool's count" is 8
unfoldable pub string_numbered : ℕ → ℕ → List ℕ → Parsed ℕ
string_numbered k n s = pick (ltb k n) (nth_string k s) (bad BadText)

abbrev pub span_in : List ℕ → Parsed ℕ → Span
span_in d (got n r) = record { at = length d - length r; len = n }
span_in d (bad m) = record { at = 0; len = 0 }

-- where the string with the number k lies in the pool's data d; no bytes where it is not there
unfoldable pub string_span : List ℕ → ℕ → Span
string_span d k = span_in d (bind (parse read_count d) (string_numbered k))
