-- The codes of a zone that no code of its own reads. To be believed.
use Rattle.base.specs.declared.Refusal.TheVariants.{BadText}
use Rattle.std.specs.Prelude.{ℕ, List, ltb}
use Rattle.base.specs.Pick.{pick}
use Rattle.base.specs.Parsed.{Parsed, got, bad, bind, parse}
use Rattle.counts.specs.Count.{read_count}
-- a signed count as the number that stands in the file: 0, -1, 1, -2 are 0, 1, 2, 3
pub use Rattle.counts.specs.SignedCount.{read_zigzag}

-- "in a zone it is a pool number"; "pool number not below the pool's count" is 8
unfoldable pub judge_name : ℕ → ℕ → List ℕ → Parsed ℕ
judge_name pool n s = pick (ltb n pool) (got n s) (bad BadText)

unfoldable pub parse_name : ℕ → List ℕ → Parsed ℕ
parse_name pool s = bind (parse read_count s) (judge_name pool)
