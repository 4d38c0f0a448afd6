-- Numbers in groups of seven bits: what count and signed count share. To be believed.
use Rattle.base.specs.Coded.{Coded}
use Rattle.base.specs.declared.Refusal.TheVariants.{BadCode, BadData}
use Rattle.std.specs.Prelude.{ℕ, zero, suc, ◌+◌, ◌*◌, ◌-◌, ◌/◌, ◌%◌, List, [], ◌∷◌, get_or, ltb, leb, eqb, Err, Ok}
use Rattle.base.specs.Pick.{pick, both}

-- the byte b with its top bit set, before what the bytes after it give
abbrev pub grouped : ℕ → Coded ℕ → Coded ℕ
grouped b (Ok (v, n)) = Ok (b % 128 + 128 * v, n + 1)
grouped b (Err k) = Err k

-- "seven bits a byte, low first, top bit set on all but the last", in any form: value and length of at most k bytes with the top bit set
-- and a last one, which after k of them is at most top. Bytes that end early give 9, "unless .. a count's fifth byte already gives 7"
unfoldable pub any_groups : ℕ → ℕ → List ℕ → Coded ℕ
any_groups k top [] = Err BadData
any_groups zero top (b ∷ s) = pick (leb b top) (Ok (b, 1)) (Err BadCode)
any_groups (suc k) top (b ∷ s) = pick (ltb b 128) (Ok (b, 1)) (grouped b (any_groups k top s))

-- "Shortest form only": a last byte 0 behind others gives 7
unfoldable pub shortest : List ℕ → Coded ℕ → Coded ℕ
shortest s (Ok (v, n)) = pick (both (ltb 1 n) (eqb (get_or s (n - 1) 0) 0)) (Err BadCode) (Ok (v, n))
shortest s (Err k) = Err k

-- Both in one recursion: read_groups is shortest of any_groups (groups-shortest in proofs/ShortestLaws.antt).
-- The byte b with its top bit set, before what the bytes after it give: a rest of 0 is not the shortest form
abbrev pub more : ℕ → Coded ℕ → Coded ℕ
more b (Ok (v, n)) = pick (eqb v 0) (Err BadCode) (Ok (b % 128 + 128 * v, n + 1))
more b (Err k) = Err k

unfoldable pub read_groups : ℕ → ℕ → List ℕ → Coded ℕ
read_groups k top [] = Err BadData
read_groups zero top (b ∷ s) = pick (leb b top) (Ok (b, 1)) (Err BadCode)
read_groups (suc k) top (b ∷ s) = pick (ltb b 128) (Ok (b, 1)) (more b (read_groups k top s))

-- the shortest form of v, where v fits k + 1 groups
unfoldable pub write_groups : ℕ → ℕ → List ℕ
write_groups zero v = (v % 128) ∷ []
write_groups (suc k) v = pick (ltb v 128) (v ∷ []) ((128 + v % 128) ∷ write_groups k (v / 128))

-- v in k + 1 bytes: its groups, and groups of 0 behind them where it needs fewer
unfoldable pub padded_groups : ℕ → ℕ → List ℕ
padded_groups zero v = (v % 128) ∷ []
padded_groups (suc k) v = (128 + v % 128) ∷ padded_groups k (v / 128)

-- in the reader's loop: i bytes with the top bit set, whose groups give v, before what the bytes after them give, counted in units
abbrev pub before : ℕ → ℕ → ℕ → Coded ℕ → Coded ℕ
before v unit i (Ok (w, n)) = Ok (v + unit * w, i + n)
before v unit i (Err k) = Err k
