-- Whether the data of a zone are in their preferred form, code by code, and what an array of flags says of that. The code's way, tied to `print`
-- by `data-preferred` (proofs/CodeLaws.antt).
use Rattle.base.specs.Coded.{Coded}
use Rattle.std.specs.Prelude.{ℕ, zero, suc, ◌≡◌, Bool, true, false, List, length, get_or, eqb, Err, Ok}
use Rattle.base.specs.Pick.{both}
use Rattle.base.specs.Parsed.{Parsed, got, bad, parse}
use Rattle.base.specs.Moment.{end_of_time}
use Rattle.counts.specs.Count.{read_count}
use Rattle.transitions.specs.Transition.{read_moment, write_moment}
use Rattle.pieces.specs.Content.{Piece, parse_piece, parse_head}

-- a transition after prev that was read in n bytes is in the writer's form where that is as long
abbrev pub code_in : ℕ → Coded ℕ → Bool
code_in prev (Ok (m, n)) = eqb (length (write_moment prev m)) n
code_in prev (Err k) = false

-- the transition that s starts with
unfoldable pub code_preferred : ℕ → List ℕ → Bool
code_preferred prev s = code_in prev (read_moment prev s)

-- by a piece that was read, and what is said of what follows it
abbrev pub behind_piece : Parsed Piece → (ℕ → List ℕ → Bool) → Bool
behind_piece (got p r) go = go p.moment r
behind_piece (bad k) go = false

-- n transitions after prev
unfoldable pub pieces_preferred : ℕ → ℕ → List ℕ → Bool
pieces_preferred zero prev s = true
pieces_preferred (suc n) prev s = both (code_preferred prev s) (behind_piece (parse_piece n prev s) (pieces_preferred n))

-- by how many transitions there are
abbrev pub behind_head : Parsed ℕ → Bool
behind_head (got n r) = pieces_preferred n end_of_time r
behind_head (bad k) = false

-- the data of a zone
unfoldable pub data_preferred : List ℕ → Bool
data_preferred d = behind_head (parse_head d)

-- the flag of a zone in an array that has one for each number of the pool: that of its ID, which stands first; 1 where there is none
abbrev pub flag_at : List ℕ → Parsed ℕ → ℕ
flag_at flags (got id r) = get_or flags id 1
flag_at flags (bad k) = 1

unfoldable pub flag_of : List ℕ → List ℕ → ℕ
flag_of flags d = flag_at flags (parse read_count d)

-- the data d of a zone whose flag is 0 are in their preferred form
pub record Flagged (flags d : List ℕ) : Type 0 where
  pub means : flag_of flags d ≡ 0 → data_preferred d ≡ true
