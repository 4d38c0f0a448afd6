-- What the readers of pieces rely on and give, and what writers leave. The code's way: internal functions alone use it; what the rewriter gives is said by Content.antt.
use Rattle.std.specs.Prelude.{ℕ, ◌+◌, ◌-◌, ◌≤◌, ◌≡◌, List, [], ◌++◌, length, take, drop}
use Rattle.base.specs.Parsed.{Parsed, got, bad, parse}
use Rattle.base.specs.Moment.{end_of_time}
use Rattle.transitions.specs.Transition.{read_moment}
use Rattle.pieces.specs.Content.{Piece, Content, piece_end, parse_piece, parse_pieces, parse_content, print_pieces, print}

-- the piece at a place of s, with n more behind it: its moment m, whose code after prev ends at the place a, and the bytes from a to e
pub record PieceAt (s : List ℕ) (n prev place m a e : ℕ) : Type 0 where
  pub piece : parse_piece n prev (drop place s) ≡ got (record { moment = m; copied = take (e - a) (drop a s) }) (drop e s)
  pub code : parse (read_moment prev) (drop place s) ≡ got m (drop a s)
  pub first : a ≤ e
  pub last : e ≤ length s

-- the bytes from a place of s on that belong to a piece, if any do, end at the place e
pub record EndAt (s : List ℕ) (n place e : ℕ) : Type 0 where
  pub within : e ≤ length s
  pub means : (v : ℕ) (q : List ℕ) → piece_end n (drop place s) ≡ got v q → q ≡ drop e s

-- d are the data of a zone; their preferred form is no longer, and where it is as long it is d
pub record HasContent (d : List ℕ) : Type 0 where
  pub content : Content
  pub is : parse_content d ≡ got content []
  pub shorter : length (print content) ≤ length d
  pub exact : length (print content) ≡ length d → print content ≡ d

-- from the place a of s on stand n pieces and nothing else, and their preferred form is no longer than s
pub record HasPieces (s : List ℕ) (n a : ℕ) : Type 0 where
  pub pieces : List Piece
  pub is : parse_pieces n end_of_time (drop a s) ≡ got pieces []
  pub within : a ≤ length s
  pub shorter : length (print_pieces end_of_time pieces) ≤ length s

abbrev pub or_none : Parsed (List Piece) → List Piece
or_none (got ps r) = ps
or_none (bad n) = []

-- the n pieces from the place a of s on
abbrev pub pieces_at : List ℕ → ℕ → ℕ → List Piece
pieces_at s n a = or_none (parse_pieces n end_of_time (drop a s))

-- where the output d has room for xs: the length given, and what the output holds then
pub record Put (xs d : List ℕ) (n : ℕ) (e : List ℕ) : Type 0 where
  pub size : n ≡ length xs
  pub left : e ≡ xs ++ drop (length xs) d
