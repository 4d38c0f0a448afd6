-- What a field says, apart from the forms of its transitions, and the preferred data that say it. "Two files have the same content when
-- they hold the same fields in the same order with the same data, transitions compared by the instant or mark they name."
-- To be believed.
use Rattle.std.specs.Prelude.{ℕ, zero, suc, ◌-◌, List, [], ◌∷◌, ◌++◌, length, take, eqb}
use Rattle.base.specs.Pick.{pick}
use Rattle.base.specs.Parsed.{Parsed, got, bad, bind, parse, parse_byte, prepend}
use Rattle.base.specs.Moment.{end_of_time}
use Rattle.counts.specs.Count.{read_count}
use Rattle.offsets.specs.Offset.{read_sum}
use Rattle.transitions.specs.Transition.{read_moment, write_moment}

-- a transition by the moment that it names, and the bytes behind it, up to the next transition or the end of the data
pub record Piece : Type 0 where
  pub moment : ℕ
  pub copied : List ℕ

-- the data of a field: the bytes before the first transition, all of them where there is none, and each transition with what follows it
pub record Content : Type 0 where
  pub head : List ℕ
  pub pieces : List Piece

abbrev pub plain : List ℕ → Content
plain d = record { head = d; pieces = [] }

-- what stands in s before its last part r
abbrev pub bytes_up_to : List ℕ → List ℕ → List ℕ
bytes_up_to s r = take (length s - length r) s

-- Behind an interval's transition stand "name, wall offset, savings"; behind the end transition, with no interval left, all the rest.
unfoldable pub parse_wall : ℕ → List ℕ → Parsed ℕ
parse_wall name s = bind (parse read_sum s) (λ wall r. parse read_sum r)

unfoldable pub piece_end : ℕ → List ℕ → Parsed ℕ
piece_end zero s = got 0 []
piece_end (suc n) s = bind (parse read_count s) parse_wall

abbrev pub piece_of : ℕ → List ℕ → ℕ → List ℕ → Parsed Piece
piece_of m s v r = got (record { moment = m; copied = bytes_up_to s r }) r

unfoldable pub after_moment : ℕ → ℕ → List ℕ → Parsed Piece
after_moment n m s = bind (piece_end n s) (piece_of m s)

-- a transition after prev, with n more behind it
unfoldable pub parse_piece : ℕ → ℕ → List ℕ → Parsed Piece
parse_piece n prev s = bind (parse (read_moment prev) s) (after_moment n)

unfoldable pub parse_pieces : ℕ → ℕ → List ℕ → Parsed (List Piece)
parse_pieces zero prev s = got [] s
parse_pieces (suc n) prev s = bind (parse_piece n prev s) (λ p r. bind (parse_pieces n p.moment r) (prepend p))

-- How many transitions a zone has, and what stands from the first on: "A zone is ID, flag, rest"; "Flag 2: interval count ..; for each,
-- transition ..; then the end transition". A zone with another flag has none.
unfoldable pub after_count : ℕ → List ℕ → Parsed ℕ
after_count n s = got (suc n) s

unfoldable pub after_flag : ℕ → List ℕ → Parsed ℕ
after_flag flag s = pick (eqb flag 2) (bind (parse read_count s) after_count) (got 0 [])

unfoldable pub after_id : ℕ → List ℕ → Parsed ℕ
after_id id s = bind (parse_byte s) after_flag

unfoldable pub parse_head : List ℕ → Parsed ℕ
parse_head s = bind (parse read_count s) after_id

abbrev pub content_with : List ℕ → List ℕ → List Piece → List ℕ → Parsed Content
content_with d s ps r = got (record { head = bytes_up_to d s; pieces = ps }) r

unfoldable pub after_head : List ℕ → ℕ → List ℕ → Parsed Content
after_head d n s = bind (parse_pieces n end_of_time s) (content_with d s)

-- the data of a field 1
unfoldable pub parse_content : List ℕ → Parsed Content
parse_content d = bind (parse_head d) (after_head d)

-- data that are no zone hold no transition
abbrev pub or_plain : List ℕ → Parsed Content → Content
or_plain d (got c r) = c
or_plain d (bad n) = plain d

-- the data d of a field with the ID i; only zones have transitions
unfoldable pub content_of : ℕ → List ℕ → Content
content_of i d = pick (eqb i 1) (or_plain d (parse_content d)) (plain d)

-- "The preferred file has every transition in the writer's form ..; all else is copied": the transitions after prev
unfoldable pub print_pieces : ℕ → List Piece → List ℕ
print_pieces prev [] = []
print_pieces prev (p ∷ ps) = (write_moment prev p.moment ++ p.copied) ++ print_pieces p.moment ps

unfoldable pub print : Content → List ℕ
print c = c.head ++ print_pieces end_of_time c.pieces
