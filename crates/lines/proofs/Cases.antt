-- Lines of the papers, computed. Assumes nothing.
use Rattle.std.specs.declared.option.Option.TheVariants.{None, Some}
use mathlib.Core.Path.{◌≡◌, refl}
use mathlib.Core.List.{List, [], ◌∷◌}
use Prim.Native.Nat.{ℕ}
use lib.IntN.{pos, negsuc}
use Rattle.byte_search.specs.Bytes.{index_of, index_after}
use Rattle.answer_lines.specs.Decimal.{decimal_in, decimal, signed}
use Rattle.base.specs.Equal.{equal}
use Rattle.lines.specs.Question.{ticks_of, marked, behind_digits, digits, ticks, parse_line}
use Rattle.answer_lines.specs.Reply.{answer_line, refusal_line}
use Rattle.lines.specs.Splitting.{last_line, lines_from, lines_of, block_lines, lines_in_blocks}
use Rattle.lines.specs.declared.Kind.TheVariants.{Plain, Part, All}

-- `UTC 0`, `GMT 0 part`, ` -0 all` with its empty ID, and `UTC 0 ` with a space behind
plain : parse_line (85 ∷ 84 ∷ 67 ∷ 32 ∷ 48 ∷ []) ≡ Some (3, pos 0, Plain)
unfolding parse_line ticks digits behind_digits marked ticks_of equal index_of index_after
plain = refl

part : parse_line (71 ∷ 77 ∷ 84 ∷ 32 ∷ 48 ∷ 32 ∷ 112 ∷ 97 ∷ 114 ∷ 116 ∷ []) ≡ Some (3, pos 0, Part)
unfolding parse_line ticks digits behind_digits marked ticks_of equal index_of index_after
part = refl

all-of-it : parse_line (32 ∷ 45 ∷ 48 ∷ 32 ∷ 97 ∷ 108 ∷ 108 ∷ []) ≡ Some (0, pos 0, All)
unfolding parse_line ticks digits behind_digits marked ticks_of equal index_of index_after
all-of-it = refl

space-behind : parse_line (85 ∷ 84 ∷ 67 ∷ 32 ∷ 48 ∷ 32 ∷ []) ≡ None
unfolding parse_line ticks digits behind_digits marked ticks_of equal index_of index_after
space-behind = refl

-- nineteen nines are past 64 bits, twenty zeros aren't understood
nine : List ℕ → List ℕ
nine s = 57 ∷ 57 ∷ 57 ∷ 57 ∷ 57 ∷ 57 ∷ 57 ∷ 57 ∷ 57 ∷ s

past : parse_line (65 ∷ 32 ∷ 45 ∷ nine (nine (57 ∷ []))) ≡ Some (1, pos 9223372036854775807, Plain)
unfolding parse_line ticks digits behind_digits marked ticks_of equal index_of index_after nine
past = refl

twenty : parse_line (65 ∷ 32 ∷ nine (nine (48 ∷ 48 ∷ []))) ≡ None
unfolding parse_line ticks digits behind_digits marked ticks_of equal index_of index_after nine
twenty = refl

-- `0 0 0 0 UTC`, `12 17`, and an offset of -75 seconds without savings and name
answer : answer_line (pos 0) (pos 0) (pos 0) (85 ∷ 84 ∷ 67 ∷ []) ≡ 48 ∷ 32 ∷ 48 ∷ 32 ∷ 48 ∷ 32 ∷ 48 ∷ 32 ∷ 85 ∷ 84 ∷ 67 ∷ 10 ∷ []
unfolding answer_line signed decimal decimal_in
answer = refl

refusal : refusal_line 12 17 ≡ 49 ∷ 50 ∷ 32 ∷ 49 ∷ 55 ∷ 10 ∷ []
unfolding refusal_line decimal decimal_in
refusal = refl

no_name : answer_line (negsuc 74999) (pos 0) (negsuc 74999) []
    ≡ 48 ∷ 32 ∷ 45 ∷ 55 ∷ 53 ∷ 48 ∷ 48 ∷ 48 ∷ 32 ∷ 48 ∷ 32 ∷ 45 ∷ 55 ∷ 53 ∷ 48 ∷ 48 ∷ 48 ∷ 32 ∷ 10 ∷ []
unfolding answer_line signed decimal decimal_in
no_name = refl

-- an empty line, and a last one without line feed; the same in blocks that cut the lines
split : lines_of (65 ∷ 10 ∷ 10 ∷ 66 ∷ 67 ∷ []) ≡ (65 ∷ []) ∷ [] ∷ (66 ∷ 67 ∷ []) ∷ []
unfolding lines_from last_line
split = refl

cut : lines_in_blocks 2049 ((65 ∷ []) ∷ [] ∷ (10 ∷ 10 ∷ 66 ∷ []) ∷ (67 ∷ []) ∷ []) [] ≡ (65 ∷ []) ∷ [] ∷ (66 ∷ 67 ∷ []) ∷ []
unfolding lines_in_blocks block_lines last_line index_of index_after
cut = refl

-- nothing behind the last line feed is no line
ended : lines_of (65 ∷ 10 ∷ []) ≡ (65 ∷ []) ∷ []
unfolding lines_from last_line
ended = refl
