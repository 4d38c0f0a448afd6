-- The question lines of the program: "ID (up to the first space), space, ticks (an optional minus and 1 to 19 digits, 14 if past 64
-- bits), and optionally a space and `part` or `all`"; "a line above 2,048 bytes gives 16". A line stands without its line feed.
-- To be believed.
use Rattle.lines.specs.declared.Kind.{Kind}
use Rattle.std.specs.declared.option.Option.{Option}
use Rattle.std.specs.declared.option.Option.TheVariants.{None, Some}
use Rattle.std.specs.Prelude.{ℕ, zero, suc, ◌+◌, ◌*◌, ◌-◌, ◌^◌, Bool, true, false, List, [], ◌∷◌, ltb, leb, eqb, ℤ, pos, negsuc, length, drop}
use Rattle.byte_search.specs.Bytes.{index_of}
use Rattle.base.specs.Pick.{pick, both}
use Rattle.base.specs.Equal.{equal}
use Rattle.answer_lines.specs.Decimal.{digit}
use Rattle.lines.specs.declared.Kind.TheVariants.{Plain, Part, All}

-- "14 if past 64 bits": the largest tick stands for every number past 64 bits, since it lies outside years 1 to 9999 and so gets 14
abbrev pub past_range : ℤ
past_range = pos 9223372036854775807

-- the number v, behind a minus or not
unfoldable pub ticks_of : Bool → ℕ → ℤ
ticks_of false v = pick (ltb v (2 ^ 63)) (pos v) past_range
ticks_of true zero = pos 0
ticks_of true (suc v) = pick (ltb v (2 ^ 63)) (negsuc v) past_range

-- "and optionally a space and `part` or `all`", behind an ID of n bytes and the ticks t
unfoldable pub marked : ℕ → ℤ → List ℕ → Option (ℕ × ℤ × Kind)
marked n t s =
    pick (equal s []) (Some (n, t, Plain))
    (pick (equal s (32 ∷ 112 ∷ 97 ∷ 114 ∷ 116 ∷ [])) (Some (n, t, Part))
    (pick (equal s (32 ∷ 97 ∷ 108 ∷ 108 ∷ [])) (Some (n, t, All))
    None))

-- "1 to 19 digits": the i digits so far make v. A twentieth is no mark, so it isn't understood
unfoldable pub behind_digits : ℕ → Bool → ℕ → ℕ → List ℕ → Option (ℕ × ℤ × Kind)
behind_digits n minus zero v s = None
behind_digits n minus (suc i) v s = marked n (ticks_of minus v) s

unfoldable pub digits : ℕ → Bool → ℕ → ℕ → List ℕ → Option (ℕ × ℤ × Kind)
digits n minus i v [] = behind_digits n minus i v []
digits n minus i v (b ∷ r) =
    pick (both (ltb i 19) (digit b)) (digits n minus (suc i) (10 * v + (b - 48)) r) (behind_digits n minus i v (b ∷ r))

-- "an optional minus"
unfoldable pub ticks : ℕ → List ℕ → Option (ℕ × ℤ × Kind)
ticks n [] = None
ticks n (b ∷ r) = pick (eqb b 45) (digits n true 0 0 r) (digits n false 0 0 (b ∷ r))

-- "ID (up to the first space), space": an ID of n bytes, which may be none
abbrev pub behind_id : ℕ → List ℕ → Option (ℕ × ℤ × Kind)
behind_id n s = pick (ltb n (length s)) (ticks n (drop (n + 1) s)) None

-- "a line above 2,048 bytes gives 16"
unfoldable pub parse_line : List ℕ → Option (ℕ × ℤ × Kind)
parse_line s = pick (leb (length s) 2048) (behind_id (index_of 32 s) s) None
