-- Bytes below 0x80 alone: a case of UTF-8 that is quick to tell. The code's way, tied to UTF-8 by `ascii-utf8` and `front-ascii` (proofs/AsciiLaws.antt).
use Rattle.std.specs.Prelude.{ℕ, zero, suc, ◌+◌, ◌/◌, List, [], ◌∷◌, Bool, true, false, ltb, length, take, drop}
use Rattle.base.specs.Pick.{pick}

unfoldable pub ascii : List ℕ → Bool
ascii [] = true
ascii (b ∷ s) = pick (ltb b 0x80) (ascii s) false

-- how many bytes at the front of s are ASCII, by blocks: n of 128 bytes and what is left, up to the first that is not all ASCII
unfoldable pub ascii_blocks : ℕ → List ℕ → ℕ
ascii_blocks zero s = pick (ascii s) (length s) 0
ascii_blocks (suc n) s = pick (ascii (take 128 s)) (128 + ascii_blocks n (drop 128 s)) 0

abbrev pub ascii_front : List ℕ → ℕ
ascii_front s = ascii_blocks (length s / 128) s
