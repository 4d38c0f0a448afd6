-- The lines of the input, and the lines as a reader of blocks gathers them. `lines_of` is to be believed; the blocks are the code's way, tied to it by `lines-in-blocks` (proofs/SplitLaws.antt).
use Rattle.std.specs.Prelude.{ℕ, zero, suc, ◌+◌, ◌≡◌, List, [], ◌∷◌, ◌++◌, ltb, eqb, length, take, drop}
use Rattle.byte_search.specs.Bytes.{index_of}
use Rattle.base.specs.Pick.{pick}
use Rattle.lines.specs.declared.Gathered.{Gathered}
use Rattle.lines.specs.declared.Gathered.TheVariants.{Whole, Begun}

-- a last line without line feed is a line; nothing behind the last line feed is none
unfoldable pub last_line : List ℕ → List (List ℕ)
last_line [] = []
last_line (b ∷ r) = (b ∷ r) ∷ []

-- the lines of s, each without its line feed, where the bytes `begun` of the first were read before
unfoldable pub lines_from : List ℕ → List ℕ → List (List ℕ)
lines_from begun [] = last_line begun
lines_from begun (b ∷ r) = pick (eqb b 10) (begun ∷ lines_from [] r) (lines_from (begun ++ b ∷ []) r)

abbrev pub lines_of : List ℕ → List (List ℕ)
lines_of s = lines_from [] s

-- what a memory of c bytes keeps of a line: of one above 2,048 bytes the first 2,049 tell as much as all (`parse-kept`)
abbrev pub kept : ℕ → List ℕ → List ℕ → List ℕ
kept c begun s = take c (begun ++ s)

-- the memory d whose first bytes are the line, xs
abbrev pub stored : List ℕ → List ℕ → List ℕ
stored xs d = xs ++ drop (length xs) d

-- the bytes of s that belong to its first line
abbrev pub first_of : List ℕ → List ℕ
first_of s = take (index_of 10 s) s

-- of the line that s begins with, n bytes are kept: it is whole, and took its line feed too, or s ends in it
abbrev pub gathered : ℕ → List ℕ → Gathered
gathered n s = pick (ltb (index_of 10 s) (length s)) (Whole n (index_of 10 s + 1)) (Begun n)

-- the result r, and what the memory d holds then, e, where its first n bytes were held: after the bytes s, and after the first line of s
abbrev pub Keeps : List ℕ → ℕ → List ℕ → ℕ → List ℕ → Type 0
Keeps d n s r e = (r ≡ length (kept (length d) (take n d) s)) × (e ≡ stored (kept (length d) (take n d) s) d)

abbrev pub Gathers : List ℕ → ℕ → List ℕ → Gathered → List ℕ → Type 0
Gathers d n s r e =
    (r ≡ gathered (length (kept (length d) (take n d) (first_of s))) s) × (e ≡ stored (kept (length d) (take n d) (first_of s)) d)

-- Reading in blocks with a memory of c bytes, where `begun` is held: the lines of what is left of a block, s, one a turn, and then
-- those of the later blocks, `later`, behind what is held. A block of n bytes takes at most n + 1 turns
unfoldable pub block_lines : ℕ → ℕ → (List ℕ → List (List ℕ)) → List ℕ → List ℕ → List (List ℕ)
block_lines zero c later begun s = later begun
block_lines (suc n) c later begun s =
    pick (ltb (index_of 10 s) (length s))
    (kept c begun (first_of s) ∷ block_lines n c later [] (drop (index_of 10 s + 1) s))
    (later (kept c begun (first_of s)))

unfoldable pub lines_in_blocks : ℕ → List (List ℕ) → List ℕ → List (List ℕ)
lines_in_blocks c [] begun = last_line begun
lines_in_blocks c (s ∷ blocks) begun = block_lines (suc (length s)) c (lines_in_blocks c blocks) begun s
