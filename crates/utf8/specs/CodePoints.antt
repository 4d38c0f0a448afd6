-- UTF-8 as the encoding of code points (RFC 3629, section 3). To be believed.
use Rattle.std.specs.Prelude.{ℕ, ◌+◌, ◌/◌, ◌%◌, ◌≡◌, List, [], ◌∷◌, ◌++◌, Bool, true, ltb, leb}
use Rattle.base.specs.Pick.{pick, both}

-- U+0000 to U+10FFFF without the surrogates, U+D800 to U+DFFF
abbrev pub scalar : ℕ → Bool
scalar c = pick (ltb c 0xd800) true (both (leb 0xe000 c) (leb c 0x10ffff))

-- the bytes of a code point, six bits in each byte behind the first
unfoldable pub encode : ℕ → List ℕ
encode c =
    pick (ltb c 0x80) (c ∷ [])
    (pick (ltb c 0x800) ((0xc0 + c / 64) ∷ (0x80 + c % 64) ∷ [])
    (pick (ltb c 0x10000) ((0xe0 + c / 64 / 64) ∷ (0x80 + c / 64 % 64) ∷ (0x80 + c % 64) ∷ [])
    ((0xf0 + c / 64 / 64 / 64) ∷ (0x80 + c / 64 / 64 % 64) ∷ (0x80 + c / 64 % 64) ∷ (0x80 + c % 64) ∷ [])))

unfoldable pub encode_all : List ℕ → List ℕ
encode_all [] = []
encode_all (c ∷ cs) = encode c ++ encode_all cs

unfoldable pub scalars : List ℕ → Bool
scalars [] = true
scalars (c ∷ cs) = both (scalar c) (scalars cs)

-- s is the encoding of code points that are no surrogates
pub record Encoded (s : List ℕ) : Type 0 where
  pub points : List ℕ
  pub right : scalars points ≡ true
  pub are : s ≡ encode_all points
