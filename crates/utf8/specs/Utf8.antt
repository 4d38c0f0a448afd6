-- "UTF-8 is RFC 3629": whether bytes are UTF-8, by the table of its section 4. To be believed; `utf8-encoded` and `encoded-utf8`
-- (proofs/DecodeLaws.antt, proofs/EncodeLaws.antt) say the same by code points.
use Rattle.std.specs.declared.option.Option.{Option}
use Rattle.std.specs.declared.option.Option.TheVariants.{None, Some}
use Rattle.std.specs.Prelude.{ℕ, ◌+◌, ◌-◌, List, [], ◌∷◌, Bool, false, ltb, leb, eqb, take}
use Rattle.base.specs.Pick.{pick}

-- a character's first byte: how many bytes follow it, and the range of the first of them, a line for each line of the table
--   UTF8-1      = %x00-7F
--   UTF8-2      = %xC2-DF UTF8-tail
--   UTF8-3      = %xE0 %xA0-BF UTF8-tail / %xE1-EC 2( UTF8-tail ) / %xED %x80-9F UTF8-tail / %xEE-EF 2( UTF8-tail )
--   UTF8-4      = %xF0 %x90-BF 2( UTF8-tail ) / %xF1-F3 3( UTF8-tail ) / %xF4 %x80-8F 2( UTF8-tail )
abbrev pub lead : ℕ → Option (ℕ × ℕ × ℕ)
lead b =
    pick (ltb b 0x80) (Some (0, 0x80, 0xbf))
    (pick (ltb b 0xc2) None
    (pick (ltb b 0xe0) (Some (1, 0x80, 0xbf))
    (pick (eqb b 0xe0) (Some (2, 0xa0, 0xbf))
    (pick (eqb b 0xed) (Some (2, 0x80, 0x9f))
    (pick (ltb b 0xf0) (Some (2, 0x80, 0xbf))
    (pick (eqb b 0xf0) (Some (3, 0x90, 0xbf))
    (pick (ltb b 0xf4) (Some (3, 0x80, 0xbf))
    (pick (eqb b 0xf4) (Some (3, 0x80, 0x8f)) None))))))))

-- the byte b, where k bytes of a character are still due, the first of them from lo to hi; the others are UTF8-tail = %x80-BF
abbrev pub after : ℕ → ℕ → ℕ → ℕ → Option (ℕ × ℕ × ℕ)
after k lo hi b = pick (eqb k 0) (lead b) (pick (leb lo b) (pick (leb b hi) (Some (k - 1, 0x80, 0xbf)) None) None)

abbrev pub going : Option (ℕ × ℕ × ℕ) → (ℕ → ℕ → ℕ → Bool) → Bool
going (Some (k, lo, hi)) f = f k lo hi
going None f = false

-- the rest of a character, and whole characters behind it
unfoldable pub chars : ℕ → ℕ → ℕ → List ℕ → Bool
chars k lo hi [] = eqb k 0
chars k lo hi (b ∷ s) = going (after k lo hi b) (λ j l h. chars j l h s)

-- UTF8-octets = *( UTF8-char )
abbrev pub utf8 : List ℕ → Bool
utf8 s = chars 0 0x80 0xbf s

-- how many bytes the character at the front of s has, 0 where none stands there
abbrev pub size_by : Option (ℕ × ℕ × ℕ) → List ℕ → ℕ
size_by (Some (k, lo, hi)) s = pick (chars k lo hi (take k s)) (k + 1) 0
size_by None s = 0

unfoldable pub size_of : List ℕ → ℕ
size_of [] = 0
size_of (b ∷ s) = size_by (lead b) s
