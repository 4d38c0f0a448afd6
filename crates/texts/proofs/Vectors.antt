-- Worked examples of UTF-8 and of texts. Assumes nothing.
use Rattle.std.specs.Prelude.{Err, Ok}
use Rattle.base.specs.declared.Refusal.TheVariants.{BadCode, BadData, BadText, TooLarge}
use mathlib.Core.Path.{◌≡◌, refl}
use mathlib.Core.List.{[], ◌∷◌, map}
use mathlib.Core.Bool.{true, false}
use Rattle.base.specs.Writing.{bytes}
use Rattle.counts.specs.Groups.{read_groups, write_groups}
use Rattle.utf8.specs.Utf8.{chars, utf8}
use Rattle.utf8.specs.CodePoints.{encode}
use Rattle.texts.specs.Text.{text_sized, read_text, text_bytes, text_form}

-- U+20AC; an overlong slash; a surrogate; U+10FFFF; one past it; a lone tail byte; a cut character
pub is-utf8 :
    map utf8 ((0xe2 ∷ 0x82 ∷ 0xac ∷ []) ∷ (0xc0 ∷ 0xaf ∷ []) ∷ (0xed ∷ 0xa0 ∷ 0x80 ∷ []) ∷ (0xf4 ∷ 0x8f ∷ 0xbf ∷ 0xbf ∷ []) ∷ (0xf4 ∷ 0x90 ∷ 0x80 ∷ 0x80 ∷ []) ∷ (0x80 ∷ []) ∷ (0xe2 ∷ 0x82 ∷ []) ∷ [])
    ≡ true ∷ false ∷ false ∷ true ∷ false ∷ false ∷ false ∷ []
unfolding chars
is-utf8 = refl

-- RFC 3629, section 7: U+0041, U+2262, U+0391, U+D55C, U+233B4
pub encodes :
    map encode (0x41 ∷ 0x2262 ∷ 0x391 ∷ 0xd55c ∷ 0x233b4 ∷ [])
    ≡ (0x41 ∷ []) ∷ (0xe2 ∷ 0x89 ∷ 0xa2 ∷ []) ∷ (0xce ∷ 0x91 ∷ []) ∷ (0xed ∷ 0x95 ∷ 0x9c ∷ []) ∷ (0xf0 ∷ 0xa3 ∷ 0x8e ∷ 0xb4 ∷ []) ∷ []
unfolding encode
encodes = refl

-- 03 "UTC" before a byte more; cut; not UTF-8; a length of 1025; a padded length; none
pub reads :
    map read_text ((3 ∷ 85 ∷ 84 ∷ 67 ∷ 9 ∷ []) ∷ (3 ∷ 85 ∷ 84 ∷ []) ∷ (1 ∷ 0xff ∷ []) ∷ (0x81 ∷ 8 ∷ []) ∷ (0x80 ∷ 0 ∷ []) ∷ [] ∷ [])
    ≡ Ok (1, 3) ∷ Err BadData ∷ Err BadText ∷ Err TooLarge ∷ Err BadCode ∷ Err BadData ∷ []
unfolding chars text_sized read_groups
reads = refl

pub part : text_bytes (3 ∷ 85 ∷ 84 ∷ 67 ∷ 9 ∷ []) ≡ 85 ∷ 84 ∷ 67 ∷ []
unfolding chars text_sized read_groups
part = refl

pub writes : text_form (85 ∷ 84 ∷ 67 ∷ []) ≡ bytes (3 ∷ 85 ∷ 84 ∷ 67 ∷ [])
unfolding chars write_groups
writes = refl
