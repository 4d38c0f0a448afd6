-- Worked examples of the older string. Assumes nothing.
use Rattle.std.specs.Prelude.{Err, Ok}
use Rattle.base.specs.declared.Refusal.TheVariants.{BadData, BadText, TooLarge}
use mathlib.Core.Path.{◌≡◌, refl}
use mathlib.Core.List.{[], ◌∷◌, map}
use Rattle.base.specs.Writing.{bytes, unfit}
use Rattle.counts.specs.Fixed.{fixed_from, fixed_bytes}
use Rattle.utf8.specs.Utf8.{chars}
use Rattle.texts.specs.Text.{text_sized}
use Rattle.old_counts.specs.OldCount.{read_old_count, write_old_count}
use Rattle.old_texts.specs.OldText.{read_old_text, old_text_form}

-- f3 "UTC" before a byte more; none; a length of 1025, and of 1024, with nothing behind them; cut before not UTF-8; not UTF-8; no length
pub reads :
    map read_old_text
    ((0xf3 ∷ 85 ∷ 84 ∷ 67 ∷ 9 ∷ []) ∷ (0xf0 ∷ []) ∷ (0x83 ∷ 0x72 ∷ []) ∷ (0x83 ∷ 0x71 ∷ []) ∷ (0xf2 ∷ 0xff ∷ []) ∷ (0xf1 ∷ 0xff ∷ []) ∷ [] ∷ [])
    ≡ Ok (1, 3) ∷ Ok (1, 0) ∷ Err TooLarge ∷ Err BadData ∷ Err BadData ∷ Err BadText ∷ Err BadData ∷ []
unfolding read_old_count fixed_from chars text_sized
reads = refl

pub writes : map old_text_form ((85 ∷ 84 ∷ 67 ∷ []) ∷ [] ∷ (0xff ∷ []) ∷ []) ≡ bytes (0xf3 ∷ 85 ∷ 84 ∷ 67 ∷ []) ∷ bytes (0xf0 ∷ []) ∷ unfit BadText ∷ []
unfolding write_old_count fixed_bytes chars
writes = refl
