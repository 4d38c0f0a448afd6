-- Worked examples of the older count: the ends of each form, and what is refused. Assumes nothing.
use Rattle.std.specs.Prelude.{Err, Ok}
use Rattle.base.specs.declared.Refusal.TheVariants.{BadCode, BadData}
use mathlib.Core.Path.{◌≡◌, refl}
use mathlib.Core.List.{[], ◌∷◌, map}
use Rattle.base.specs.Writing.{bytes, unfit}
use Rattle.counts.specs.Fixed.{fixed_from, fixed_bytes}
use Rattle.old_counts.specs.OldCount.{read_old_count, write_old_count, old_count_form}

pub reads :
    map read_old_count
    ((0xf0 ∷ []) ∷ (0xfe ∷ []) ∷ (0x00 ∷ 7 ∷ []) ∷ (0x7f ∷ []) ∷ (0x80 ∷ 0x00 ∷ []) ∷ (0xbf ∷ 0xff ∷ []) ∷ (0xc0 ∷ 0x00 ∷ 0x00 ∷ [])
    ∷ (0xdf ∷ 0xff ∷ 0xff ∷ []) ∷ (0xe0 ∷ 0x00 ∷ 0x00 ∷ 0x00 ∷ []) ∷ (0xef ∷ 0xff ∷ 0xff ∷ 0xff ∷ []) ∷ [])
    ≡ Ok (0, 1) ∷ Ok (0x0e, 1) ∷ Ok (0x0f, 1) ∷ Ok (0x8e, 1) ∷ Ok (0x8f, 2) ∷ Ok (0x408e, 2) ∷ Ok (0x408f, 3) ∷ Ok (0x20408e, 3) ∷ Ok (0x20408f, 4) ∷ Ok (0x1020408e, 4) ∷ []
unfolding read_old_count fixed_from
reads = refl

-- in five bytes the first and the last, one below and one above; cut, and none
pub reads-largest :
    map read_old_count
    ((0xff ∷ 0x10 ∷ 0x20 ∷ 0x40 ∷ 0x8f ∷ []) ∷ (0xff ∷ 0x7f ∷ 0xff ∷ 0xff ∷ 0xff ∷ []) ∷ (0xff ∷ 0x10 ∷ 0x20 ∷ 0x40 ∷ 0x8e ∷ []) ∷ (0xff ∷ 0x80 ∷ 0x00 ∷ 0x00 ∷ 0x00 ∷ [])
    ∷ (0xff ∷ 0x80 ∷ []) ∷ (0x80 ∷ []) ∷ [] ∷ [])
    ≡ Ok (0x1020408f, 5) ∷ Ok (0x7fffffff, 5) ∷ Err BadCode ∷ Err BadCode ∷ Err BadData ∷ Err BadData ∷ Err BadData ∷ []
unfolding read_old_count fixed_from
reads-largest = refl

pub writes :
    map old_count_form (0 ∷ 0x0f ∷ 0x8f ∷ 0x408e ∷ 0x408f ∷ 0x20408f ∷ 0x1020408f ∷ 0x80000000 ∷ [])
    ≡ bytes (0xf0 ∷ []) ∷ bytes (0x00 ∷ []) ∷ bytes (0x80 ∷ 0x00 ∷ []) ∷ bytes (0xbf ∷ 0xff ∷ []) ∷ bytes (0xc0 ∷ 0x00 ∷ 0x00 ∷ [])
    ∷ bytes (0xe0 ∷ 0x00 ∷ 0x00 ∷ 0x00 ∷ []) ∷ bytes (0xff ∷ 0x10 ∷ 0x20 ∷ 0x40 ∷ 0x8f ∷ []) ∷ unfit BadCode ∷ []
unfolding write_old_count fixed_bytes
writes = refl
