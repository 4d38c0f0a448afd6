-- Worked examples of the older offset, as sums: 86,400,000 is zero. Assumes nothing.
use Rattle.std.specs.Prelude.{Err, Ok}
use Rattle.base.specs.declared.Refusal.TheVariants.{BadCode, BadData}
use mathlib.Core.Path.{◌≡◌, refl}
use mathlib.Core.List.{[], ◌∷◌, map}
use Rattle.base.specs.Writing.{bytes, unfit}
use Rattle.counts.specs.Fixed.{fixed_from, fixed_bytes}
use Rattle.old_offsets.specs.OldOffset.{read_old_sum, write_old_sum, old_sum_form}

-- -23:30, zero, +23:30; -23:59:59, +00:00:01, +23:59:59; -1 ms, the least and the largest
pub reads :
    map read_old_sum
    ((0x10 ∷ []) ∷ (0x3f ∷ 7 ∷ []) ∷ (0x6e ∷ []) ∷ (0x82 ∷ 0xae ∷ 0x80 ∷ []) ∷ (0x84 ∷ 0x00 ∷ 0x00 ∷ []) ∷ (0x85 ∷ 0x51 ∷ 0x7e ∷ [])
    ∷ (0xfd ∷ 0xff ∷ 0xff ∷ 0xff ∷ 0xff ∷ []) ∷ (0xfd ∷ 0xfa ∷ 0xd9 ∷ 0xa4 ∷ 0x01 ∷ []) ∷ (0xfd ∷ 0x05 ∷ 0x26 ∷ 0x5b ∷ 0xff ∷ []) ∷ [])
    ≡ Ok (1800000, 1) ∷ Ok (86400000, 1) ∷ Ok (171000000, 1) ∷ Ok (1000, 3) ∷ Ok (86401000, 3) ∷ Ok (172799000, 3)
    ∷ Ok (86399999, 5) ∷ Ok (1, 5) ∷ Ok (172799999, 5) ∷ []
unfolding read_old_sum fixed_from
reads = refl

-- zero and 30 minutes in three bytes, a second in five; -24 hours and +24 hours, in seconds and in milliseconds; a far one
pub not-preferred :
    map read_old_sum
    ((0x83 ∷ 0xff ∷ 0xff ∷ []) ∷ (0x84 ∷ 0x07 ∷ 0x07 ∷ []) ∷ (0xfd ∷ 0x00 ∷ 0x00 ∷ 0x03 ∷ 0xe8 ∷ []) ∷ (0x82 ∷ 0xae ∷ 0x7f ∷ []) ∷ (0x85 ∷ 0x51 ∷ 0x7f ∷ [])
    ∷ (0xfd ∷ 0x05 ∷ 0x26 ∷ 0x5c ∷ 0x01 ∷ []) ∷ (0xfd ∷ 0x80 ∷ 0x00 ∷ 0x00 ∷ 0x00 ∷ []) ∷ [])
    ≡ Err BadCode ∷ Err BadCode ∷ Err BadCode ∷ Err BadCode ∷ Err BadCode ∷ Err BadCode ∷ Err BadCode ∷ []
unfolding read_old_sum fixed_from
not-preferred = refl

-- first bytes without a form, and codes that are cut
pub first_byte :
    map read_old_sum
    ((0x0f ∷ []) ∷ (0x6f ∷ []) ∷ (0x81 ∷ []) ∷ (0x86 ∷ []) ∷ (0xfc ∷ []) ∷ (0xfe ∷ []) ∷ (0xff ∷ []) ∷ (0x82 ∷ 0x00 ∷ []) ∷ (0xfd ∷ 0x7f ∷ 0xff ∷ []) ∷ [] ∷ [])
    ≡ Err BadCode ∷ Err BadCode ∷ Err BadCode ∷ Err BadCode ∷ Err BadCode ∷ Err BadCode ∷ Err BadCode ∷ Err BadData ∷ Err BadData ∷ Err BadData ∷ []
unfolding read_old_sum fixed_from
first_byte = refl

pub writes :
    map old_sum_form (0 ∷ 1 ∷ 1000 ∷ 1800000 ∷ 86399999 ∷ 86400000 ∷ 86401000 ∷ 172800000 ∷ [])
    ≡ unfit BadCode ∷ bytes (0xfd ∷ 0xfa ∷ 0xd9 ∷ 0xa4 ∷ 0x01 ∷ []) ∷ bytes (0x82 ∷ 0xae ∷ 0x80 ∷ []) ∷ bytes (0x10 ∷ []) ∷ bytes (0xfd ∷ 0xff ∷ 0xff ∷ 0xff ∷ 0xff ∷ [])
    ∷ bytes (0x3f ∷ []) ∷ bytes (0x84 ∷ 0x00 ∷ 0x00 ∷ []) ∷ unfit BadCode ∷ []
unfolding write_old_sum fixed_bytes
writes = refl
