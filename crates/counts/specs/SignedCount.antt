-- The signed count. To be believed.
use Rattle.base.specs.Coded.{Coded}
use Rattle.base.specs.declared.Refusal.TheVariants.{BadCode}
use Rattle.std.specs.Prelude.{ℕ, List, leb, ℤ}
use Rattle.base.specs.Pick.{pick}
use Rattle.base.specs.Writing.{Form, bytes, unfit}
use Rattle.signed.specs.Number.{number}
use Rattle.signed.specs.Zigzag.{zigzag_of, unzigzag_of}
use Rattle.counts.specs.Groups.{read_groups, write_groups}

-- "over all 32-bit values. -2147483648 is FF FF FF FF 0F": five groups, the last at most 15; the number that stands in the file
abbrev pub read_zigzag : List ℕ → Coded ℕ
read_zigzag s = read_groups 4 15 s

-- "0, -1, 1, -2 map to 0, 1, 2, 3 and so on": the value
abbrev pub read_signed_count : List ℕ → Coded ℤ
read_signed_count s = number unzigzag_of (read_zigzag s)

abbrev pub write_signed_count : ℤ → List ℕ
write_signed_count z = write_groups 4 (zigzag_of z)

-- "writing, 7 for a number the code can't carry"
abbrev pub signed_count_form : ℤ → Form
signed_count_form z = pick (leb (zigzag_of z) 4294967295) (bytes (write_signed_count z)) (unfit BadCode)
