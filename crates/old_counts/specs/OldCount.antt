-- The older edition's count, as document 002 gives it: "a non-negative (typically small) int32 value". To be believed.
use Rattle.base.specs.Coded.{Coded}
use Rattle.base.specs.declared.Refusal.TheVariants.{BadCode, BadData}
use Rattle.std.specs.Prelude.{ℕ, ◌+◌, ◌-◌, List, [], ◌∷◌, ltb, leb, Err, Ok}
use Rattle.base.specs.Pick.{pick, both}
use Rattle.base.specs.Writing.{Form, bytes, unfit}
use Rattle.counts.specs.Fixed.{read_fixed, prefixed}

-- a number behind a prefix, in a form whose values start at first
abbrev pub value_from : ℕ → Coded ℕ → Coded ℕ
value_from first (Ok (v, n)) = Ok (first + v, n + 1)
value_from first (Err k) = Err k

-- "Larger values are serialised as five bytes"; a smaller one, which has a shorter form, and a negative int32 are 7
abbrev pub largest : Coded ℕ → Coded ℕ
largest (Ok (v, n)) = pick (both (leb 0x1020408f v) (leb v 0x7fffffff)) (Ok (v, n + 1)) (Err BadCode)
largest (Err k) = Err k

-- "values to 0x0e are serialised as 0xf0..0xfe, while 0x0f..0x8e is serialised as 0x00..0x7f"; "0x8f..0x408e .. the byte 0x80..0xbf for the
-- MSB, followed by the LSB"; "0x408f..0x20408e .. 0xc0..0xdf"; "0x20408f..0x1020408e .. 0xe0000000–0xefffffff"; "the leader 0xff
-- followed by the value as a fixed32". Every first byte has a form: bytes that end early give 9.
unfoldable pub read_old_count : List ℕ → Coded ℕ
read_old_count [] = Err BadData
read_old_count (b ∷ s) =
    pick (ltb b 0x80) (value_from 0x0f (read_fixed 0 b s))
    (pick (ltb b 0xc0) (value_from 0x8f (read_fixed 1 (b - 0x80) s))
    (pick (ltb b 0xe0) (value_from 0x408f (read_fixed 2 (b - 0xc0) s))
    (pick (ltb b 0xf0) (value_from 0x20408f (read_fixed 3 (b - 0xe0) s))
    (pick (ltb b 0xff) (value_from 0 (read_fixed 0 (b - 0xf0) s)) (largest (read_fixed 4 0 s))))))

-- "by subtracting 0x8f and then encoding the resulting .. value"
unfoldable pub write_old_count : ℕ → List ℕ
write_old_count v =
    pick (ltb v 0x0f) (prefixed 0 0xf0 v)
    (pick (ltb v 0x8f) (prefixed 0 0x00 (v - 0x0f))
    (pick (ltb v 0x408f) (prefixed 1 0x80 (v - 0x8f))
    (pick (ltb v 0x20408f) (prefixed 2 0xc0 (v - 0x408f))
    (pick (ltb v 0x1020408f) (prefixed 3 0xe0 (v - 0x20408f)) (prefixed 4 0xff v)))))

-- "writing, 7 for a number the code can't carry"
abbrev pub old_count_form : ℕ → Form
old_count_form v = pick (leb v 2147483647) (bytes (write_old_count v)) (unfit BadCode)
