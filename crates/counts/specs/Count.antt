-- The count. To be believed.
use Rattle.base.specs.Coded.{Coded}
use Rattle.base.specs.declared.Refusal.TheVariants.{BadCode}
use Rattle.std.specs.Prelude.{ℕ, List, leb}
use Rattle.base.specs.Pick.{pick}
use Rattle.base.specs.Writing.{Form, bytes, unfit}
use Rattle.counts.specs.Groups.{read_groups, write_groups}

-- "Count: 0 to 2147483647 .. the largest is FF FF FF FF 07": five groups, the last at most 7
abbrev pub read_count : List ℕ → Coded ℕ
read_count s = read_groups 4 7 s

abbrev pub write_count : ℕ → List ℕ
write_count v = write_groups 4 v

-- "writing, 7 for a number the code can't carry"
abbrev pub count_form : ℕ → Form
count_form v = pick (leb v 2147483647) (bytes (write_count v)) (unfit BadCode)
