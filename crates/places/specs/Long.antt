-- How many bytes the start of an interval takes, told by its first ones. The code's way: what stands there is said by `read_moment`.
use Rattle.std.specs.Prelude.{ℕ, ◌+◌, List, ltb, eqb, get_or}
use Rattle.base.specs.Pick.{pick}

-- nine where it is in ticks, three or four where a count of as many bytes stands there, and else 2
unfoldable pub start_size : List ℕ → ℕ → ℕ
start_size s place =
    pick (eqb (get_or s place 0) 2) 9
    (pick (ltb (get_or s place 0) 128) 2
    (pick (ltb (get_or s (place + 1) 0) 128) 2
    (pick (ltb (get_or s (place + 2) 0) 128) 3
    (pick (ltb (get_or s (place + 3) 0) 128) 4 2))))
