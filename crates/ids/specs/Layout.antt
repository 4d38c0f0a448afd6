-- How an array of numbers holds a list: the main list stands from the place 257 on; the numbers that were put among them since, the
-- buffer, from 0 on; for each of these how many of the main list come before it, from 128 on; and at 256 how many are in the buffer.
-- The code's way: internal functions alone use it.
use Rattle.std.specs.Prelude.{ℕ, zero, suc, ◌+◌, ◌-◌, ◌≤◌, ◌<◌, List, get_or, ltb, eqb}
use Rattle.base.specs.Pick.{pick}

-- the number at the place i of the main list
abbrev pub main_number : List ℕ → ℕ → ℕ
main_number od i = get_or od (257 + i) 0

-- the number at the place j of the buffer
unfoldable pub buffered : List ℕ → ℕ → ℕ
buffered od j = get_or od j 0

-- how many of the main list come before it
unfoldable pub ahead : List ℕ → ℕ → ℕ
ahead od j = get_or od (128 + j) 0

abbrev pub buffer_size : List ℕ → ℕ
buffer_size od = get_or od 256 0

-- the number at the place i of the main list with the first b of the buffer among it: the last of these stands behind as many as are ahead
-- of it, and the b - 1 others
unfoldable pub number_in : List ℕ → ℕ → ℕ → ℕ
number_in od zero i = main_number od i
number_in od (suc b) i = pick (ltb i (ahead od b + b)) (number_in od b i) (pick (eqb i (ahead od b + b)) (buffered od b) (main_number od (i - suc b)))

-- the number at the place i of the list
abbrev pub number_at : List ℕ → ℕ → ℕ
number_at od i = number_in od (buffer_size od) i

-- b numbers of the buffer stand in order, among n in all
pub record Placed (od : List ℕ) (n b : ℕ) : Type 0 where
  pub few : b ≤ 128
  pub inside : b ≤ n
  pub fits : (j : ℕ) → j < b → ahead od j + b ≤ n
  pub rising : (i j : ℕ) → i ≤ j → j < b → ahead od i ≤ ahead od j

-- a number belongs behind i of the main list and j of the buffer
pub record Fits (od : List ℕ) (n i j : ℕ) : Type 0 where
  pub few : j ≤ buffer_size od
  pub inside : i + buffer_size od ≤ n
  pub below : (t : ℕ) → t < j → ahead od t ≤ i
  pub above : (t : ℕ) → j ≤ t → t < buffer_size od → i ≤ ahead od t

-- the places of the main list between the number before the place j of the buffer and the number there
unfoldable pub low_of : List ℕ → ℕ → ℕ
low_of od zero = 0
low_of od (suc j) = ahead od j

unfoldable pub high_of : List ℕ → ℕ → ℕ → ℕ → ℕ
high_of od m b j = pick (eqb j b) m (ahead od j)
