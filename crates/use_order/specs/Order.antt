-- The order of the used pool numbers, and the new number of each. To be believed; `each-once` and `most-used-first` (proofs/OrderLaws.antt) say it
-- without a sort, `new-number` (proofs/NumberLaws.antt) without a table.
use Rattle.std.specs.Prelude.{ℕ, suc, ◌+◌, ◌-◌, ◌*◌, ◌%◌, List, [], ◌∷◌, get_or, set, ltb}
use Rattle.base.specs.Pick.{pick}
use Rattle.sorting.specs.Sort.{sort_of}

-- "count every mention": one use more of k
unfoldable pub mention : ℕ → List ℕ → List ℕ
mention k uses = set uses k (get_or uses k 0 + 1)

-- one for each number in a list
unfoldable pub mention_all : List ℕ → List ℕ → List ℕ
mention_all [] uses = uses
mention_all (k ∷ ks) uses = mention_all ks (mention k uses)

-- of two numbers the one with more uses has the smaller key, and with as many the smaller number
abbrev pub key_of : ℕ → ℕ → ℕ
key_of u k = (4294967295 - u) * 8192 + k

-- "drop unused strings": the keys of the used numbers from k on
unfoldable pub keys_from : ℕ → List ℕ → List ℕ
keys_from k [] = []
keys_from k (u ∷ l) = pick (ltb 0 u) (key_of u k ∷ keys_from (suc k) l) (keys_from (suc k) l)

unfoldable pub numbers_of : List ℕ → List ℕ
numbers_of [] = []
numbers_of (x ∷ l) = x % 8192 ∷ numbers_of l

-- "put the most used first, ties by old place": the used numbers
unfoldable pub order_of : List ℕ → List ℕ
order_of uses = numbers_of (sort_of (keys_from 0 uses))

-- a table of new numbers, by old ones: the numbers in a list get i and those after it
unfoldable pub numbered_from : ℕ → List ℕ → List ℕ → List ℕ
numbered_from i [] table = table
numbered_from i (k ∷ ks) table = numbered_from (suc i) ks (set table k i)

-- the new number of an old one, by a table: "All mentions are renumbered"
abbrev pub new_number : List ℕ → ℕ → ℕ
new_number table k = get_or table k 0
