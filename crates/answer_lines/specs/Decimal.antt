-- Numbers as text. To be believed.
use Rattle.std.specs.Prelude.{ℕ, zero, suc, ◌+◌, ◌*◌, ◌-◌, ◌/◌, ◌%◌, Bool, List, [], ◌∷◌, ◌++◌, ltb, leb, ℤ, pos, negsuc}
use Rattle.base.specs.Pick.{pick, both}

-- an ASCII digit
abbrev pub digit : ℕ → Bool
digit b = both (leb 48 b) (leb b 57)

-- the number that digits make behind v
unfoldable pub number_from : ℕ → List ℕ → ℕ
number_from v [] = v
number_from v (b ∷ r) = number_from (10 * v + (b - 48)) r

-- the digits of n in at most k + 1 places
unfoldable pub decimal_in : ℕ → ℕ → List ℕ
decimal_in zero n = (48 + n % 10) ∷ []
decimal_in (suc k) n = pick (ltb n 10) ((48 + n % 10) ∷ []) (decimal_in k (n / 10) ++ ((48 + n % 10) ∷ []))

-- the digits of n, without leading zeros (n + 1 places suffice)
unfoldable pub decimal : ℕ → List ℕ
decimal n = decimal_in n n

-- a minus before a negative number
unfoldable pub signed : ℤ → List ℕ
signed (pos n) = decimal n
signed (negsuc n) = 45 ∷ decimal (suc n)
