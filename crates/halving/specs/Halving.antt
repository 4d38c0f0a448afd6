-- Ask 14, halving a lent table. To be believed.
use Rattle.base.specs.declared.Refusal.TheVariants.{NotFound}
use Rattle.base.specs.Coded.{Fault}
use Rattle.std.specs.Prelude.{ℕ, zero, suc, ◌+◌, ◌-◌, ◌/◌, List, ltb, eqb, ℤ, pos, length, get_or, Err, Ok, Result}
use Rattle.std.specs.Int.Signed.{le_z}
use Rattle.base.specs.Pick.{pick}

-- The entries left are the n from low on, k were looked at. "while more than one entry is left, look at the entry half its length in, rounded
-- down, and keep it and what follows if it isn't after the instant, else what comes before". The first number bounds the looks; a look leaves
-- fewer entries, so a bound of n is none (halve-more in proofs/StepLaws.antt).
unfoldable pub halve : ℕ → List ℤ → ℤ → ℕ → ℕ → ℕ → Result (ℕ × ℕ) Fault
halve zero xs z low n k = Ok (low, k)
halve (suc m) xs z low n k =
    pick (ltb 1 n)
    (pick (le_z (get_or xs (low + n / 2) (pos 0)) z) (halve m xs z (low + n / 2) (n - n / 2) (k + 1)) (halve m xs z low (n / 2) (k + 1)))
    (Ok (low, k))

-- "The count of looks given is that of this rule", "the number, from 0, of the entry left is given too", "an empty table 12", whose place is 0
unfoldable pub find_start : List ℤ → ℤ → Result (ℕ × ℕ) Fault
find_start xs z = pick (eqb (length xs) 0) (Err (NotFound, 0)) (halve (length xs) xs z 0 (length xs) 0)
