-- Signed milliseconds and the offset code's sum. To be believed.
use Rattle.std.specs.Prelude.{ℕ, ℤ}
use Rattle.std.proofs.Math.IntN.{sub_ℕ}
use Rattle.signed.specs.Instant.{biased_of}

-- "add 86,400,000 ms; the sum is 1 to 172,799,999": the sum; 0 for any other offset
abbrev pub sum_of : ℤ → ℕ
sum_of z = biased_of 86400000 86399998 86399999 z

abbrev pub milliseconds_of : ℕ → ℤ
milliseconds_of sum = sub_ℕ sum 86400000
