-- The sum of a tick and a wall offset, as integers and as the numbers used inside. Assumes nothing.
use mathlib.Core.Path.{◌≡◌, sym, ap, ◌∙◌}
use Prim.Native.Nat.{ℕ, ◌+◌, ◌*◌, ◌<◌}
use native.Mathlib.Omega.{arith}
use lib.IntN.{ℤ, sub_ℕ}
use Rattle.base.specs.Moment.{Finite, epoch}
use Rattle.signed.specs.Instant.{biased_of, ticks_of}
use Rattle.signed.specs.OffsetSum.{milliseconds_of}
use Rattle.signed.proofs.IntegerLaws.{biased-back, back-biased}
use Rattle.signed.proofs.OrderLaws.{sub-add, sub-times}
use Rattle.signed.proofs.TickLaws.{ticks-plain}
use Rattle.wall_times.specs.WallTime.{local_time}
use Rattle.wall_times.specs.View.{local_of}

-- the sum of an instant and an offset
sum_is : (t w : ℕ) → Finite t → local_time (ticks_of t) (milliseconds_of w) ≡ sub_ℕ (t + w * 10000) 747584640000000000
sum_is t w f =
    rw (ticks-plain t (omega (arith, f.low)) (omega (arith, f.high)), sub-times w 86400000) (sub-add t epoch (w * 10000) 864000000000)

-- the integers' sum is the local time exactly where the numbers' sum is its number
pub reads-number : (t w : ℕ) (z : ℤ) → Finite t → t + w * 10000 ≡ local_of z → local_time (ticks_of t) (milliseconds_of w) ≡ z
reads-number t w z f e =
    sum_is t w f ∙ ap (λ (n : ℕ). sub_ℕ n 747584640000000000) e
    ∙ back-biased 747584640000000000 621356831999999999 2534023871999999999 (omega arith) z (omega (arith, f.low))

pub number-reads : (t w : ℕ) (z : ℤ) → Finite t → w < 172800000 → local_time (ticks_of t) (milliseconds_of w) ≡ z → t + w * 10000 ≡ local_of z
number-reads t w z f h e =
    sym (ap (biased_of 747584640000000000 621356831999999999 2534023871999999999) (sym e ∙ sum_is t w f)
    ∙ biased-back 747584640000000000 621356831999999999 2534023871999999999 (omega arith) (t + w * 10000) (omega (arith, f.low)) (omega (arith, f.high)))
