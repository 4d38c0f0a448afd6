-- No code is longer than 1,029 bytes, so that its length fits a result. Assumes nothing.
use Rattle.base.specs.declared.Refusal.{Refusal}
use Rattle.base.specs.declared.Refusal.TheVariants.{BadCode, BadText}
use mathlib.Core.Bool.{Bool}
use mathlib.Core.List.{List}
use Prim.Native.Nat.{ℕ, ◌/◌, ◌%◌, ◌≤◌}
use native.Mathlib.Omega.{arith}
use lib.IntN.{ℤ, pos, negsuc}
use lib.ListN.{length, length-append}
use lib.Dec.{leb, ltb, eqb}
use borrow.Author.Tests.{ltb-false}
use Rattle.base.specs.Pick.{pick}
use Rattle.base.specs.Moment.{start_of_time, end_of_time}
use Rattle.base.specs.Writing.{Form, bytes, unfit, wrote}
use Rattle.base.proofs.Tests.{pick-holds}
use Rattle.signed.specs.Instant.{raw_of}
use Rattle.signed.specs.Zigzag.{zigzag_of}
use Rattle.signed.specs.OffsetSum.{sum_of}
use Rattle.counts.specs.Count.{write_count}
use Rattle.counts.specs.SignedCount.{signed_count_form}
use Rattle.counts.proofs.CountLaws.{count-size}
use Rattle.counts.proofs.FixedLaws.{length-fixed}
use Rattle.offsets.specs.Offset.{in_day, write_sum, offset_form}
use Rattle.transitions.specs.Transition.{count_to, is_moment, write_moment, moment_form}
use Rattle.utf8.specs.Utf8.{utf8}
use Rattle.texts.specs.Text.{write_text, text_form}
use Rattle.replies.specs.Small.{SmallWrote}
use Rattle.replies.specs.Functions.{integer_form}

abbrev FormTo : Form → Type 0
FormTo (bytes xs) = length xs ≤ 1029
FormTo (unfit n) = Unit {0}

pub record SmallForm (x : Form) : Type 0 where
  pub to : FormTo x

pub wrote-small : (x : Form) (d : List ℕ) → SmallForm x → SmallWrote (wrote x d)
unfolding wrote
wrote-small (bytes xs) d h = pick-holds SmallWrote (leb (length xs) (length d)) (λ e. record { to = omega (arith, h.to) }) (λ e. record { to = tt })
wrote-small (unfit n) d h = record { to = tt }

abbrev Short : List ℕ → Type 0
Short xs = length xs ≤ 9

count-short : (v : ℕ) → Short (write_count v)
count-short v = omega (arith, (count-size v).most)

carried : (t : Bool) (xs : List ℕ) (n : Refusal) → length xs ≤ 1029 → SmallForm (pick t (bytes xs) (unfit n))
carried t xs n l = pick-holds SmallForm t (λ e. record { to = l }) (λ e. record { to = tt })

pub integer-small : (z : ℤ) → SmallForm (integer_form z)
integer-small (pos n) = carried (leb n 2147483647) (write_count n) BadCode (omega (arith, count-short n))
integer-small (negsuc n) = record { to = tt }

pub signed-small : (z : ℤ) → SmallForm (signed_count_form z)
signed-small z = carried (leb (zigzag_of z) 4294967295) (write_count (zigzag_of z)) BadCode (omega (arith, count-short (zigzag_of z)))

sum-short : (sum : ℕ) → Short (write_sum sum)
unfolding write_sum
sum-short sum =
    pick-holds Short (eqb (sum % 1800000) 0) (λ e. omega arith)
    (λ e. pick-holds Short (eqb (sum % 60000) 0) (λ e. omega (arith, length-fixed 1 (sum / 60000)))
    (λ e. pick-holds Short (eqb (sum % 1000) 0) (λ e. omega (arith, length-fixed 2 (sum / 1000))) (λ e. omega (arith, length-fixed 3 sum))))

pub offset-short : (z : ℤ) → SmallForm (offset_form z)
offset-short z = carried (in_day (sum_of z)) (write_sum (sum_of z)) BadCode (omega (arith, sum-short (sum_of z)))

moment-short : (p m : ℕ) → Short (write_moment p m)
unfolding write_moment
moment-short p m =
    pick-holds Short (eqb m start_of_time) (λ e. count-short 0)
    (λ e. pick-holds Short (eqb m end_of_time) (λ e. count-short 1)
    (λ e. pick-holds Short (eqb (count_to p m) 0) (λ e. omega (arith, length-fixed 8 (raw_of m))) (λ e. count-short (count_to p m))))

pub moment-form : (p m : ℕ) → SmallForm (moment_form p m)
moment-form p m = carried (is_moment m) (write_moment p m) BadCode (omega (arith, moment-short p m))

pub text-form : (t : List ℕ) → SmallForm (text_form t)
text-form t =
    pick-holds SmallForm (ltb 1024 (length t)) (λ e. record { to = tt })
    (λ e. carried (utf8 t) (write_text t) BadText (simp length-append (omega (arith, ltb-false 1024 (length t) e, (count-size (length t)).most))))
