-- What the C functions say of a small code, and of a length, a count and a pair. To be believed: what programs in C are told.
use Rattle.base.specs.declared.Refusal.{Refusal}
use Rattle.base.specs.Coded.{Coded, Fault}
use Rattle.base.specs.declared.Refusal.TheVariants.{BadCode}
use Rattle.std.specs.Prelude.{ℕ, Bool, [], ◌∷◌, ℤ, pos, negsuc, eqb, Err, Ok, Result}
use Rattle.base.specs.Pick.{pick}
use Rattle.base.specs.Moment.{start_of_time, end_of_time}
use Rattle.base.specs.Writing.{Form, unfit}
use Rattle.counts.specs.Count.{count_form}
use Rattle.signed.specs.Instant.{instant_of, ticks_of, no_moment, or_none}
use Rattle.replies.specs.Reply.{refusal, of_length, Reply, numbers, refused}

-- "A small code on its own .. gives value and length .. and has place 0"
abbrev pub read_reply : Coded ℕ → Reply
read_reply (Ok (v, n)) = numbers (pos v ∷ pos n ∷ [])
read_reply (Err k) = refused k 0

abbrev pub number_reply : Coded ℤ → Reply
number_reply (Ok (z, n)) = numbers (z ∷ pos n ∷ [])
number_reply (Err k) = refused k 0

-- the place of the text's bytes, and how many they are
abbrev pub text_reply : Result (ℕ × ℕ) Refusal → Reply
text_reply (Ok (a, n)) = numbers (pos a ∷ pos n ∷ [])
text_reply (Err k) = refused k 0

-- a length, or number and place of a refusal
abbrev pub length_result : Result ℕ Fault → ℕ
length_result (Ok n) = of_length n
length_result (Err (k, p)) = refusal k p

-- "whatever fills lent room gives how many entries"
abbrev pub count_reply : Result ℕ Fault → Reply
count_reply (Ok n) = numbers (pos n ∷ [])
count_reply (Err (k, p)) = refused k p

-- two numbers in their order
abbrev pub pair_reply : Result (ℕ × ℕ) Fault → Reply
pair_reply (Ok (a, n)) = numbers (pos a ∷ pos n ∷ [])
pair_reply (Err (k, p)) = refused k p

-- a moment of n bytes: 0 for start of time, 1 for end of time, 2 and the ticks for an instant
abbrev pub moment_numbers : ℕ → ℕ → Reply
moment_numbers m n =
    pick (eqb m start_of_time) (numbers (pos 0 ∷ pos 0 ∷ pos n ∷ []))
    (pick (eqb m end_of_time) (numbers (pos 1 ∷ pos 0 ∷ pos n ∷ [])) (numbers (pos 2 ∷ ticks_of m ∷ pos n ∷ [])))

abbrev pub moment_reply : Coded ℕ → Reply
moment_reply (Ok (m, n)) = moment_numbers m n
moment_reply (Err k) = refused k 0

-- the previous transition, "which must be finite": 0, which is no instant, where it is said not to be one or lies outside the range
abbrev pub previous_of : Bool → ℤ → ℕ
previous_of finite z = pick finite (instant_of z) 0

-- what a kind and ticks name; no moment for a kind above 2 and for ticks outside the range
unfoldable pub moment_of : ℕ → ℤ → ℕ
moment_of kind z =
    pick (eqb kind 0) start_of_time (pick (eqb kind 1) end_of_time (pick (eqb kind 2) (or_none (instant_of z)) no_moment))

-- "7 for a number the code can't carry": a count is not below 0
abbrev pub integer_form : ℤ → Form
integer_form (pos n) = count_form n
integer_form (negsuc n) = unfit BadCode
