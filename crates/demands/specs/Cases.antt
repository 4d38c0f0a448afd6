-- TWELVE WORKED CASES OF DOCUMENT 01, each with the sentence that it is; of its plain lines Ask 1's. `worked` (proofs/Worked.antt) says that they hold; the other worked
-- values are run by programs (docs/STATEMENTS.md says which). To be believed.
use Rattle.answers.specs.declared.Found.{Found}
use Rattle.base.specs.Refusals.{refusal_number}
use Rattle.base.specs.Coded.{Coded, Fault}
use Rattle.std.specs.Prelude.{List, [], ◌∷◌, ◌++◌, ℕ, ◌+◌, ◌*◌, ◌-◌, ℤ, pos, negsuc, take, Err, Ok, Result}
use Rattle.base.specs.Moment.{epoch}
use Rattle.base.specs.Numbers.{GivenBack, answering, refusing}
use Rattle.base.specs.Parsed.{Parsed, got, bad}
use Rattle.base.specs.Writing.{Form, bytes, unfit}
use Rattle.signed.specs.Number.{given_by_number}
use Rattle.counts.specs.Count.{count_form}
use Rattle.counts.specs.SignedCount.{read_signed_count}
use Rattle.offsets.specs.Offset.{read_offset}
use Rattle.transitions.specs.Transition.{read_transition}
use Rattle.calendar.specs.Calendar.{day_number}
use Rattle.rules.specs.declared.Rule.{Rule}
use Rattle.occurrences.specs.Rules.{falls_on, occurrence, subtracted}
use Rattle.tails.specs.Tail.{parse_rule}
use Rattle.zones.specs.declared.Edition.TheVariants.{Two}
use Rattle.questions.specs.Question.{ask, ask_plain}
use Rattle.answers.specs.Answers.{name_of}
use Rattle.answers.specs.Numbers.{given_by_answer}
use Rattle.answers.specs.declared.Mark.{Mark}
use Rattle.answers.specs.declared.Mark.TheVariants.{More, All}

-- what is asked: a count written; a signed count, an offset or a transition (behind a previous one) read; a rule's bytes in a year, where
-- both wall offsets are zero; a marked or a plain question of some bytes
pub data Asking : Type 0 where
  writing : ℕ → Asking
  reading : (List ℕ → Coded ℤ) → List ℕ → Asking
  rule : List ℕ → ℕ → Asking
  question : List ℕ → List ℕ → ℤ → Mark → Asking
  plain : List ℕ → List ℕ → ℤ → Asking

-- what is given: a code's bytes; number, place and values; a day and a Unix second; wall offset, savings, standard offset and
-- name
pub data Given : Type 0 where
  code : List ℕ → Given
  told : GivenBack → Given
  falls : ℕ → ℕ → Given
  reply : ℤ → ℤ → ℤ → List ℕ → Given

-- a value and the length of its code
abbrev pub value : ℤ → ℕ → Given
value v n = told (answering (v ∷ pos n ∷ []))

-- a refusal's number and place
abbrev pub refusal : ℕ → ℕ → Given
refusal n p = told (refusing n p)

abbrev pub of_form : Form → Given
of_form (bytes xs) = code xs
of_form (unfit n) = refusal (refusal_number n) 0

-- "years 0 and below allowed": a year is counted from -399
abbrev pub of_rule : ℕ → Parsed Rule → Given
of_rule y (got r q) = falls (falls_on r (y + 399)) (occurrence r (subtracted r.mode 86400000 86400000) (y + 399) - epoch)
of_rule y (bad n) = refusal (refusal_number n) 0

abbrev pub of_answer : List ℕ → Result Found Fault → Given
of_answer bs (Ok x) = reply x.wall x.savings x.standard (name_of bs x)
of_answer bs (Err (n, p)) = told (given_by_answer (Err (n, p)))

abbrev pub given : Asking → Given
given (writing v) = of_form (count_form v)
given (reading read s) = told (given_by_number (read s))
given (rule s y) = of_rule y (parse_rule s)
given (question bs id z mark) = of_answer bs (ask bs id z mark Two)
given (plain bs id z) = of_answer bs (ask_plain bs id z Two)

pub record Case : Type 0 where
  pub asked : Asking
  pub expected : Given

-- "00 00 00 00, 00 05 01 03 55 54 43, 01 04 00 01 30 00: 17 bytes, one fixed zone 'UTC'"
abbrev pub file : List ℕ
file = 0 ∷ 0 ∷ 0 ∷ 0 ∷ 0 ∷ 5 ∷ 1 ∷ 3 ∷ 0x55 ∷ 0x54 ∷ 0x43 ∷ 1 ∷ 4 ∷ 0 ∷ 1 ∷ 0x30 ∷ 0 ∷ []

abbrev pub utc : List ℕ
utc = 0x55 ∷ 0x54 ∷ 0x43 ∷ []

abbrev pub gmt : List ℕ
gmt = 0x47 ∷ 0x4D ∷ 0x54 ∷ []

abbrev pub cases : List Case
cases =
    -- 1. "0x16a is EA 02"
    record { asked = writing 0x16a; expected = code (0xEA ∷ 0x02 ∷ []) }
    -- 2. "-2147483648 is FF FF FF FF 0F"
    ∷ record { asked = reading read_signed_count (0xFF ∷ 0xFF ∷ 0xFF ∷ 0xFF ∷ 0x0F ∷ []); expected = value (negsuc 2147483647) 5 }
    -- 3. "-00:01:15 is A1 51 35"
    ∷ record { asked = reading read_offset (0xA1 ∷ 0x51 ∷ 0x35 ∷ []); expected = value (negsuc 74999) 3 }
    -- 4. "5,040 hours is B0 27", behind the first tick of 1970
    ∷ record { asked = reading (read_transition (pos 0)) (0xB0 ∷ 0x27 ∷ []); expected = value (pos (5040 * 36000000000)) 2 }
    -- 5. "Rule 1C 03 01 32 (last Sunday of March, 01:00 UTC) falls on 2024-03-31, Unix second 1711846800"
    ∷ record { asked = rule (0x1C ∷ 0x03 ∷ 0x01 ∷ 0x32 ∷ []) 2024; expected = falls (day_number (2024 + 399) 3 31) (1711846800 * 10000000) }
    -- 6. "Rule 3E 03 10 34 (Sunday on or after 8 March, 02:00 wall) falls on 2024-03-10": 02:00 of that day is Unix second 1710036000
    ∷ record { asked = rule (0x3E ∷ 0x03 ∷ 0x10 ∷ 0x34 ∷ []) 2024; expected = falls (day_number (2024 + 399) 3 10) (1710036000 * 10000000) }
    -- 7. "`UTC 0` writes `0 0 0 UTC`", and by Ask 7 "01's output lines gain it after savings": `0 0 0 0 UTC`
    ∷ record { asked = plain file utc (pos 0); expected = reply (pos 0) (pos 0) (pos 0) utc }
    -- 8. Ask 1: "unmarked lines .. write `1 17` for GMT"
    ∷ record { asked = plain file gmt (pos 0); expected = refusal 1 17 }
    -- 9. Ask 1: "`1 11` on 16 bytes"
    ∷ record { asked = plain (take 16 file) utc (pos 0); expected = refusal 1 11 }
    -- 10. `2 11` on the first 16 bytes, by a line that says "this is all"
    ∷ record { asked = question (take 16 file) utc (pos 0) All; expected = refusal 2 11 }
    -- 11. "With one byte 02 added, `GMT 0 part` writes `12 17`"
    ∷ record { asked = question (file ++ 2 ∷ []) gmt (pos 0) More; expected = refusal 12 17 }
    -- 12. Ask 1: "and `1 0` on none"
    ∷ record { asked = plain [] utc (pos 0); expected = refusal 1 0 }
    ∷ []
