-- "The numbers given back": the number of each refusal. To be believed.
use Rattle.std.specs.Prelude.{ℕ}
use Rattle.base.specs.declared.Refusal.{Refusal}
use Rattle.base.specs.declared.Refusal.TheVariants.{NotYet, CutShort, WrongVersion, TooLarge, FieldOrder, FirstField, BadCode, BadText, BadData, BadInterval, BadRecurrence, NotFound, SecondZone, OutOfRange, TooShort, NoInstant, TooManySteps, SecondAlias, BadLocation, BadTrace, UnreadField, Other}

abbrev pub refusal_number : Refusal → ℕ
refusal_number NotYet = 1
refusal_number CutShort = 2
refusal_number WrongVersion = 3
refusal_number TooLarge = 4
refusal_number FieldOrder = 5
refusal_number FirstField = 6
refusal_number BadCode = 7
refusal_number BadText = 8
refusal_number BadData = 9
refusal_number BadInterval = 10
refusal_number BadRecurrence = 11
refusal_number NotFound = 12
refusal_number SecondZone = 13
refusal_number OutOfRange = 14
refusal_number TooShort = 15
refusal_number NoInstant = 17
refusal_number TooManySteps = 18
refusal_number SecondAlias = 19
refusal_number BadLocation = 20
refusal_number BadTrace = 21
refusal_number UnreadField = 22
refusal_number (Other k) = k
