-- Ask 14: "one call fills a lent table with one zone's listed interval starts .. (a question's refusals, 14 aside, come first, then 15 if too
-- short)". To be believed; `starts-refuse` and `starts-answer` (proofs/AskLaws.antt) tie the refusals to the question's.
use Rattle.base.specs.Coded.{Fault}
use Rattle.base.specs.declared.Refusal.TheVariants.{CutShort, NotFound, TooShort}
use Rattle.std.specs.Prelude.{ℕ, ◌≡◌, List, leb, ℤ, length, Err, Ok, Result}
use Rattle.base.specs.Pick.{pick}
use Rattle.frames.specs.Machine.{Out, found, refused, cut, ended, walk}
use Rattle.answers.specs.Answers.{Pool, no_pool}
use Rattle.locate.specs.Asked.{Held, holder}
use Rattle.zone_starts.specs.Starts.{starts_of, table_of}

-- "gives how many entries"; 15 has the place 0
unfoldable pub entries_of : List ℤ → List ℤ → Result ℕ Fault
entries_of xs d = pick (leb (length xs) (length d)) (Ok (length xs)) (Err (TooShort, 0))

-- of the walk to the asked zone, where the bytes are all there is: 2 inside the version or a field, 12 at the end of one
abbrev pub filled_at : Out Pool Held → List ℤ → Result ℕ Fault
filled_at (found v p) d = entries_of (starts_of v.zone.body) d
filled_at (refused n p) d = Err (n, p)
filled_at (cut p) d = Err (CutShort, p)
filled_at (ended m p) d = Err (NotFound, p)

-- what the table holds then: the starts, "later ones as found"; a refusal keeps it
abbrev pub table_at : Out Pool Held → List ℤ → List ℤ
table_at (found v p) d = table_of (starts_of v.zone.body) d
table_at (refused n p) d = d
table_at (cut p) d = d
table_at (ended m p) d = d

-- both: r and e are the result and the table of filling d
abbrev pub FillsAt : Out Pool Held → List ℤ → Result ℕ Fault → List ℤ → Type 0
FillsAt o d r e = (r ≡ filled_at o d) × (e ≡ table_at o d)

abbrev pub FillsFrom : List ℕ → List ℕ → List ℤ → Result ℕ Fault → List ℤ → Type 0
FillsFrom f id d r e = FillsAt (walk (holder id) no_pool f) d r e
