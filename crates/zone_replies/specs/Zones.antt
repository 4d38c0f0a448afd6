-- A zone found once, as programs in C are told of it. To be believed.
use Rattle.base.specs.Coded.{Fault}
use Rattle.std.specs.Prelude.{ℕ, List, [], ◌∷◌, ◌≡◌, get_or, Err, Ok, Result}
use Rattle.found_zones.specs.declared.FoundZone.{FoundZone}
use Rattle.replies.specs.Reply.{refusal, Reply}
use Rattle.replies.specs.Functions.{count_reply}

abbrev pub finding_result : Result FoundZone Fault → ℕ
finding_result (Ok v) = 0
finding_result (Err (n, p)) = refusal n p

-- where the data of field 0 and those of the zone start and end, and the zone's ID byte; "every refusal keeps all lent output as found"
abbrev pub finding_output : Result FoundZone Fault → List ℕ → List ℕ
finding_output (Ok v) d = v.pool ∷ v.past ∷ v.start ∷ v.end ∷ v.place ∷ []
finding_output (Err (n, p)) d = d

-- the result r and the output e at the return, where the output was d and x was found
pub record GivesZone (x : Result FoundZone Fault) (d : List ℕ) (r : ℕ) (e : List ℕ) : Type 0 where
  pub result : r ≡ finding_result x
  pub output : e ≡ finding_output x d

-- the same five numbers as a question takes them, whatever they are
abbrev pub zone_by : List ℕ → FoundZone
zone_by c = record { pool = get_or c 0 0; past = get_or c 1 0; start = get_or c 2 0; end = get_or c 3 0; place = get_or c 4 0 }

-- "whatever fills lent room gives how many entries": the rows of a table of answers
abbrev pub listed_reply : Result ℕ Fault → Reply
listed_reply x = count_reply x
