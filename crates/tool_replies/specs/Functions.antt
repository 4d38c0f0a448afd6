-- What the C functions of Ask 14 say of what they are given. To be believed: what programs in C are told.
use Rattle.std.specs.declared.option.Option.{Option}
use Rattle.std.specs.declared.option.Option.TheVariants.{None, Some}
use Rattle.base.specs.Coded.{Fault}
use Rattle.std.specs.Prelude.{ℕ, [], ◌∷◌, pos, negsuc, Err, Ok, Result}
use Rattle.replies.specs.Reply.{Reply, numbers, refused}
use Rattle.replies.specs.Functions.{length_result, count_reply, pair_reply}

-- "The number, from 0, of the entry left", then "the count of looks given"
abbrev pub search_reply : Result (ℕ × ℕ) Fault → Reply
search_reply x = pair_reply x

-- "Report the first record, numbered from 0, .. or none": -1 is no record's number
abbrev pub report_reply : Result (Option ℕ) Fault → Reply
report_reply (Ok (Some i)) = numbers (pos i ∷ [])
report_reply (Ok None) = numbers (negsuc 0 ∷ [])
report_reply (Err (n, p)) = refused n p

-- "whatever fills lent room gives how many entries": of a table of starts
abbrev pub filling_reply : Result ℕ Fault → Reply
filling_reply x = count_reply x

-- and the stretches of a difference
abbrev pub listing_reply : Result ℕ Fault → Reply
listing_reply x = count_reply x

-- "how many .. bytes": the length of a closed file, as of a rewrite
abbrev pub closed_result : Result ℕ Fault → ℕ
closed_result x = length_result x
