-- What the C functions on files say of what they are given. To be believed: what programs in C are told.
use Rattle.answers.specs.declared.Found.{Found}
use Rattle.base.specs.Coded.{Fault}
use Rattle.std.specs.Prelude.{ℕ, Bool, true, false, [], ◌∷◌, pos, Err, Ok, Result, ℤ}
use Rattle.zones.specs.declared.Edition.{Edition}
use Rattle.zones.specs.declared.Edition.TheVariants.{One, Two}
use Rattle.answers.specs.declared.Mark.{Mark}
use Rattle.answers.specs.declared.Mark.TheVariants.{More, All}
use Rattle.replies.specs.Reply.{Reply, numbers, refused}
use Rattle.replies.specs.Functions.{length_result, pair_reply}

-- "A rewrite gives its length"
abbrev pub rewritten_result : Result ℕ Fault → ℕ
rewritten_result r = length_result r

-- "The marked question says 'more may come' or 'this is all'."
abbrev pub mark_of : Bool → Mark
mark_of true = More
mark_of false = All

-- Ask 11: "Questions take an edition, 1 or 2, and no third can be named": whether it is the first
abbrev pub edition_of : Bool → Edition
edition_of true = One
edition_of false = Two

-- "An answer carries wall offset, savings, the name as a part of the lent bytes, and the interval's start and end."; after savings, "the standard
-- offset"
abbrev pub answer_reply : Result Found Fault → Reply
answer_reply (Ok x) = numbers (x.wall ∷ x.savings ∷ x.standard ∷ pos x.name ∷ pos x.length ∷ x.start ∷ x.end ∷ [])
answer_reply (Err (n, p)) = refused n p

-- "how many instants in range read that way, with the earliest and the latest"
abbrev pub mapping_reply : Result (ℕ × ℤ × ℤ) Fault → Reply
mapping_reply (Ok (n, a, b)) = numbers (pos n ∷ a ∷ b ∷ [])
mapping_reply (Err (n, p)) = refused n p

-- the version text's place and length
abbrev pub version_reply : Result (ℕ × ℕ) Fault → Reply
version_reply t = pair_reply t
