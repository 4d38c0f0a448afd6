-- What the program writes: 01, "One whole file". To be believed.
use Rattle.lines.specs.declared.Kind.{Kind}
use Rattle.answers.specs.declared.Found.{Found}
use Rattle.std.specs.declared.option.Option.{Option}
use Rattle.std.specs.declared.option.Option.TheVariants.{None, Some}
use Rattle.base.specs.Coded.{Fault}
use Rattle.base.specs.Refusals.{refusal_number}
use Rattle.std.specs.Prelude.{ℕ, leb, length, take, Err, Ok, Result, ℤ}
use mathlib.Core.List.{List, map, flatten}
use Rattle.base.specs.Pick.{pick}
use Rattle.asked_lines.specs.Asked.{asked_by}
use Rattle.answers.specs.Answers.{name_of}
use Rattle.lines.specs.Question.{parse_line}
use Rattle.answer_lines.specs.Reply.{answer_line, refusal_line}
use Rattle.lines.specs.Splitting.{lines_of}

-- the line of an answer from the file s
unfoldable pub line_of : List ℕ → Result Found Fault → List ℕ
line_of s (Ok f) = answer_line f.wall f.savings f.standard (name_of s f)
line_of s (Err (refusal, place)) = refusal_line (refusal_number refusal) place

-- the ID is the line's front; 16 for a line that isn't understood
unfoldable pub reply_to : List ℕ → List ℕ → Option (ℕ × ℤ × Kind) → List ℕ
reply_to s line (Some (n, t, kind)) = line_of s (asked_by s (take n line) t kind)
reply_to s line None = refusal_line 16 0

-- "up to 65,536 bytes, longer gives `4 0` for each line, before all else"
unfoldable pub reply_of : List ℕ → List ℕ → List ℕ
reply_of s line = pick (leb (length s) 65536) (reply_to s line (parse_line line)) (refusal_line 4 0)

-- the whole output, a reply for each line of the input
abbrev pub output_of : List ℕ → List ℕ → List ℕ
output_of s input = flatten (map (reply_of s) (lines_of input))
