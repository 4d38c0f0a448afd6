-- Laws of the program's output. Assumes nothing.
use Rattle.lines.specs.declared.Kind.{Kind}
use Rattle.base.specs.declared.Refusal.{Refusal}
use Rattle.std.specs.declared.option.Option.{Option}
use Rattle.std.specs.declared.option.Option.TheVariants.{None}
use Rattle.base.specs.Coded.{Fault}
use Rattle.base.specs.Refusals.{refusal_number}
use Rattle.std.specs.Prelude.{Err, Ok, Result, ℤ}
use mathlib.Core.Path.{◌≡◌, ap}
use mathlib.Core.List.{List, [], map, flatten}
use Prim.Native.Nat.{ℕ, ◌+◌, ◌^◌, ◌≤◌, ◌<◌}
use native.Mathlib.Omega.{arith}
use lib.ListN.{length, take, drop, length-take, length-drop}
use lib.Seq.{take_all, length-take-le}
use mir.Syntax.{w64}
use mir.Val.{SFits}
use borrow.Author.Tests.{le-leb, lt-leb}
use Rattle.base.proofs.Tests.{by_order}
use Rattle.answers.specs.Answers.{name_of}
use Rattle.answers.specs.declared.Found.{Found}
use Rattle.lines.specs.Question.{parse_line}
use Rattle.answer_lines.specs.Reply.{refusal_line}
use Rattle.lines.specs.Splitting.{lines_in_blocks}
use Rattle.lines.proofs.QuestionLaws.{too_long}
use Rattle.answer_lines.proofs.DecimalLaws.{decimal-short}
use Rattle.answer_lines.proofs.ReplyLaws.{answer-length, refusal-length, signed-short}
use Rattle.lines.proofs.SplitLaws.{lines-in-blocks}
use Rattle.line_replies.specs.Output.{line_of, reply_to, reply_of, output_of}

module _ (s line : List ℕ) where
  pub file-too-long : 65536 < length s → reply_of s line ≡ refusal_line 4 0
  unfolding reply_of
  file-too-long h = rw (lt-leb (length s) 65536 h)

  pub reply-is : length s ≤ 65536 → (l : Option (ℕ × ℤ × Kind)) → parse_line line ≡ l → reply_of s line ≡ reply_to s line l
  unfolding reply_of
  reply-is h l e = rw (le-leb (length s) 65536 h, e)

-- a reply looks no further than 2,049 bytes of its line
reply-near : (s l : List ℕ) → reply_of s (take 2049 l) ≡ reply_of s l
unfolding reply_of reply_to
reply-near s l =
    by_order (length l) 2049
    (λ h. rw (take_all 2049 l (omega arith)))
    (λ h. let e : length (take 2049 l) ≡ 2049 = length-take-le 2049 l h in
    rw (← too_long (take 2049 l) (omega arith), ← too_long l (omega arith)))

-- the replies to the lines of blocks of any size are the output for the whole input
pub output-in-blocks : (s : List ℕ) (blocks : List (List ℕ)) → flatten (map (reply_of s) (lines_in_blocks 2049 blocks [])) ≡ output_of s (flatten blocks)
output-in-blocks s blocks = ap flatten (lines-in-blocks (reply_of s) 2049 (omega arith) (reply-near s) blocks)

-- ---- a reply has at most 65,605 bytes

refusal-fits : (number place : ℕ) → number < 2 ^ 64 → place < 2 ^ 64 → length (refusal_line number place) ≤ 65605
refusal-fits number place h l =
    rw (refusal-length number place) (omega (arith, decimal-short number h, decimal-short place l))

pub refused-fits : (s : List ℕ) (a : Result Found Fault) (refusal : Refusal) (place : ℕ) → a ≡ Err (refusal, place) → refusal_number refusal < 2 ^ 64 → place < 2 ^ 64
    → length (line_of s a) ≤ 65605
unfolding line_of
refused-fits s a refusal place e h l = rw e (refusal-fits (refusal_number refusal) place h l)

name-within : (s : List ℕ) (f : Found) → length (name_of s f) ≤ length s
name-within s f =
    by_order (length s) (f.name + f.length)
    (λ h. rw (lt-leb (f.name + f.length) (length s) h) (omega arith))
    (λ h. rw (le-leb (f.name + f.length) (length s) h) (omega (arith, length-take f.length (drop f.name s), length-drop f.name s)))

pub answered-fits : (s : List ℕ) (a : Result Found Fault) (f : Found) → a ≡ Ok f → SFits w64 f.wall → SFits w64 f.savings → SFits w64 f.standard
    → length s ≤ 65536 → length (line_of s a) ≤ 65605
unfolding line_of
answered-fits s a f e w g d h =
    rw (e, answer-length f.wall f.savings f.standard (name_of s f))
    (omega (arith, signed-short f.wall w, signed-short f.savings g, signed-short f.standard d, name-within s f))

pub too-long-fits : (s line : List ℕ) → 65536 < length s → length (reply_of s line) ≤ 65605
too-long-fits s line h = rw (file-too-long s line h) (refusal-fits 4 0 (omega arith) (omega arith))

pub unclear-fits : (s line : List ℕ) → length s ≤ 65536 → parse_line line ≡ None → length (reply_of s line) ≤ 65605
unfolding reply_to
unclear-fits s line h e = rw (reply-is s line h None e) (refusal-fits 16 0 (omega arith) (omega arith))
