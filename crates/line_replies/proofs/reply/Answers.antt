use Prim.Native.Nat.{◌≤◌, ◌<◌}
use mathlib.Core.Path.{sym, ◌∙◌}
use native.Mathlib.Omega.{arith}
use lib.ListN.{length, length-take}
use mir.Syntax.{w64}
use mir.Val.{SFits}
use mir.Facts.{to_z-of_z}
use Rattle.std.proofs.Common.{rules}
use Rattle.lines.proofs.QuestionLaws.{id-within}
use Rattle.line_replies.specs.Output.{reply_to}
use Rattle.line_replies.proofs.OutputLaws.{file-too-long, reply-is, too-long-fits, unclear-fits}
use Rattle.line_replies.proofs.reply.Goals as goal

pub returns-then-s-gt65536 : goal.returns-then-s-gt65536
returns-then-s-gt65536 c =
    let large : 65536 < length c.args.s.now = omega arith in
    record {
      value = rw (file-too-long c.args.s.now c.args.line.now large) c.write_refusal.ensures;
      line_len_bound = too-long-fits c.args.s.now c.args.line.now large;
    }

pub slice_bounds-ask-end : goal.slice_bounds-ask-end
slice_bounds-ask-end c = simp length-take (omega (arith, id-within c.args.line.now _ _ _ (sym c.in-Some.is ∙ c.parse_line.ensures)))

pub returns-in-Some : goal.returns-in-Some
unfolding reply_to
returns-in-Some c =
    let small : length c.args.s.now ≤ 65536 = omega arith in
    let ticks : SFits w64 c.in-Some.t = search rules in
    let asked = rw (to_z-of_z ticks) at c.ask.ensures in
    let line = reply-is c.args.s.now c.args.line.now small _ (sym c.parse_line.ensures ∙ c.in-Some.is) in
    record {
      value = rw (line, ← asked) c.write_line.ensures.value;
      line_len_bound = rw (line, ← asked) (c.write_line.ensures.answer_len_bound small);
    }

pub returns-in-None : goal.returns-in-None
unfolding reply_to
returns-in-None c =
    let small : length c.args.s.now ≤ 65536 = omega arith in
    record {
      value = rw (reply-is c.args.s.now c.args.line.now small _ (sym c.parse_line.ensures ∙ c.in-None.is)) c.write_refusal-in-None.ensures;
      line_len_bound = unclear-fits c.args.s.now c.args.line.now small (sym c.parse_line.ensures ∙ c.in-None.is);
    }
