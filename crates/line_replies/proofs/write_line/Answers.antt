use Prim.Native.Nat.{◌<◌, ◌^◌}
use native.Mathlib.Omega.{arith}
use Rattle.std.proofs.Common.{rules}
use mir.Syntax.{w64}
use mir.Val.{SFits}
use mir.Facts.{to_z-of_z}
use Rattle.base.specs.Refusals.{refusal_number}
use Rattle.line_replies.specs.Output.{line_of}
use Rattle.line_replies.proofs.OutputLaws.{refused-fits, answered-fits}
use Rattle.line_replies.proofs.write_line.Goals as goal

pub returns-in-Ok : goal.returns-in-Ok
unfolding line_of
returns-in-Ok c =
    let wall : SFits w64 c.in-Ok.found.wall = search rules in
    let savings : SFits w64 c.in-Ok.found.savings = search rules in
    let standard : SFits w64 c.in-Ok.found.standard = search rules in
    let written = rw (to_z-of_z wall, to_z-of_z savings, to_z-of_z standard) at c.write_answer.ensures in
    record {
      value = rw (c.in-Ok.is, ← c.name_of.ensures) written;
      answer_len_bound = answered-fits _ _ _ c.in-Ok.is wall savings standard;
    }

pub returns-in-Err : goal.returns-in-Err
unfolding line_of
returns-in-Err c =
    let number : refusal_number c.in-Err.refusal < 2 ^ 64 = omega (arith, c.number.ensures) in
    let place : c.in-Err.place < 2 ^ 64 = search rules in
    record {
      value = rw (c.in-Err.is, ← c.number.ensures) c.write_refusal.ensures;
      answer_len_bound = λ h. refused-fits _ _ _ _ c.in-Err.is number place;
    }
