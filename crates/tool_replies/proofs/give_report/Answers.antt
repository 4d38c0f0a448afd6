use Rattle.base.specs.Coded.{Fault}
use Rattle.std.specs.Prelude.{Ok, Result}
use Rattle.std.specs.declared.option.Option.{Option}
use Rattle.std.specs.declared.option.Option.TheVariants.{Some}
use Prim.Native.Nat.{ℕ, ◌<◌, ◌^◌}
use mathlib.Core.Path.{◌≡◌, ◌∙◌, ap}
use mir.Syntax.{w64}
use mir.Facts.{to_z_pos}
use Rattle.replies.proofs.ReplyLaws.{gave, denied}
use Rattle.tool_replies.specs.Functions.{report_reply}
use Rattle.tool_replies.specs.Small.{SmallReport}
use Rattle.tool_replies.proofs.give_report.Goals as goal

-- what was reported, told by two patterns
told : {x : Result (Option ℕ) Fault} {o p : Option ℕ} → x ≡ Ok o → o ≡ p → x ≡ Ok p
told h q = h ∙ ap Ok q

below : (x : Result (Option ℕ) Fault) (i : ℕ) → SmallReport x → x ≡ Ok (Some i) → i < 2 ^ 63
below x i h e = rw e at h.to

pub overflow_cast-out : goal.overflow_cast-out
overflow_cast-out c = record { sfits = below _ c.in-Ok-Some.i c.requires (told c.in-Ok-Some.is (rw c.in-Ok-Some.is at c.in-Ok-Some.field-0-is)) }

pub refusal-requires : goal.refusal-requires
refusal-requires c = rw c.in-Err.is at c.requires.to

pub returns-in-Ok-Some : goal.returns-in-Ok-Some
returns-in-Ok-Some c = rw (to_z_pos w64 (below _ c.in-Ok-Some.i c.requires (told c.in-Ok-Some.is (rw c.in-Ok-Some.is at c.in-Ok-Some.field-0-is)))) (gave _ _ _ (ap report_reply (told c.in-Ok-Some.is (rw c.in-Ok-Some.is at c.in-Ok-Some.field-0-is))))

pub returns-in-Ok-None : goal.returns-in-Ok-None
returns-in-Ok-None c = gave _ _ _ (ap report_reply (told c.in-Ok-None.is (rw c.in-Ok-None.is at c.in-Ok-None.field-0-is)))

pub returns-in-Err : goal.returns-in-Err
returns-in-Err c = denied _ _ _ _ _ (ap report_reply c.in-Err.is) c.refusal.ensures
