use Rattle.std.proofs.lemmas.Result.{err_from_is_err_and}
use mir.Facts.{to_z-of_z}
use Rattle.signed.proofs.IntegerLaws.{instant-finite}
use Rattle.old_named_questions.proofs.AskLaws.{ask-outside, ask-ill, ask-checked}
use Rattle.old_name_answers.proofs.ask_named_old.Goals as goal

pub returns-then-t-eq0 : goal.returns-then-t-eq0
returns-then-t-eq0 c = ask-outside _ _ _ _ _ _ (rw (to_z-of_z c.ranges.ticks) at c.instant-t.ensures) c.if-t-eq0.true

pub ask_checked-requires : goal.ask_checked-requires
ask_checked-requires c = instant-finite _ _ c.instant-t.ensures c.if-t-eq0.false

pub returns-in_err-check : goal.returns-in_err-check
returns-in_err-check c = let p = err_from_is_err_and c.from_residual.result c.from_residual.ensures.1 in
    rw (p.1, p.2) (ask-ill _ _ _ _ _ _ (rw (to_z-of_z c.ranges.ticks) at c.instant-t.ensures) c.if-t-eq0.false _ c.check.ensures _ _ c.in_err-check.was)

pub returns : goal.returns
returns c = ask-checked _ _ _ _ _ _ (rw (to_z-of_z c.ranges.ticks) at c.instant-t.ensures) c.if-t-eq0.false _ c.check.ensures c.in_ok-check.was _ c.ask_checked.ensures
