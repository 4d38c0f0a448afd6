use Rattle.std.proofs.lemmas.Result.{err_from_is_err_and}
use native.Mathlib.Omega.{arith}
use Rattle.field_readers.proofs.TakeLaws.{text-refused, text-inside, text-over, text-whole}
use Rattle.check_steps.proofs.take_text.Goals as goal

pub overflow_add-b : goal.overflow_add-b
overflow_add-b c = omega (arith, text-inside c.args.s.now c.args.k _ _ c.requires.0 c.requires.1 _ c.read_text-t.ensures _ _ c.in_ok-b.was)

pub returns-then-b-n : goal.returns-then-b-n
returns-then-b-n c = text-over _ _ _ _ c.requires.0 c.requires.1 _ c.read_text-t.ensures _ _ c.in_ok-b.was c.if-b-n.true

pub returns-in_err-b : goal.returns-in_err-b
returns-in_err-b c = let p = err_from_is_err_and c.from_residual.result c.from_residual.ensures.1 in
    rw (p.1, p.2) (text-refused _ _ _ _ c.requires.0 c.requires.1 _ c.read_text-t.ensures _ c.in_err-b.was)

pub returns : goal.returns
returns c = text-whole _ _ _ _ c.requires.0 c.requires.1 _ c.read_text-t.ensures _ _ c.in_ok-b.was c.if-b-n.false
