use mathlib.Core.Path.{sym, ◌∙◌}
use native.Mathlib.Omega.{arith}
use Rattle.texts.proofs.TextLaws.{held, bytes-held, bytes-none}
use Rattle.texts.proofs.text_bytes.Goals as goal

pub overflow_add-e : goal.overflow_add-e
overflow_add-e c = let h = held _ _ _ (sym c.read_text-t.ensures ∙ c.in-Ok.is) in omega arith

pub slice_bounds-result-end-in-Ok : goal.slice_bounds-result-end-in-Ok
slice_bounds-result-end-in-Ok c = (held _ _ _ (sym c.read_text-t.ensures ∙ c.in-Ok.is)).inside

pub returns-in-Err : goal.returns-in-Err
returns-in-Err c = bytes-none _ _ _ c.read_text-t.ensures c.in-Err.is

pub returns-in-Ok : goal.returns-in-Ok
returns-in-Ok c = bytes-held _ _ _ _ c.read_text-t.ensures c.in-Ok.is
