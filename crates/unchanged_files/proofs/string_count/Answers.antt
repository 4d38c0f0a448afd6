use mathlib.Core.Path.{sym, ◌∙◌}
use native.Mathlib.Omega.{arith}
use Rattle.unchanged_files.proofs.SameLaws.{strings-counted, strings-unread}
use Rattle.unchanged_files.proofs.string_count.Goals as goal

pub returns-in-Err : goal.returns-in-Err
returns-in-Err c = strings-unread _ (λ i. omega (arith, c.shared_slice_known-1.given i)) c.requires _ (sym c.read_count-g.ensures ∙ c.in-Err.is)

pub returns-in-Ok : goal.returns-in-Ok
returns-in-Ok c = strings-counted _ (λ i. omega (arith, c.shared_slice_known-1.given i)) c.requires _ _ (sym c.read_count-g.ensures ∙ c.in-Ok.is)
