use mathlib.Core.Path.{sym}
use lib.Seq.{set_out}
use Rattle.field_readers.proofs.set_flag.Goals as goal

pub returns-then-flags-id : goal.returns-then-flags-id
returns-then-flags-id c = rw c.if-preferred.false (sym (set_out _ _ _ c.if-flags-id.true))

pub returns : goal.returns
returns c = rw c.if-preferred.false
