use mathlib.Core.Path.{sym, ap}
use Prim.Native.Nat.{◌-◌}
use Rattle.closed_files.specs.File.{unread_id}
use Rattle.closed_walks.proofs.CountLaws.{unread-other}
use Rattle.closed_walks.proofs.is_unread.Goals as goal

pub returns-then-i-eq4 : goal.returns-then-i-eq4
unfolding unread_id
returns-then-i-eq4 c = ap unread_id (sym c.if-i-eq4.true)

pub returns-then-i-eq5 : goal.returns-then-i-eq5
unfolding unread_id
returns-then-i-eq5 c = ap unread_id (sym c.if-i-eq5.true)

pub returns : goal.returns
returns c = unread-other _ c.if-i-eq4.false c.if-i-eq5.false
