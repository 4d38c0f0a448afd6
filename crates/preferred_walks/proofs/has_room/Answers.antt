use lib.ListN.{length}
use Rattle.rewrite.specs.Preferred.{preferred}
use mathlib.Core.Path.{sym, ap}
use Prim.Native.Nat.{ℕ}
use native.Mathlib.Omega.{arith}
use lib.Dec.{leb}
use borrow.Author.Tests.{le-leb}
use Rattle.preferred_walks.proofs.has_room.Goals as goal

pub returns-then-s-room : goal.returns-then-s-room
returns-then-s-room c = sym (le-leb (length (preferred c.args.s.now)) _ (omega (arith, c.requires.shorter)))

pub returns : goal.returns
returns c = ap (λ (n : ℕ). leb n c.args.room) c.total.ensures
