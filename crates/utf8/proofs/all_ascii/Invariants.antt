use mathlib.Core.Path.{◌≡◌}
use mathlib.Core.Bool.{false}
use Prim.Native.Nat.{◌≤◌, ◌-◌}
use lib.ListN.{length, drop}
use lib.Dec.{eqb}
use Rattle.base.specs.Pick.{pick}
use Rattle.utf8.specs.Ascii.{ascii}
use Rattle.utf8.proofs.all_ascii.Given as goal

abbrev pub invariant-loop-i : goal.invariant-loop-i
invariant-loop-i l = (l.i ≤ length l.s) × (pick (eqb l.m 0) (ascii (drop l.i l.s)) false ≡ ascii l.s)

abbrev pub decreases-loop-i : goal.decreases-loop-i
decreases-loop-i l = length l.s - l.i
