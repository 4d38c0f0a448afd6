use Prim.Native.Nat.{◌-◌, ◌≤◌, ◌<◌, ◌^◌}
use mathlib.Core.Path.{◌≡◌}
use lib.ListN.{length, drop}
use Rattle.lines.specs.Question.{digits}
use Rattle.parsed_lines.proofs.parse_digits.Given as goal

abbrev pub invariant-loop-i : goal.invariant-loop-i
invariant-loop-i l = (l.i ≤ length l.s) × (l.v < 10 ^ l.i) × (digits l.n l.minus 0 0 l.s ≡ digits l.n l.minus l.i l.v (drop l.i l.s))

abbrev pub decreases-loop-i : goal.decreases-loop-i
decreases-loop-i l = length l.s - l.i
