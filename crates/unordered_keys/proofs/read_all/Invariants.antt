use mathlib.Core.Path.{◌≡◌}
use Prim.Native.Nat.{◌-◌}
use lib.ListN.{length}
use Rattle.unordered_keys.proofs.StepLaws.{Reading}
use Rattle.unordered_keys.proofs.read_all.Given as goal

abbrev pub invariant-loop-done : goal.invariant-loop-done
invariant-loop-done l = (length l.starts ≡ length l.initial.starts) × (length l.ends ≡ length l.initial.ends) × (length l.order ≡ length l.initial.order) × Reading l.s l.from l.n l.starts l.ends l.order l.done l.at

abbrev pub decreases-loop-done : goal.decreases-loop-done
decreases-loop-done l = l.n - l.done
